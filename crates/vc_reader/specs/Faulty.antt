-- Where a fault is, and what is wrong there.
use Rattle.std.specs.Prelude.{◌≡◌, ℕ, ℤ, ◌<◌, ◌≤◌, ◌^◌, List, [], ◌∷◌, ◌++◌, length, false, Option, Some, None, ◌⊎◌}
use Rattle.serde_json.specs.Data.{Data, number, string, object, unsigned, negative, Members}
use Rattle.serde_json.specs.Find.{get, at, get_member}
use Rattle.vc_reader.specs.Network.{switch_words}
use Rattle.vc_reader.specs.NetworkText.{network_words}
use Rattle.vc_reader.specs.Reading.{is_word}
use Rattle.vc_reader.specs.Words.{word_text}
use Rattle.vc_reader.specs.declared.word.Word.{Word}
use Rattle.vc_reader.specs.declared.word.Word.TheVariants as word
use Rattle.vc_reader.specs.declared.path.Step.{Step}
use Rattle.vc_reader.specs.declared.path.Step.TheVariants.{Field, Index}
use Rattle.vc_reader.specs.declared.fault.Why.{Why}
use Rattle.vc_reader.specs.declared.fault.Why.TheVariants.{Missing, Kind, Range, Unknown}

-- the part of a value to which a step leads
abbrev pub part_at : Step → Data → Option Data
part_at (Field w) d = get (word_text w) d
part_at (Index n) d = at n d

-- an object of no fields but these, a whole number from least to most, a number of 64 bits with sign, a text of at most 65,535 bytes
pub data Wanted : Type 0 where
  Fields : List Word → Wanted
  Whole : (least most : ℕ) → Wanted
  Integer : Wanted
  Message : Wanted

abbrev pub process_words : List Word
process_words =
    word.Set ∷ word.Out ∷ word.In ∷ word.Stopch ∷ word.Seq ∷ word.Par ∷ word.If ∷ word.While ∷ word.For ∷ word.Alt ∷ []

-- the path leads to a node's process, or further
pub data InProcess : List Step → Type 0 where
  whole : (n : ℕ) → InProcess (Field word.Nodes ∷ Index n ∷ Field word.Process ∷ [])
  part : (path : List Step) (s : Step) → InProcess path → InProcess (path ++ s ∷ [])

-- what the format wants where a path leads: in the file itself, its nodes, switches, wires, virtual links, channels and processes
pub data Wants : List Step → Wanted → Type 0 where
  file : Wants [] (Fields network_words)
  version : Wants (Field word.Version ∷ []) (Whole 1 2)
  node : (n : ℕ) → Wants (Field word.Nodes ∷ Index n ∷ []) (Fields (word.Name ∷ word.Vars ∷ word.Process ∷ []))
  switch : (n v : ℕ) → Wants (Field word.Switches ∷ Index n ∷ []) (Fields (switch_words v))
  lower : (n k : ℕ) → Wants (Field word.Switches ∷ Index n ∷ Field word.Table ∷ Index k ∷ Index 0 ∷ []) (Whole 0 65535)
  limit : (n k : ℕ) → Wants (Field word.Switches ∷ Index n ∷ Field word.Table ∷ Index k ∷ Index 1 ∷ []) (Whole 0 65536)
  first : (n k : ℕ) → Wants (Field word.Switches ∷ Index n ∷ Field word.Table ∷ Index k ∷ Index 2 ∷ []) (Whole 0 31)
  last : (n k : ℕ) → Wants (Field word.Switches ∷ Index n ∷ Field word.Table ∷ Index k ∷ Index 3 ∷ []) (Whole 0 31)
  delete : (n k : ℕ) → Wants (Field word.Switches ∷ Index n ∷ Field word.Delete ∷ Index k ∷ []) (Whole 0 31)
  random : (n k : ℕ) → Wants (Field word.Switches ∷ Index n ∷ Field word.Random ∷ Index k ∷ Index 0 ∷ []) (Whole 0 31)
  random_lower : (n k : ℕ) → Wants (Field word.Switches ∷ Index n ∷ Field word.Random ∷ Index k ∷ Index 1 ∷ []) (Whole 0 65535)
  random_limit : (n k : ℕ) → Wants (Field word.Switches ∷ Index n ∷ Field word.Random ∷ Index k ∷ Index 2 ∷ []) (Whole 0 65536)
  wire_from : (n : ℕ) → Wants (Field word.Wires ∷ Index n ∷ Index 1 ∷ []) (Whole 0 31)
  wire_to : (n : ℕ) → Wants (Field word.Wires ∷ Index n ∷ Index 3 ∷ []) (Whole 0 31)
  vlink : (n : ℕ) → Wants (Field word.Vlinks ∷ Index n ∷ []) (Fields (word.Name ∷ word.A ∷ word.B ∷ []))
  end_link : (n : ℕ) (w : Word) → Wants (Field word.Vlinks ∷ Index n ∷ Field w ∷ Index 1 ∷ []) (Whole 0 31)
  end_block : (n : ℕ) (w : Word) → Wants (Field word.Vlinks ∷ Index n ∷ Field w ∷ Index 2 ∷ []) (Whole 0 65535)
  end_header : (n k : ℕ) (w : Word) → Wants (Field word.Vlinks ∷ Index n ∷ Field w ∷ Index 3 ∷ Index k ∷ []) (Whole 0 65535)
  inside : (n : ℕ) → Wants (Field word.Channels ∷ Index n ∷ []) (Fields (word.Name ∷ word.Kind ∷ word.Node ∷ []))
  between : (n : ℕ) → Wants (Field word.Channels ∷ Index n ∷ []) (Fields (word.Name ∷ word.Kind ∷ word.Vlink ∷ word.Way ∷ []))
  process : (path : List Step) → InProcess path → Wants path (Fields process_words)
  integer : (path : List Step) → InProcess path → Wants path Integer
  bytes : (path : List Step) → InProcess path → Wants path (Fields (word.Hex ∷ word.Text ∷ word.Fill ∷ []))
  message : (path : List Step) → InProcess path → Wants path Message
  fill_byte : (path : List Step) → InProcess path → Wants (path ++ Index 0 ∷ []) (Whole 0 255)
  fill_count : (path : List Step) → InProcess path → Wants (path ++ Index 1 ∷ []) (Whole 0 65535)

-- From where one stands in a file, a path leads to what is wrong. A missing field: to an object that lacks it. Out of its range: to a
-- whole number outside the range of its place, or a text that is too long. Unknown: to a text, or to an object with a field that no
-- object has at that place.
pub data LeadsToFault : (here : List Step) → List Step → Why → Data → Type 0 where
  missing : (here : List Step) (w : Word) (ms : Members) → get_member (word_text w) ms ≡ None →
      LeadsToFault here (Field w ∷ []) Missing (object ms)
  other_kind : (here : List Step) (d : Data) → LeadsToFault here [] Kind d
  out_of_range : (here : List Step) (least most n : ℕ) → Wants here (Whole least most) → (n < least) ⊎ (most < n) →
      LeadsToFault here [] Range (number (unsigned n))
  below_zero : (here : List Step) (least most : ℕ) (z : ℤ) → Wants here (Whole least most) →
      LeadsToFault here [] Range (number (negative z))
  too_great : (here : List Step) (n : ℕ) → Wants here Integer → 2 ^ 63 ≤ n → LeadsToFault here [] Range (number (unsigned n))
  too_long : (here : List Step) (s : List ℕ) → Wants here Message → 65535 < length s → LeadsToFault here [] Range (string s)
  unknown_name : (here : List Step) (s : List ℕ) → LeadsToFault here [] Unknown (string s)
  unknown_field : (here : List Step) (ws : List Word) (ms : Members) (key : List ℕ) (d : Data) → Wants here (Fields ws) →
      get_member key ms ≡ Some d → is_word ws key ≡ false → LeadsToFault here [] Unknown (object ms)
  further : (here : List Step) (s : Step) (d e : Data) (path : List Step) (w : Why) → part_at s d ≡ Some e →
      LeadsToFault (here ++ s ∷ []) path w e → LeadsToFault here (s ∷ path) w d
