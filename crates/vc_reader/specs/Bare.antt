-- The network that the short form of a network file means, or why it is refused. The short form has no labelling: no virtual links, and
-- switches without tables. A wire may leave out its links, and a channel its kind and its ends.
use Rattle.std.specs.Prelude.{◌≡◌, ℕ, List, [], ◌∷◌, map, ◌==◌, if◌then◌else◌, Option, Some, None, Result, Ok, Err, IsUtf8}
use Rattle.serde_json.specs.Data.{Data, string}
use Rattle.serde_json.specs.Find.{get}
use Rattle.serde_json.specs.Read.{read}
use Rattle.vc_plan.specs.declared.switch_plan.SwitchPlan.{SwitchPlan}
use Rattle.vc_reader.specs.declared.bare.BareChannel.{BareChannel}
use Rattle.vc_reader.specs.declared.bare.BareEnds.{BareEnds}
use Rattle.vc_reader.specs.declared.bare.BareEnds.TheVariants.{Between, Within}
use Rattle.vc_reader.specs.declared.bare.BareNetwork.{BareNetwork}
use Rattle.vc_reader.specs.declared.bare.BareWire.{BareWire}
use Rattle.vc_reader.specs.declared.bare.BareWire.TheVariants.{Linked, Unlinked}
use Rattle.vc_reader.specs.declared.word.Word.{Word}
use Rattle.vc_reader.specs.declared.word.Word.TheVariants as word
use Rattle.vc_reader.specs.declared.path.Step.TheVariants.{Field}
use Rattle.vc_reader.specs.declared.fault.Fault.{Fault}
use Rattle.vc_reader.specs.declared.node.Head.{Head}
use Rattle.vc_reader.specs.declared.refused.ReadRefused.{ReadRefused}
use Rattle.vc_reader.specs.declared.refused.ReadRefused.TheVariants.{Json, Memory}
use Rattle.vc_reader.specs.Reading.{◌>>=◌, under, field, cell, read_list, list_field, items_in, row, read_object, has_field, read_number}
use Rattle.vc_reader.specs.Names.{new_name, has_name}
use Rattle.vc_reader.specs.Network.{read_kind, read_head, read_node, is_place, read_place, read_wire}
use Rattle.vc_reader.specs.NetworkText.{refusal}
use Rattle.vc_reader.specs.Words.{word_text}

-- a field that may be absent
abbrev pub absent_or : {A : Type 0} → (Data → Result A Fault) → Option Data → Result (Option A) Fault
absent_or read None = Ok None
absent_or read (Some d) = read d >>= λ x. Ok (Some x)

abbrev pub optional : {A : Type 0} → Word → (Data → Result A Fault) → Data → Result (Option A) Fault
optional w read d = under (Field w) (absent_or read (get (word_text w) d))

-- ---- switches

-- a name, or an object that has a name and nothing else
abbrev pub name_or_object : (Data → Result (List ℕ) Fault) → Data → Result (List ℕ) Fault
name_or_object read_name (string s) = read_name (string s)
name_or_object read_name d = read_object (word.Name ∷ []) d >>= λ _. field word.Name read_name d

abbrev pub read_bare_switch : List Head → List SwitchPlan → Data → Result SwitchPlan Fault
read_bare_switch heads before d = do
  name ← name_or_object (new_name (is_place heads before)) d
  Ok (record { name = name; rows = []; delete = []; random = [] })

-- ---- wires

abbrev pub linked : List Head → List SwitchPlan → Data → Result BareWire Fault
linked heads switches d = read_wire heads switches d >>= λ w. Ok (Linked w)

abbrev pub one_wire : List Head → List SwitchPlan → Data → Result BareWire Fault
one_wire heads switches d = do
  _ ← row 2 d
  one ← cell 0 (read_place heads switches) d
  two ← cell 1 (read_place heads switches) d
  Ok (Unlinked one two 1)

abbrev pub several_wires : List Head → List SwitchPlan → Data → Result BareWire Fault
several_wires heads switches d = do
  one ← cell 0 (read_place heads switches) d
  two ← cell 1 (read_place heads switches) d
  count ← cell 2 (read_number 1 256) d
  Ok (Unlinked one two count)

-- of four items a wire with its links, of three a place, a place and how many wires, of two a wire
abbrev pub read_bare_wire : List Head → List SwitchPlan → Data → Result BareWire Fault
read_bare_wire heads switches d =
    if items_in d == 4 then linked heads switches d else (if items_in d == 3 then several_wires heads switches d else one_wire heads switches d)

-- ---- channels

abbrev pub bare_channel_words : Data → List Word
bare_channel_words d = if has_field word.Node d then word.Name ∷ word.Kind ∷ word.Node ∷ [] else word.Name ∷ word.Kind ∷ word.From ∷ word.To ∷ []

abbrev pub bare_within : List Head → Data → Result BareEnds Fault
bare_within heads d = field word.Node (read_node heads) d >>= λ node. Ok (Within node)

abbrev pub bare_between : List Head → Data → Result BareEnds Fault
bare_between heads d = do
  from ← optional word.From (read_node heads) d
  to ← optional word.To (read_node heads) d
  Ok (Between from to)

abbrev pub bare_ends : List Head → Data → Result BareEnds Fault
bare_ends heads d = if has_field word.Node d then bare_within heads d else bare_between heads d

abbrev pub new_channel : List BareChannel → Data → Result (List ℕ) Fault
new_channel before = new_name (has_name (λ c. c.name) before)

abbrev pub named_channel : List BareChannel → Data → Result BareChannel Fault
named_channel before d = new_channel before d >>= λ name. Ok (record { name = name; kind = None; ends = Between None None })

abbrev pub described_channel : List Head → List BareChannel → Data → Result BareChannel Fault
described_channel heads before d = do
  _ ← read_object (bare_channel_words d) d
  name ← field word.Name (new_channel before) d
  kind ← optional word.Kind read_kind d
  ends ← bare_ends heads d
  Ok (record { name = name; kind = kind; ends = ends })

-- a text is a name alone
abbrev pub read_bare_channel : List Head → List BareChannel → Data → Result BareChannel Fault
read_bare_channel heads before (string s) = named_channel before (string s)
read_bare_channel heads before d = described_channel heads before d

-- ---- the file

abbrev pub bare_words : List Word
bare_words = word.Version ∷ word.Nodes ∷ word.Switches ∷ word.Wires ∷ word.Channels ∷ []

-- the network of these nodes, in a file of this version
abbrev pub bare_with_nodes : ℕ → List Head → Data → Result BareNetwork Fault
bare_with_nodes version heads d = do
  switches ← list_field word.Switches (read_bare_switch heads) d
  wires ← list_field word.Wires (λ _. read_bare_wire heads switches) d
  channels ← list_field word.Channels (read_bare_channel heads) d
  Ok (record { version = version; nodes = map (λ h. h.name) heads; switches = map (λ w. w.name) switches; wires = wires; channels = channels })

-- the network that a value means, or its first fault
abbrev pub read_bare : Data → Result BareNetwork Fault
read_bare d = do
  _ ← read_object bare_words d
  version ← field word.Version (read_number 1 2) d
  heads ← field word.Nodes (read_list read_head) d
  bare_with_nodes version heads d

-- the text is UTF-8, and a value that means this
abbrev pub BareMeans : List ℕ → Result BareNetwork Fault → Type 0
BareMeans text answer = (d : Data) × IsUtf8 text × (read text ≡ Some d) × (read_bare d ≡ answer)

-- what reading answers for a text: its network, or its first fault; that it is no JSON; or that there was no memory
abbrev pub ReadsBare : List ℕ → Result BareNetwork ReadRefused → Type 0
ReadsBare text (Ok bare) = BareMeans text (Ok bare)
ReadsBare text (Err Memory) = Unit {0}
ReadsBare text (Err Json) = IsUtf8 text → read text ≡ None
ReadsBare text (Err r) = (f : Fault) × BareMeans text (Err f) × (r ≡ refusal f.why f.path)
