-- What checking a network file answers and writes.
use Rattle.std.specs.Prelude.{◌≡◌, ℕ, ◌≤◌, List, ◌++◌, length, codes, decimal, ◌⊎◌, Option, Some, None, Result, Ok, Err, ⊤}
use Rattle.std.specs.Io.KnownBytes.{Appends}
use Rattle.vc_label_text.specs.declared.refused.LabelRefused.TheVariants as why
use Rattle.vc_label_text.specs.Labelled.{IsLabelledText, IsRefusal}
use Rattle.vc_label_text.specs.Short.{IsShort}
use Rattle.vc_plan.specs.declared.plan.Plan.{Plan as Network}
use Rattle.vc_plan.specs.Accepted.{IsAccepted}
use Rattle.vc_plan.specs.Check.{IsCause}
use Rattle.vc_reader.specs.NetworkText.{Reads}
use Rattle.vc_text.specs.declared.fault.RunFault.{RunFault}
use Rattle.vc_text.specs.declared.fault.RunFault.TheVariants.{Read, Write, Text, Network as Unlabelled, Plan, Threads, Memory}
use Rattle.vc_text.specs.declared.network_file.NetworkFile.{NetworkFile}
use Rattle.vc_text.specs.declared.network_file.NetworkFile.TheVariants.{Whole, Short}
use Rattle.vc_text.specs.Streams.{AppendsFront, most_bytes}
use Rattle.vc_waits.specs.Waits.{newline}

-- ---- what a network file is read as

-- A whole file: its network is accepted, or the text or its plan is refused for what is wrong first.
abbrev pub ReadsWhole : List ℕ → Result Network RunFault → Type 0
ReadsWhole text (Ok plan) = Reads text (Ok plan) × IsAccepted plan
ReadsWhole text (Err (Text refused)) = Reads text (Err refused) × (IsShort text → ⊥)
ReadsWhole text (Err (Plan refusal)) = Reads text (Ok refusal.plan) × IsCause refusal.plan refusal.why
ReadsWhole text (Err fault) = ⊥

-- The short form of one: a labelled text was made of it, and its network is accepted; or none was made, for what is wrong.
abbrev pub ReadsShort : List ℕ → Result Network RunFault → Type 0
ReadsShort text (Ok plan) = (made : List ℕ) × IsLabelledText text made × Reads made (Ok plan) × IsAccepted plan
ReadsShort text (Err (Text refused)) = IsRefusal text (why.Text refused)
ReadsShort text (Err (Unlabelled cause)) = IsRefusal text (why.Network cause)
ReadsShort text (Err (Plan refusal)) = IsRefusal text (why.Plan refusal)
ReadsShort text (Err fault) = ⊥

-- a whole file by its plan, or the short form by the network of the file that was made of it, or why there is none
abbrev pub ReadsFile : List ℕ → Result NetworkFile RunFault → Type 0
ReadsFile text (Ok (Whole plan)) = Reads text (Ok plan)
ReadsFile text (Ok (Short plan)) = IsShort text × ReadsShort text (Ok plan)
ReadsFile text (Err Memory) = ⊤
ReadsFile text (Err (Text refused)) = ReadsWhole text (Err (Text refused)) ⊎ (IsShort text × ReadsShort text (Err (Text refused)))
ReadsFile text (Err fault) = IsShort text × ReadsShort text (Err fault)

-- a text is read as one of the two, or memory ran out
abbrev pub ReadsText : List ℕ → Result Network RunFault → Type 0
ReadsText text (Err Memory) = ⊤
ReadsText text answer = ReadsWhole text answer ⊎ (IsShort text × ReadsShort text answer)

-- the reader's text is read so, unless the reader fails; if it is not known, the network is accepted or its plan refused all the same
abbrev pub ReadsAccepted : Option (List ℕ) → Result Network RunFault → Type 0
ReadsAccepted known (Err Read) = ⊤
ReadsAccepted known (Err Memory) = ⊤
ReadsAccepted known (Err Write) = ⊥
ReadsAccepted known (Err (Threads fault)) = ⊥
ReadsAccepted (Some text) answer = (length text ≤ most_bytes) × ReadsText text answer
ReadsAccepted None (Ok plan) = IsAccepted plan
ReadsAccepted None (Err (Plan refusal)) = IsCause refusal.plan refusal.why
ReadsAccepted None (Err fault) = ⊤

-- ---- what is written

unfoldable pub accepted_text : Network → List ℕ
accepted_text plan =
    codes "accepted nodes " ++ decimal (length plan.nodes) ++ codes " switches " ++ decimal (length plan.switches) ++ codes " vlinks " ++ decimal (length plan.vlinks)
    ++ codes " channels " ++ decimal (length plan.channels) ++ newline

-- a text of an accepted network was written, or a front of it before a fault of the writer; else nothing was
abbrev pub TellsAccepted : (Network → List ℕ) → Option (List ℕ) → Option (List ℕ) → Option (List ℕ) → Result ⊤ RunFault → Type 0
TellsAccepted text_of known old new (Ok u) = (plan : Network) × ReadsAccepted known (Ok plan) × Appends old new (text_of plan)
TellsAccepted text_of known old new (Err Write) = (plan : Network) × ReadsAccepted known (Ok plan) × AppendsFront old new (text_of plan)
TellsAccepted text_of known old new (Err fault) = ReadsAccepted known (Err fault) × (new ≡ old)

-- the text is the line of an accepted network
abbrev pub Checks : Option (List ℕ) → Option (List ℕ) → Option (List ℕ) → Result ⊤ RunFault → Type 0
Checks = TellsAccepted accepted_text
