-- What labelling a network answers and writes.
use Rattle.std.specs.Prelude.{◌≡◌, ℕ, List, Option, Result, Ok, Err, ⊤}
use Rattle.std.specs.Io.KnownBytes.{Appends}
use Rattle.vc_label_text.specs.Labelled.{IsLabelledText, IsRefusal}
use Rattle.vc_label_text.specs.declared.refused.LabelRefused.{LabelRefused}
use Rattle.vc_label_text.specs.declared.refused.LabelRefused.TheVariants as refused
use Rattle.vc_text.specs.Streams.{AppendsFront, IsAllOf}
use Rattle.vc_text.specs.declared.fault.RunFault.{RunFault}
use Rattle.vc_text.specs.declared.fault.RunFault.TheVariants.{Read, Write, Text, Network, Plan, Memory}

-- a text is the whole file of what the reader had
abbrev pub IsWholeFile : Option (List ℕ) → List ℕ → Type 0
IsWholeFile known made = (text : List ℕ) × IsAllOf known text × IsLabelledText text made

-- what the reader had is refused so
abbrev pub Refuses : Option (List ℕ) → LabelRefused → Type 0
Refuses known why = (text : List ℕ) × IsAllOf known text × IsRefusal text why

-- the reader failed, or memory ran out, or what the reader had is refused
abbrev pub GivesNothing : Option (List ℕ) → RunFault → Type 0
GivesNothing known Read = ⊤
GivesNothing known Memory = ⊤
GivesNothing known (Text why) = Refuses known (refused.Text why)
GivesNothing known (Network why) = Refuses known (refused.Network why)
GivesNothing known (Plan why) = Refuses known (refused.Plan why)
GivesNothing known fault = ⊥

-- The whole file of what the reader had was written, or a prefix of it if the writer failed. Otherwise nothing was written, for a reason
-- that is so.
abbrev pub Labels : Option (List ℕ) → Option (List ℕ) → Option (List ℕ) → Result ⊤ RunFault → Type 0
Labels known old new (Ok u) = (made : List ℕ) × IsWholeFile known made × Appends old new made
Labels known old new (Err Write) = (made : List ℕ) × IsWholeFile known made × AppendsFront old new made
Labels known old new (Err fault) = GivesNothing known fault × (new ≡ old)
