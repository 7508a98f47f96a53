-- What a refusal names, in the short form of a network file.
use Rattle.std.specs.Prelude.{ℕ, suc, ◌-◌, nat_lt, if◌then◌else◌, List, [], ◌∷◌, length, is_some, Option, Some, None}
use Rattle.vc_label_text.specs.Labelled.{count}
use Rattle.vc_reader.specs.declared.bare.BareNetwork.{BareNetwork}
use Rattle.vc_reader.specs.declared.bare.BareWire.{BareWire}
use Rattle.vc_reader.specs.declared.word.Word.{Word}
use Rattle.vc_reader.specs.declared.word.Word.TheVariants as word
use Rattle.vc_explain.specs.declared.offender.Offender.{Offender}
use Rattle.vc_explain.specs.declared.offender.Offender.TheVariants.{All, Item, Part, Place}
use Rattle.vc_explain.specs.Offenders.{of_item, of_part}

-- the entry that asks for wire n, of entries that begin with entry k
abbrev pub entry_from : ℕ → List BareWire → ℕ → Option ℕ
entry_from k [] n = None
entry_from k (e ∷ es) n = if nat_lt n (count e) then Some k else entry_from (suc k) es (n - count e)

-- The number that item n of a list of the whole file has in the short form, if it is there: several wires may be of one entry, a channel
-- may not be listed, and no virtual link is.
abbrev pub number_in : BareNetwork → Word → ℕ → Option ℕ
number_in bare word.Wires n = entry_from 0 bare.wires n
number_in bare word.Channels n = if nat_lt n (length bare.channels) then Some n else None
number_in bare word.Vlinks n = None
number_in bare list n = Some n

-- what of it the short form has; of a list that has no item nothing
abbrev pub in_short : BareNetwork → Offender → List Offender
in_short bare (All list) = if is_some (number_in bare list 0) then All list ∷ [] else []
in_short bare (Item list n) = of_item list (number_in bare list n)
in_short bare (Part list n field) = of_part list field (number_in bare list n)
in_short bare (Place path) = Place path ∷ []
