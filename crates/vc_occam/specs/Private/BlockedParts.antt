-- What the parts of a process are at that do not go on by themselves.
use Rattle.std.specs.Prelude.{◌≡◌, List, [], ◌∷◌, ◌++◌, Option, Some, None, Result, OnOk, ⊤}
use Rattle.vc_occam.specs.declared.blocked.Blocked.{Blocked}
use Rattle.vc_packets.specs.declared.memory.Memory.{Memory}

-- where there is memory they stand behind those that were found before
abbrev pub Adds : (old new : List Blocked) → List Blocked → Result ⊤ Memory → Type 0
Adds old new found result = OnOk result (new ≡ old ++ found)

abbrev pub listed_one : Option Blocked → List Blocked
listed_one None = []
listed_one (Some b) = b ∷ []
