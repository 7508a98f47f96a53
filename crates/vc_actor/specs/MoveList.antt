-- The moves of a node's process as they were listed.
use Rattle.std.specs.Prelude.{◌≡◌, Bool, true, List}
use Rattle.vc_occam.specs.Runnings.{moves}
use Rattle.vc_occam.specs.declared.moves.Move.{Move}
use Rattle.vc_occam.specs.declared.running.Running.{Running}

-- where the list is said to be that of the process as it is, it has the moves that the process can begin with
abbrev pub AreListed : Bool → List Move → Running → Type 0
AreListed is_listed found process = is_listed ≡ true → found ≡ moves process
