-- A process and the same over variables that are moved: to the number of each so many are added, as a byte. Its channels stay.
use Rattle.std.specs.Prelude.{ℕ}
use Rattle.vc_process.specs.declared.process.Process.{Process}
use Rattle.vc_process.specs.InOrder.{number}
use Rattle.vc_process.specs.Renaming.{moved_by, IsRenamed}

-- a process whose numbers of variables were raised
abbrev pub IsMoved : ℕ → Process → Process → Type 0
IsMoved by was now = IsRenamed (moved_by by) (number was) (number now)
