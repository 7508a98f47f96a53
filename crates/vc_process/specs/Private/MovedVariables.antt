-- A process and the same over variables that are moved: to the number of each so many are added, as a byte. Its channels stay.
use Rattle.std.specs.Prelude.{◌≡◌, ℕ, List, map}
use Rattle.vc_process.specs.declared.condition.Cond.{Cond}
use Rattle.vc_process.specs.declared.expression.Expr.{Expr}
use Rattle.vc_process.specs.declared.process.Branch.{Branch}
use Rattle.vc_process.specs.declared.process.Guard.{Guard}
use Rattle.vc_process.specs.declared.process.Process.{Process}
use Rattle.vc_process.specs.InOrder.{number}
use Rattle.vc_process.specs.Private.InOrder.{number_branch, number_guard}
use Rattle.vc_process.specs.Renaming.{moved_by, renamed_exp, renamed_test}
use Rattle.vc_process.specs.Private.Renaming.{AreRenamed, AreRenamedBranches, IsRenamedGuard, AreRenamedGuards}
use Rattle.vc_process.specs.Syntax.{Exp}
use Rattle.vc_process.specs.Terms.{as_test, exp}
use Rattle.vc_process.specs.MovedVariables.{IsMoved}

-- and a list of these
abbrev pub AreMoved : ℕ → List Process → List Process → Type 0
AreMoved by was now = AreRenamed (moved_by by) (map number was) (map number now)

abbrev pub AreMovedBranches : ℕ → List Branch → List Branch → Type 0
AreMovedBranches by was now = AreRenamedBranches (moved_by by) (map number_branch was) (map number_branch now)

abbrev pub IsMovedGuard : ℕ → Guard → Guard → Type 0
IsMovedGuard by was now = IsRenamedGuard (moved_by by) (number_guard was) (number_guard now)

abbrev pub AreMovedGuards : ℕ → List Guard → List Guard → Type 0
AreMovedGuards by was now = AreRenamedGuards (moved_by by) (map number_guard was) (map number_guard now)

abbrev pub moved_exp : ℕ → Expr → Exp
moved_exp by e = renamed_exp (moved_by by) (exp e)

abbrev pub IsMovedTest : ℕ → Cond → Cond → Type 0
IsMovedTest by was now = as_test now ≡ renamed_test (moved_by by) (as_test was)

-- what is done under a condition: both are moved
abbrev pub IsMovedBranch : ℕ → Cond → Process → Branch → Type 0
IsMovedBranch by cond body now = IsMovedTest by cond now.cond × IsMoved by body now.body
