use Rattle.std.proofs.Common.{◌≡◌, ℕ, ◌<◌, Some}
use Rattle.std.specs.Prelude.{slice_get}
use Rattle.vc_labels.specs.declared.row.Row.{Row}
use Rattle.vc_plan.specs.Wires.{IsWiredAction}
use Rattle.vc_plan.proofs.wiring.are_wired.Given as goal

abbrev pub invariant-loop-row : goal.invariant-loop-row
invariant-loop-row l =
    (k : ℕ) (row : Row) → k < l.row-index → slice_get l.rows k ≡ Some row
    → IsWiredAction l.net l.switch row.action
