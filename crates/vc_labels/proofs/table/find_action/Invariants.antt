use Rattle.std.proofs.Common.{◌≡◌, drop}
use Rattle.vc_labels.specs.Interval.{action_for}
use Rattle.vc_labels.proofs.table.find_action.Given as goal

abbrev pub invariant-loop-row : goal.invariant-loop-row
invariant-loop-row l = action_for (drop l.row-index l.rows) l.header ≡ action_for l.rows l.header
