use Rattle.std.proofs.Common.{◌≡◌, drop}
use Rattle.vc_labels.specs.Fault.{fault_from, table_fault}
use Rattle.vc_labels.proofs.fault.fault_of_rows.Given as goal

abbrev pub invariant-loop-row : goal.invariant-loop-row
invariant-loop-row l = fault_from l.start (drop l.row-index l.rows) ≡ table_fault l.rows
