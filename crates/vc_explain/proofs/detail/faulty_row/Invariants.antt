use Rattle.std.proofs.Common.{◌≡◌, ◌-◌, length}
use Rattle.vc_explain.specs.Details.{faulty_from, faulty_row}
use Rattle.vc_explain.proofs.detail.faulty_row.Given as goal

abbrev pub invariant-loop-k : goal.invariant-loop-k
invariant-loop-k l = faulty_from l.rows (length l.rows - l.k) l.k ≡ faulty_row l.rows
