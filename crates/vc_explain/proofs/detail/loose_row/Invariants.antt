use Rattle.std.proofs.Common.{◌≡◌, drop}
use Rattle.vc_explain.specs.Details.{loose_row}
use Rattle.vc_explain.proofs.detail.loose_row.Given as goal

abbrev pub invariant-loop-k : goal.invariant-loop-k
invariant-loop-k l = loose_row l.wires l.n l.k (drop l.k l.rows) ≡ loose_row l.wires l.n 0 l.rows
