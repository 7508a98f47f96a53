use Rattle.std.proofs.Common.{◌≡◌, ℕ, [], length}
use Rattle.vc_cycles.specs.Private.Graph.{row}
use Rattle.vc_cycles.proofs.graph.no_rows.Given as goal

abbrev pub invariant-loop : goal.invariant-loop
invariant-loop l = record {
  many : length l.rows.items ≡ l.counter;
  none : (i : ℕ) → row l.rows.items i ≡ [];
}
