use Rattle.std.proofs.Common.{◌≡◌, ◌≤◌, ℕ, length}
use Rattle.vc_stats.specs.Tallies.{cell}
use Rattle.vc_stats.proofs.table.Table.reach.Given as goal

abbrev pub invariant-loop : goal.invariant-loop
invariant-loop l = record {
  many : l.counter ≤ length l.self.rows.items;
  same : (k n : ℕ) → cell l.self k n ≡ cell l.fn.self k n;
}
