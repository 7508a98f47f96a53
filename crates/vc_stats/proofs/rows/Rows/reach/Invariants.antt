use Rattle.std.proofs.Common.{◌≡◌, ◌≤◌, ℕ, length}
use Rattle.vc_stats.specs.Rows.{has}
use Rattle.vc_stats.proofs.rows.Rows.reach.Given as goal

abbrev pub invariant-loop : goal.invariant-loop
invariant-loop l = record {
  many : l.counter ≤ length l.self.rows.items;
  same : (k n : ℕ) → has l.self k n ≡ has l.fn.self k n;
}
