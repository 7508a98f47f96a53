use Rattle.std.proofs.Common.{◌≡◌, ℕ, ◌+◌, ◌^◌, ◌<◌, ◌≤◌, length}
use Rattle.vc_stats.specs.Tallies.{cell}
use Rattle.vc_stats.proofs.table.Table.add_all.Given as goal

abbrev pub invariant-loop-row : goal.invariant-loop-row
invariant-loop-row l = record {
  many : length l.fn.other.rows.items ≤ length l.self.rows.items;
  before : (k n : ℕ) → k < l.row → cell l.fn.self k n + cell l.fn.other k n < 2 ^ 64 → cell l.self k n ≡ cell l.fn.self k n + cell l.fn.other k n;
  behind : (k n : ℕ) → l.row ≤ k → cell l.self k n ≡ cell l.fn.self k n;
}
