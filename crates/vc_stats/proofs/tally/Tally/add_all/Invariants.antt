use Rattle.std.proofs.Common.{◌≡◌, ℕ, ◌+◌, ◌^◌, ◌<◌, ◌≤◌, length}
use Rattle.vc_stats.specs.Tallies.{entry}
use Rattle.vc_stats.proofs.tally.Tally.add_all.Given as goal

abbrev pub invariant-loop-place : goal.invariant-loop-place
invariant-loop-place l = record {
  many : length l.fn.other.entries.items ≤ length l.self.entries.items;
  before : (n : ℕ) → n < l.place → entry l.fn.self n + entry l.fn.other n < 2 ^ 64 → entry l.self n ≡ entry l.fn.self n + entry l.fn.other n;
  behind : (n : ℕ) → l.place ≤ n → entry l.self n ≡ entry l.fn.self n;
}
