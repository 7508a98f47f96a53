use Rattle.std.proofs.Common.{◌≡◌, ◌≤◌, ℕ, length}
use Rattle.vc_stats.specs.Buffers.{occupancy_at}
use Rattle.vc_stats.proofs.buffers.Buffers.reach.Given as goal

abbrev pub invariant-loop : goal.invariant-loop
invariant-loop l = record {
  many : l.counter ≤ length l.self.buffers.items;
  same : (actor link : ℕ) → occupancy_at l.self actor link ≡ occupancy_at l.fn.self actor link;
}
