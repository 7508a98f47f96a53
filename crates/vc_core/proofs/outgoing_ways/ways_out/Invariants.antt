use Rattle.std.proofs.Common.{◌≡◌, ℕ, ◌+◌, ◌*◌, length, take}
use Rattle.vc_accepted.specs.ActorWays.{way_out}
use Rattle.vc_core.specs.Wiring.{out_at}
use Rattle.vc_core.proofs.outgoing_ways.ways_out.Given as goal

abbrev pub invariant-loop-i : goal.invariant-loop-i
invariant-loop-i l = record {
  long : length l.out.items ≡ (length l.plan.nodes + length l.plan.switches) * 32;
  tells : (actor link : ℕ) → out_at l.out.items actor link ≡ way_out (length l.plan.nodes) actor link 0 (take l.i l.plan.wires);
}
