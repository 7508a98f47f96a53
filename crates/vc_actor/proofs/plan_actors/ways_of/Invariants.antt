use Rattle.std.proofs.Common.{◌≡◌, ℕ, Bool, length, take}
use Rattle.vc_accepted.specs.NodeEnds.{first_on}
use Rattle.vc_actor.specs.Private.Begin.{on_link}
use Rattle.vc_actor.proofs.plan_actors.ways_of.Given as goal

abbrev pub invariant-loop-chan : goal.invariant-loop-chan
invariant-loop-chan l = record {
  long : length l.ways.items ≡ length l.plan.vlinks;
  tells : (v : ℕ) (f : Bool) → on_link l.ways.items v f ≡ first_on 0 (take l.chan l.plan.channels) v f;
}
