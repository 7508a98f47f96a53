use Rattle.std.proofs.Common.{◌≡◌, length}
use Rattle.vc_plan.specs.FarEnds.{AreFarEndsOf}
use Rattle.vc_plan.proofs.searched_plan.far_ends_of.Given as goal

abbrev pub invariant-loop-link : goal.invariant-loop-link
invariant-loop-link l = record {
  ends : AreFarEndsOf l.plan l.switch l.ends.items;
  count : length l.ends.items ≡ l.link;
}
