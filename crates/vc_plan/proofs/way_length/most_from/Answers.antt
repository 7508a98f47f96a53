use Rattle.vc_plan.proofs.Arriving.{never-down}
use Rattle.vc_plan.proofs.way_length.most_from.Goals as goal

pub loop-left-preserved : goal.loop-left-preserved
loop-left-preserved c = record {
  known = c.in_ok-arrives_surveyed.ensures.known;
  never = never-down c.args.net.now c.loop-left.left c.args.place.now c.loop-left-test.true c.loop-left.invariant.never (c.in_ok-arrives_surveyed.ensures.no c.if-branch.false);
}
