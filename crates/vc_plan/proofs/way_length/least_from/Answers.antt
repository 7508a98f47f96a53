use Rattle.vc_plan.proofs.Arriving.{never-more}
use Rattle.vc_plan.proofs.way_length.least_from.Goals as goal

pub loop-total-preserved : goal.loop-total-preserved
loop-total-preserved c = record {
  known = c.in_ok-arrives_surveyed.ensures.known;
  never = never-more c.args.net.now c.loop-total.total c.args.place.now c.loop-total.invariant.never (c.in_ok-arrives_surveyed.ensures.no c.if-branch.false);
}
