use Rattle.std.proofs.Common.{◌∙◌}
use Rattle.vc_occam.specs.declared.moves.Move.TheVariants.{Offer}
use Rattle.vc_actor.proofs.Removal.{left_here, left_more, left_none}
use Rattle.vc_actor.proofs.node_actor.leave_out.Goals as goal

pub returns-then-site_of-site : goal.returns-then-site_of-site
returns-then-site_of-site c =
    c.remove.ensures.rest
    ∙ left_here c.args.site c.loop-place.place c.site_of.result c.len-place-end.result c.loop-place.moves c.as_slice.result.now c.args.moves.now (Offer 0 0) c.remove.result c.as_slice.ensures c.loop-place-test.true c.len-place-end.ensures c.site_of.ensures
    c.if-site_of-site.true c.remove.ensures.item c.loop-place.invariant.0 c.loop-place.invariant.1

pub loop-place-preserved : goal.loop-place-preserved
loop-place-preserved c = (
  left_more c.args.site c.loop-place.place c.site_of.result c.len-place-end.result c.loop-place.moves c.as_slice.result.now c.args.moves.now (Offer 0 0) c.as_slice.ensures c.loop-place-test.true c.len-place-end.ensures c.site_of.ensures
      c.if-site_of-site.false c.loop-place.invariant.0 c.loop-place.invariant.1,
  c.loop-place.invariant.1,
)

pub returns : goal.returns
returns c = left_none c.args.site c.loop-place.place c.len-place-end.result c.loop-place.moves c.args.moves.now c.loop-place-test.false c.len-place-end.ensures c.loop-place.invariant.0 c.loop-place.invariant.1
