use Rattle.std.proofs.Common.{◌<◌, length, get_or, refl, ap, ◌∙◌, subst, arith}
use borrow.Author.Count.{falls}
use Rattle.vc_accepted.specs.NodeEnds.{ends_among}
use Rattle.vc_actor.specs.Private.Begin.{on_link}
use Rattle.vc_actor.proofs.Collection.{gathered_all, ends_more}
use Rattle.vc_actor.proofs.plan_actors.ends_of.Goals as goal

pub loop-i-init : goal.loop-i-init
loop-i-init c = rw c.new-ends.ensures.items

pub loop-i-smaller : goal.loop-i-smaller
loop-i-smaller c = falls (length c.as_slice-vlink-items.result.now) c.loop-i.i c.loop-i-test.true

pub loop-i-preserved : goal.loop-i-preserved
loop-i-preserved c =
    let vs = c.args.plan.now.vlinks in
    let i = c.loop-i.i in
    let x = c.vlink-item.result in
    let same = c.as_slice-vlink-items.ensures in
    ends_more (on_link c.args.ways.now) c.args.number i vs x c.loop-i.ends.items c.push_end.new.ends.items c.push_end-in-loop-i.new.ends.items _ c.ways_at-way.result.from_a c.ways_at-way.result.from_b
    (subst (λ z. i < length z) same c.loop-i-test.true) (c.vlink-item.is ∙ ap (λ z. get_or z i x) same) c.ways_at-way.ensures.from_a c.ways_at-way.ensures.from_b
    c.in_ok-push_end.ensures c.in_ok-push_end-2.ensures c.loop-i.invariant

pub returns : goal.returns
returns c =
    let same = ap length c.as_slice-vlink-items.ensures in
    let past = c.loop-i-test.false in
    gathered_all (ends_among (on_link c.args.ways.now) c.args.number) c.loop-i.i c.args.plan.now.vlinks c.loop-i.ends.items _ refl (omega arith) c.loop-i.invariant
