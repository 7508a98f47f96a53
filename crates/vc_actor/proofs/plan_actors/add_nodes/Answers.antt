use Rattle.std.proofs.Common.{◌≡◌, length, sym, ap, subst, arith}
use borrow.Author.Count.{falls}
use Rattle.vc_actor.specs.Begin.{AreFirst, BeginsAs}
use Rattle.vc_actor.specs.Private.Begin.{AreWaysOf}
use Rattle.vc_actor.proofs.OpeningState.{none_yet, first_more}
use Rattle.vc_actor.proofs.ChannelWays.{few_nodes}
use Rattle.vc_actor.proofs.Collection.{stands_at}
use Rattle.vc_actor.proofs.plan_actors.add_nodes.Goals as goal

pub loop-i-init : goal.loop-i-init
loop-i-init c = none_yet c.args.plan.now c.args.actors.now.items c.requires.none

pub overflow_cast-i : goal.overflow_cast-i
overflow_cast-i c =
    let few = few_nodes c.args.plan.now c.requires.accepted in
    let same = ap length c.as_slice-node-items.ensures in
    let less = c.loop-i-test.true in
    omega arith

pub build_node-requires-clause-node : goal.build_node-requires-clause-node
build_node-requires-clause-node c =
    stands_at c.as_slice-node-items.result.now c.args.plan.now.nodes c.loop-i.i c.node-item.result c.as_slice-node-items.ensures c.loop-i-test.true c.node-item.is

pub loop-i-preserved : goal.loop-i-preserved
loop-i-preserved c =
    let p = c.args.plan.now in
    let k = c.loop-i.i in
    let is : BeginsAs p k c.of_node.result = subst (BeginsAs p k) (sym c.of_node.ensures) c.in_ok-node.ensures in
    first_more p k c.loop-i.actors.items c.push.new.self.items c.of_node.result c.in_ok-push.ensures.items is c.loop-i.invariant

pub loop-i-smaller : goal.loop-i-smaller
loop-i-smaller c = falls (length c.as_slice-node-items.result.now) c.loop-i.i c.loop-i-test.true

pub build_node-requires-clause-ways : goal.build_node-requires-clause-ways
build_node-requires-clause-ways c = subst (AreWaysOf c.args.plan.now) (sym c.deref.ensures.value) c.in_ok-ways.ensures

pub returns : goal.returns
returns c =
    let all : c.loop-i.i ≡ length c.args.plan.now.nodes = (let same = ap length c.as_slice-node-items.ensures in let most = c.loop-i.auto.i-end in let past = c.loop-i-test.false in omega arith) in
    subst (λ n. AreFirst c.args.plan.now n c.loop-i.actors.items) all c.loop-i.invariant
