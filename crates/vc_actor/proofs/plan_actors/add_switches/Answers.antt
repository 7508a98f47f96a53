use Rattle.std.proofs.Common.{◌≡◌, ◌+◌, length, sym, ap, subst, arith}
use borrow.Author.Count.{falls}
use Rattle.vc_actor.specs.Begin.{AreFirst, BeginsAs}
use Rattle.vc_actor.specs.Private.Begin.{IsBuilt}
use Rattle.vc_actor.proofs.OpeningState.{first_more, switch_begins}
use Rattle.vc_actor.proofs.Collection.{stands_at}
use Rattle.vc_actor.proofs.SwitchGiven.{given_links, given_ranges, given_table}
use Rattle.vc_actor.proofs.plan_actors.add_switches.Goals as goal

pub build_switch-requires-clause-links : goal.build_switch-requires-clause-links
build_switch-requires-clause-links c =
    let p = c.args.plan.now in
    let k = c.loop-switch.switch-index in
    let there = stands_at c.as_slice-switch-items.result.now p.switches k c.switch-item.result c.as_slice-switch-items.ensures c.loop-switch-test.true c.switch-item.is in
    given_links p c.requires.accepted k c.switch-item.result there

pub build_switch-requires-clause-ranges : goal.build_switch-requires-clause-ranges
build_switch-requires-clause-ranges c =
    let p = c.args.plan.now in
    let k = c.loop-switch.switch-index in
    let there = stands_at c.as_slice-switch-items.result.now p.switches k c.switch-item.result c.as_slice-switch-items.ensures c.loop-switch-test.true c.switch-item.is in
    given_ranges p c.requires.accepted k c.switch-item.result there

pub build_switch-requires-clause-room : goal.build_switch-requires-clause-room
build_switch-requires-clause-room c =
    let is = c.body_limit-body_limit.ensures in
    omega arith

pub loop-switch-init : goal.loop-switch-init
loop-switch-init c =
    let p = c.args.plan.now in
    let same : length p.nodes ≡ length p.nodes + 0 = omega arith in
    subst (λ n. AreFirst p n c.args.actors.now.items) same c.requires.nodes

pub loop-switch-preserved : goal.loop-switch-preserved
loop-switch-preserved c =
    let p = c.args.plan.now in
    let k = c.loop-switch.switch-index in
    let there = stands_at c.as_slice-switch-items.result.now p.switches k c.switch-item.result c.as_slice-switch-items.ensures c.loop-switch-test.true c.switch-item.is in
    let built = subst (λ m. IsBuilt c.switch-item.result m c.in_ok-switch.switch) c.body_limit-body_limit.ensures c.in_ok-switch.ensures in
    let is : BeginsAs p (length p.nodes + k) c.of_switch.result = subst (BeginsAs p (length p.nodes + k)) (sym c.of_switch.ensures) (switch_begins p k c.switch-item.result c.in_ok-switch.switch there built) in
    let next : length p.nodes + k + 1 ≡ length p.nodes + (k + 1) = omega arith in
    subst (λ n. AreFirst p n c.push.new.self.items) next (first_more p (length p.nodes + k) c.loop-switch.actors.items c.push.new.self.items c.of_switch.result c.in_ok-push.ensures.items is c.loop-switch.invariant)

pub build_switch-requires-clause-table : goal.build_switch-requires-clause-table
build_switch-requires-clause-table c =
    let p = c.args.plan.now in
    let k = c.loop-switch.switch-index in
    let there = stands_at c.as_slice-switch-items.result.now p.switches k c.switch-item.result c.as_slice-switch-items.ensures c.loop-switch-test.true c.switch-item.is in
    given_table p c.requires.accepted k c.switch-item.result there

pub loop-switch-smaller : goal.loop-switch-smaller
loop-switch-smaller c = falls (length c.as_slice-switch-items.result.now) c.loop-switch.switch-index c.loop-switch-test.true

pub returns : goal.returns
returns c =
    let p = c.args.plan.now in
    let all : length p.nodes + c.loop-switch.switch-index ≡ length p.nodes + length p.switches = (let same = ap length c.as_slice-switch-items.ensures in let most = c.loop-switch.auto.switch-index-end in let past = c.loop-switch-test.false in omega arith) in
    subst (λ n. AreFirst p n c.loop-switch.actors.items) all c.loop-switch.invariant
