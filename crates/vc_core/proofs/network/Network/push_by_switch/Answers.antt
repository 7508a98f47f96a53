use Rattle.std.proofs.Common.{◌≡◌, ◌++◌, ℕ, List, sym, subst, arith}
use Rattle.std.specs.List.{flat_map, range_with_len}
use Rattle.vc_actor.specs.declared.act.Act.{Act}
use Rattle.vc_core.specs.Choices.{acts_at, routes_at}
use Rattle.vc_core.specs.Private.Choices.{Lists}
use Rattle.vc_core.specs.State.{state_of}
use Rattle.vc_core.proofs.ListedActs.{flat_more, lists_join, lists_none}
use Rattle.vc_core.proofs.network.Network.push_by_switch.Goals as goal

abbrev at_link : ℕ → List Act
at_link l = acts_at l ++ routes_at l

pub loop-link-init : goal.loop-link-init
loop-link-init c = lists_none (state_of c.args.self.now) c.args.actor c.args.acts.now.items

pub loop-link-preserved : goal.loop-link-preserved
loop-link-preserved c =
    let s = state_of c.args.self.now in
    let k = c.args.actor in
    let i = c.loop-link.link in
    let old = c.args.acts.now.items in
    let here = lists_join s k (acts_at i) (routes_at i) c.loop-link.acts.items c.push_at.new.acts.items c.push_routes.new.acts.items c.in_ok-push_at.ensures c.in_ok-push_routes.ensures in
    subst (λ xs. Lists s k xs old c.push_routes.new.acts.items) (sym (flat_more at_link i))
    (lists_join s k (flat_map at_link (range_with_len 0 i)) (at_link i) old c.loop-link.acts.items c.push_routes.new.acts.items c.loop-link.invariant here)

pub returns : goal.returns
returns c =
    let s = state_of c.args.self.now in
    let k = c.args.actor in
    let last = c.loop-link-test.false in
    let few = c.loop-link.auto.link-end in
    let all : c.loop-link.link ≡ 32 = omega (arith, last, few) in
    subst (λ n. Lists s k (flat_map at_link (range_with_len 0 n)) c.args.acts.now.items c.loop-link.acts.items) all c.loop-link.invariant
