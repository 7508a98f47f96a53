use Rattle.std.proofs.Common.{◌≡◌, map, sym, ◌∙◌, subst, arith}
use Rattle.std.specs.List.{flat_map, range_with_len}
use Rattle.vc_occam.specs.Runnings.{moves}
use Rattle.vc_actor.specs.declared.act.Act.TheVariants.{Proc}
use Rattle.vc_core.specs.Choices.{acts_at}
use Rattle.vc_core.specs.Private.Choices.{Lists}
use Rattle.vc_core.specs.State.{state_of}
use Rattle.vc_core.proofs.ListedActs.{flat_more, lists_join, lists_none, on_ok}
use Rattle.vc_core.proofs.network.Network.push_by_node.Goals as goal

pub loop-link-init : goal.loop-link-init
loop-link-init c = lists_none (state_of c.args.self.now) c.args.actor c.args.acts.now.items

pub loop-link-preserved : goal.loop-link-preserved
loop-link-preserved c =
    let s = state_of c.args.self.now in
    let k = c.args.actor in
    let i = c.loop-link.link in
    subst (λ xs. Lists s k xs c.args.acts.now.items c.push_at.new.acts.items) (sym (flat_more acts_at i))
    (lists_join s k (flat_map acts_at (range_with_len 0 i)) (acts_at i) c.args.acts.now.items c.loop-link.acts.items c.push_at.new.acts.items c.loop-link.invariant c.in_ok-push_at.ensures)

pub returns : goal.returns
returns c =
    let s = state_of c.args.self.now in
    let k = c.args.actor in
    let last = c.loop-link-test.false in
    let few = c.loop-link.auto.link-end in
    let four : c.loop-link.link ≡ 4 = omega (arith, last, few) in
    let links = subst (λ n. Lists s k (flat_map acts_at (range_with_len 0 n)) c.args.acts.now.items c.loop-link.acts.items) four c.loop-link.invariant in
    on_ok c.push_moves.result _ _
    (λ m. lists_join s k (flat_map acts_at (range_with_len 0 4)) (map Proc (moves c.args.node.now.process)) c.args.acts.now.items c.loop-link.acts.items c.push_moves.new.acts.items links
    (subst (λ ms. Lists s k (map Proc ms) c.loop-link.acts.items c.push_moves.new.acts.items) (c.as_slice.ensures ∙ c.in_ok-moves.ensures) m))
    c.push_moves.ensures
