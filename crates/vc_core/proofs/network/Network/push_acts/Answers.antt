use Rattle.std.proofs.Common.{◌≡◌, OnOk, Some, None, slice_get, ap, sym, ◌∙◌, subst}
use Rattle.vc_actor.specs.ActorView.{actor_of}
use Rattle.vc_core.specs.Choices.{acts_of}
use Rattle.vc_core.specs.Private.Choices.{Lists}
use Rattle.vc_core.specs.State.{shown, state_of}
use Rattle.vc_core.proofs.Events.{state_at}
use Rattle.vc_core.proofs.ListedActs.{lists_nobody, node_is, switch_is}
use Rattle.vc_core.proofs.network.Network.push_acts.Goals as goal

pub returns-in-Some-node : goal.returns-in-Some-node
returns-in-Some-node c =
    let s = state_of c.args.self.now in
    let k = c.args.actor in
    let a = c.in-Some.acting.now in
    let here : slice_get s.actors k ≡ Some a = (λ i. slice_get (sym c.as_slice.ensures.value i) (sym c.from.ensures i)) ∙ sym c.in-Some.ensures in
    let is = state_at s k a here ∙ ap actor_of (node_is a c.in-Some-node.node.now c.in-Some-node.ensures) in
    subst (λ x. OnOk c.push_by_node.result (Lists s k (acts_of x) c.args.acts.now.items c.push_by_node.new.acts.items)) (sym is) c.push_by_node.ensures

pub returns-in-Some-switch : goal.returns-in-Some-switch
returns-in-Some-switch c =
    let s = state_of c.args.self.now in
    let k = c.args.actor in
    let a = c.in-Some.acting.now in
    let here : slice_get s.actors k ≡ Some a = (λ i. slice_get (sym c.as_slice.ensures.value i) (sym c.from.ensures i)) ∙ sym c.in-Some.ensures in
    let is = state_at s k a here ∙ ap actor_of (switch_is a c.in-Some-switch.switch.now c.in-Some-switch.ensures) in
    subst (λ x. OnOk c.push_by_switch.result (Lists s k (acts_of x) c.args.acts.now.items c.push_by_switch.new.acts.items)) (sym is) c.push_by_switch.ensures

pub push_by_switch-requires : goal.push_by_switch-requires
push_by_switch-requires c =
    let s = state_of c.args.self.now in
    let a = c.in-Some.acting.now in
    let here : slice_get s.actors c.args.actor ≡ Some a = (λ i. slice_get (sym c.as_slice.ensures.value i) (sym c.from.ensures i)) ∙ sym c.in-Some.ensures in
    here ∙ ap Some (switch_is a c.in-Some-switch.switch.now c.in-Some-switch.ensures)

pub returns-in-None : goal.returns-in-None
returns-in-None c =
    let s = state_of c.args.self.now in
    let none : slice_get s.actors c.args.actor ≡ None = (λ i. slice_get (sym c.as_slice.ensures.value i) (sym c.from.ensures i)) ∙ sym c.in-None.ensures in
    lists_nobody s c.args.actor (acts_of ((shown s).state c.args.actor)) c.args.acts.now.items none
