use Rattle.std.proofs.Common.{◌≡◌, refl, sym, ◌∙◌, slice_get, Some, None}
use Rattle.std.proofs.lemmas.Bool.{false≢true}
use Rattle.vc_core.specs.State.{state_of}
use Rattle.vc_core.proofs.Enablement.{happens, has_act, has_ways, has_actor}
use Rattle.vc_core.proofs.network.Network.enabled.Goals as goal

pub returns-then-can-clause-may : goal.returns-then-can-clause-may
returns-then-can-clause-may c =
    let n = c.args.self.now in
    let here : slice_get n.actors.items c.args.event.now.actor ≡ Some c.in-Some.acting.now = (λ i. slice_get (sym c.as_slice.ensures.value i) (sym c.from.ensures i)) ∙ sym c.in-Some.ensures in
    ((λ t. record { actor = c.in-Some.acting.now; here = here; may = c.if-can.ensures.may.0 refl; ways = c.ways_let.ensures.0 t }), (λ m. c.ways_let.ensures.1 m.ways))

pub returns-then-can-clause-can : goal.returns-then-can-clause-can
returns-then-can-clause-can c = λ p is.
    let n = c.args.self.now in
    let s = state_of n in
    let e = c.args.event.now in
    let a = c.in-Some.acting.now in
    let here : slice_get n.actors.items e.actor ≡ Some a = (λ i. slice_get (sym c.as_slice.ensures.value i) (sym c.from.ensures i)) ∙ sym c.in-Some.ensures in
    ((λ t. happens p s e a is here ((c.if-can.ensures.can _ e.actor (is.actors e.actor a here)).0 refl) (c.ways_let.ensures.0 t)), (λ can. c.ways_let.ensures.1 (has_ways p s e a is here can)))

pub returns-else-can-clause-can : goal.returns-else-can-clause-can
returns-else-can-clause-can c = λ p is.
    let n = c.args.self.now in
    let s = state_of n in
    let e = c.args.event.now in
    let a = c.in-Some.acting.now in
    let here : slice_get n.actors.items e.actor ≡ Some a = (λ i. slice_get (sym c.as_slice.ensures.value i) (sym c.from.ensures i)) ∙ sym c.in-Some.ensures in
    ((λ t. absurd (false≢true (sym c.if-can.false ∙ t))), (λ can. (c.can.ensures.can _ e.actor (is.actors e.actor a here)).1 (has_act p s e a is here can)))

pub returns-in-None-clause-can : goal.returns-in-None-clause-can
returns-in-None-clause-can c = λ p is.
    let n = c.args.self.now in
    let s = state_of n in
    let e = c.args.event.now in
    let none : slice_get n.actors.items e.actor ≡ None = (λ i. slice_get (sym c.as_slice.ensures.value i) (sym c.from.ensures i)) ∙ sym c.in-None.ensures in
    ((λ t. absurd (false≢true t)), (λ can. absurd (has_actor p s e is can none)))
