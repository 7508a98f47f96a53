use Rattle.std.proofs.Common.{◌≡◌, ◌∙◌, ◌<◌, length, slice_get, slice_set, Some, refl, subst, sym}
use Rattle.std.proofs.lemmas.Option.{slice_get_read}
use Rattle.vc_accepted.specs.NetworkOf.{network_of}
use Rattle.vc_core.specs.State.{state_of}
use Rattle.vc_core.specs.StepsInARow.{MakesSteps}
use Rattle.vc_core.proofs.StepsInARow.{actor_steps, none_made}
use Rattle.vc_core.proofs.network.Network.make_steps.Goals as goal

pub returns-then-place-len-clause-made : goal.returns-then-place-len-clause-made
returns-then-place-len-clause-made c = λ p is. none_made p (state_of c.args.self.now) c.args.actor is

pub returns-clause-made : goal.returns-clause-made
returns-clause-made c = λ p is.
    let n = c.args.self.now in
    let xs = n.actors.items in
    let k = c.args.actor in
    let many = c.make_steps.result in
    let a = c.index_mut.result.now in
    let b = c.make_steps.new.self in
    let less = subst (λ z. c.from-place.result < z) (c.len.ensures ∙ n.actors.ok.0) c.if-place-len.false in
    let here = subst (λ z. slice_get xs z ≡ Some a) c.from-place.ensures (slice_get_read xs (length xs) c.from-place.result a refl less c.index_mut.ensures.value) in
    subst (MakesSteps p k many (state_of n))
    (λ i. record { actors = slice_set xs (sym c.from-place.ensures i) b; nodes = n.nodes; ways = n.lines.ways; wiring = n.lines.wiring; wires = n.wires; channels = n.channels.items })
    (actor_steps p (state_of n) k many a b is here (c.make_steps.ensures.made (network_of p) k (is.actors k a here)))
