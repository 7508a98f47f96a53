use Rattle.std.proofs.Common.{◌≡◌, ◌/◌, slice_get, Some, refl, inl, inr, sym, ap, ◌∙◌, subst}
use Rattle.vc_machine.specs.Places.{OnWire, Inside}
use Rattle.vc_accepted.specs.NetworkOf.{network_of}
use Rattle.vc_accepted.specs.NetworkOf as to
use Rattle.vc_core.specs.Private.PacketPlace.{FindsAt}
use Rattle.vc_core.specs.State.{state_of, shown}
use Rattle.vc_core.proofs.PortPlaces.{near_is, far_is, last_on, no_wire}
use Rattle.vc_core.proofs.network.Network.place_on.Goals as goal

pub returns-in_err-wire : goal.returns-in_err-wire
returns-in_err-wire c = λ p c' is owned ends less.
    let w = c.args.way in
    let s = state_of c.args.self.now in
    absurd (no_wire p s w is less (ap (λ z. slice_get z (w / 2)) (sym c.as_slice.ensures) ∙ sym c.in_err-wire.ensures))

pub returns-in-Some : goal.returns-in-Some
returns-in-Some c = λ p c' is owned ends less.
    let w = c.args.way in
    let s = state_of c.args.self.now in
    let x = c.in_ok-wire.wire.now in
    let real : slice_get s.wires (w / 2) ≡ Some x = ap (λ z. slice_get z (w / 2)) (sym c.as_slice.ensures) ∙ sym c.in_ok-wire.ensures in
    let at = far_is p s w x is real ∙ ap to.port_of (sym c.port_of-far.ensures) in
    (OnWire w, inr (inl refl), subst (FindsAt (network_of p) (shown s) c' (OnWire w)) c.in-Some.is (c.place_along.ensures p c' is owned ends less at))

pub returns-in-Some-place_inside : goal.returns-in-Some-place_inside
returns-in-Some-place_inside c = λ p c' is owned ends less.
    let w = c.args.way in
    let s = state_of c.args.self.now in
    let x = c.in_ok-wire.wire.now in
    let real : slice_get s.wires (w / 2) ≡ Some x = ap (λ z. slice_get z (w / 2)) (sym c.as_slice.ensures) ∙ sym c.in_ok-wire.ensures in
    let at = far_is p s w x is real ∙ ap to.port_of (sym c.port_of-far.ensures) in
    (Inside w, inr (inr refl), subst (FindsAt (network_of p) (shown s) c' (Inside w)) c.in-Some-place_inside.is (c.place_inside.ensures p c' w is owned ends less at))

pub returns : goal.returns
returns c = λ p c' is owned ends less.
    let w = c.args.way in
    let s = state_of c.args.self.now in
    let x = c.in_ok-wire.wire.now in
    let real : slice_get s.wires (w / 2) ≡ Some x = ap (λ z. slice_get z (w / 2)) (sym c.as_slice.ensures) ∙ sym c.in_ok-wire.ensures in
    let at = far_is p s w x is real ∙ ap to.port_of (sym c.port_of-far.ensures) in
    let from = near_is p s w x is real ∙ ap to.port_of (sym c.port_of.ensures) in
    last_on (network_of p) s c' w c.place_before.result (subst (FindsAt (network_of p) (shown s) c' (OnWire w)) c.in_default.is (c.place_along.ensures p c' is owned ends less at))
    (subst (FindsAt (network_of p) (shown s) c' (Inside w)) c.in_default-place_inside.is (c.place_inside.ensures p c' w is owned ends less at)) (c.place_before.ensures p c' is owned ends less from)
