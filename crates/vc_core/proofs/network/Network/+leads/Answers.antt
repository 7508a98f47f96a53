use Rattle.std.proofs.Common.{◌≡◌, ◌↔◌, ◌<◌, ◌-◌, ◌/◌, suc, IsTrue, drop, None, Some, slice_get, sym, ap, ◌∙◌, subst, arith}
use Rattle.vc_machine.specs.Machine.{BodyLeaves}
use Rattle.vc_machine.specs.Paths.{Delivers}
use Rattle.vc_network.specs.Plan.{net_of}
use Rattle.vc_network.proofs.Wiring.{net_accepted}
use Rattle.vc_accepted.specs.NetworkOf.{network_of, port_at}
use Rattle.vc_accepted.specs.NetworkOf as to
use Rattle.vc_accepted.proofs.AcceptedNetwork.{accepted}
use Rattle.vc_core.specs.Private.Targets.{IsTarget, ComesTo}
use Rattle.vc_core.specs.State.{state_of}
use Rattle.vc_core.proofs.Routes.{sought_there, no_hop, hop_for, some_hop}
use Rattle.vc_core.proofs.PortPlaces.{far_is, no_wire}
use Rattle.vc_core.proofs.network.Network.+leads.Goals as goal

pub returns-in_default : goal.returns-in_default
returns-in_default t c = λ p e load is less comes.
    let w = c.args.way in
    let none : slice_get c.args.self.now.wires (w / 2) ≡ None = sym (c.in_default.ensures ∙ ap (λ z. slice_get z (w / 2)) c.as_slice.ensures) in
    absurd (no_wire p (state_of c.args.self.now) w is (subst (λ n. w < n) (sym is.ways) less) none)

pub returns-in-Node : goal.returns-in-Node
returns-in-Node t c = λ p e load is less comes.
    let w = c.args.way in
    let s = state_of c.args.self.now in
    let x = c.in-Some.wire.now in
    let link = c.port_of-far.result.link in
    let real : slice_get s.wires (w / 2) ≡ Some x = ap (λ z. slice_get z (w / 2)) (sym c.as_slice.ensures) ∙ sym c.in-Some.ensures in
    let at = far_is p s w x is real ∙ ap to.port_of (sym c.port_of-far.ensures) ∙ ap (λ z. port_at z link) c.in-Node.is in
    let told = subst (λ q. IsTrue c.is.result ↔ IsTarget q (record { body = c.args.body.now; mark = c.args.mark })) c.target_at.ensures c.is.ensures in
    sought_there (net_of (network_of p)) c.args.hops w c.args.body.now load e c.in-Node.node link c.args.ends.now c.args.mark c.is.result at comes told

pub returns-then-hops-eq0 : goal.returns-then-hops-eq0
returns-then-hops-eq0 t c = λ p e load is less comes.
    let w = c.args.way in
    let s = state_of c.args.self.now in
    let x = c.in-Some.wire.now in
    let link = c.port_of-far.result.link in
    let net = net_of (network_of p) in
    let real : slice_get s.wires (w / 2) ≡ Some x = ap (λ z. slice_get z (w / 2)) (sym c.as_slice.ensures) ∙ sym c.in-Some.ensures in
    let at = far_is p s w x is real ∙ ap to.port_of (sym c.port_of-far.ensures) ∙ ap (λ z. port_at z link) c.in-Switch.is in
    let none : c.args.hops ≡ 0 = (let t = c.if-hops-eq0.true in omega arith) in
    absurd (no_hop net w comes.stack e c.in-Switch.switch link (net_accepted (network_of p) (accepted p is.accepted)) at (subst (λ h. Delivers net h w comes.stack e) none comes.delivers))

pub returns-in-Some-way_on : goal.returns-in-Some-way_on
returns-in-Some-way_on t c = λ p e load is less comes.
    let w = c.args.way in
    let s = state_of c.args.self.now in
    let x = c.in-Some.wire.now in
    let link = c.port_of-far.result.link in
    let net = net_of (network_of p) in
    let k = c.in-Switch.switch in
    let real : slice_get s.wires (w / 2) ≡ Some x = ap (λ z. slice_get z (w / 2)) (sym c.as_slice.ensures) ∙ sym c.in-Some.ensures in
    let at = far_is p s w x is real ∙ ap to.port_of (sym c.port_of-far.ensures) ∙ ap (λ z. port_at z link) c.in-Switch.is in
    let more : c.args.hops ≡ suc (c.args.hops - 1) = (let t = c.if-hops-eq0.false in omega arith) in
    let headed = c.headed-headed.result.items in
    let one : c.as_slice-in-Switch.result.now ≡ headed = c.as_slice-in-Switch.ensures.value in
    let two : c.as_slice-in-Some-way_on.result.now ≡ headed = c.as_slice-in-Some-way_on.ensures.value in
    let leaves = subst (λ b. BodyLeaves net k b c.in-Some-way_on.way (drop c.in-Some-way_on.from b)) one (c.in-Some-way_on.ensures.leaves p is) in
    let next = hop_for net (c.args.hops - 1) w c.args.body.now load headed e k link c.least_header.result c.in-Some-way_on.way (drop c.in-Some-way_on.from headed) at (c.least_header.ensures p is) c.headed-headed.ensures
    (subst (λ h. ComesTo net h w c.args.body.now e load) more comes) leaves in
    c.leads.ensures p e load is leaves.leaves.real (subst (λ b. ComesTo net (c.args.hops - 1) c.in-Some-way_on.way b e load) (sym (c.split_at.ensures.back ∙ ap (drop c.in-Some-way_on.from) two)) next)

pub returns-in-None : goal.returns-in-None
returns-in-None t c = λ p e load is less comes.
    let w = c.args.way in
    let s = state_of c.args.self.now in
    let x = c.in-Some.wire.now in
    let link = c.port_of-far.result.link in
    let net = net_of (network_of p) in
    let k = c.in-Switch.switch in
    let real : slice_get s.wires (w / 2) ≡ Some x = ap (λ z. slice_get z (w / 2)) (sym c.as_slice.ensures) ∙ sym c.in-Some.ensures in
    let at = far_is p s w x is real ∙ ap to.port_of (sym c.port_of-far.ensures) ∙ ap (λ z. port_at z link) c.in-Switch.is in
    let more : c.args.hops ≡ suc (c.args.hops - 1) = (let t = c.if-hops-eq0.false in omega arith) in
    let one : c.as_slice-in-Switch.result.now ≡ c.headed-headed.result.items = c.as_slice-in-Switch.ensures.value in
    absurd (some_hop net (c.args.hops - 1) w c.args.body.now load c.as_slice-in-Switch.result.now e k link c.least_header.result at (c.least_header.ensures p is) (one ∙ c.headed-headed.ensures)
    (subst (λ h. ComesTo net h w c.args.body.now e load) more comes) (c.in-None.ensures.leaves p is))
