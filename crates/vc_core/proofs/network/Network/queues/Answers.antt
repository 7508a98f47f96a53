use Rattle.std.proofs.Common.{◌↔◌, IsTrue, None, sym, ap, ◌∙◌, subst}
use Rattle.std.specs.List.{Contains}
use Rattle.std.proofs.lemmas.List.Elements.{Contains-append_left, Contains-append_right}
use Rattle.vc_machine.specs.Places.{IsOf}
use Rattle.vc_network.specs.Plan.{net_of}
use Rattle.vc_packets.specs.declared.packet.Packet.{Packet}
use Rattle.vc_accepted.specs.NetworkOf.{network_of}
use Rattle.vc_vcp.specs.Links.{Vcp}
use Rattle.vc_core.specs.Private.Targets.{Has}
use Rattle.vc_core.proofs.Membership.{in_first, in_second}
use Rattle.vc_core.proofs.network.Network.queues.Goals as goal

pub returns-then-has_its : goal.returns-then-has_its
returns-then-has_its c = λ p c' is less ends owned.
    let first = c.packets_at.result.0.now in
    let second = c.packets_at.result.1.now in
    let Its : Packet → Type 0 = λ q. IsOf (net_of (network_of p)) c.args.way None q c' in
    let same = c.packets_at.ensures ∙ ap (λ (v : Vcp). v.carrier.queue c.args.link) (sym c.in-Some.ensures) in
    subst (λ ps. IsTrue c.has_its.result ↔ Has Its ps) same
    (in_first Its first second c.has_its.result c.if-has_its.true (c.has_its.ensures p c' is less ends (λ q h. owned q (subst (λ ps. Contains ps q) same (Contains-append_left first second q h)))))

pub returns-else-has_its : goal.returns-else-has_its
returns-else-has_its c = λ p c' is less ends owned.
    let first = c.packets_at.result.0.now in
    let second = c.packets_at.result.1.now in
    let Its : Packet → Type 0 = λ q. IsOf (net_of (network_of p)) c.args.way None q c' in
    let same = c.packets_at.ensures ∙ ap (λ (v : Vcp). v.carrier.queue c.args.link) (sym c.in-Some.ensures) in
    subst (λ ps. IsTrue c.has_its-else-has_its.result ↔ Has Its ps) same
    (in_second Its first second c.has_its.result c.has_its-else-has_its.result c.if-has_its.false
    (c.has_its.ensures p c' is less ends (λ q h. owned q (subst (λ ps. Contains ps q) same (Contains-append_left first second q h))))
    (c.has_its-else-has_its.ensures p c' is less ends (λ q h. owned q (subst (λ ps. Contains ps q) same (Contains-append_right first second q h)))))
