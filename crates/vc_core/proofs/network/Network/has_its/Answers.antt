use Rattle.std.proofs.Common.{◌≡◌, ◌↔◌, ◌<◌, IsTrue, length, slice_get, Some, None, refl, sym, ap, ◌∙◌, subst, inl, inr, arith}
use Rattle.std.proofs.lemmas.Bool.{cases_lt}
use Rattle.std.proofs.lemmas.Option.{slice_get_read, slice_get_within}
use Rattle.vc_machine.specs.Places.{IsOf, OnWire}
use Rattle.vc_network.specs.Plan.{net_of}
use Rattle.vc_accepted.specs.NetworkOf.{network_of}
use Rattle.vc_vcp.proofs.ListWrites.{same_read}
use Rattle.vc_core.specs.Private.Targets.{IsOwned}
use Rattle.vc_core.proofs.Membership.{has_at, has_none, contains_at}
use Rattle.vc_actor.proofs.Turns.{clash}
use Rattle.vc_core.proofs.network.Network.has_its.Goals as goal

pub returns-then-is_its : goal.returns-then-is_its
returns-then-is_its c = λ p c' is less ends owned.
    let xs = c.args.packets.now in
    let k = c.loop-packet.packet-index in
    let a = c.packet-item.result in
    let there : slice_get xs k ≡ Some a = slice_get_read xs (length xs) k a refl c.loop-packet-test.true c.packet-item.is in
    let whose = subst (λ b. IsOwned (network_of p) (OnWire c.args.way, record { body = b; mark = a.mark }) → IsTrue c.is_its.result ↔ IsOf (net_of (network_of p)) c.args.way None (record { body = b; mark = a.mark }) c') c.as_slice.ensures
    (c.is_its.ensures p c' is less ends) (owned a (contains_at xs k a there)) in
    ((λ t. has_at (λ q. IsOf (net_of (network_of p)) c.args.way None q c') xs k a there (whose.0 c.if-is_its.true)), (λ has. refl))

pub loop-packet-preserved : goal.loop-packet-preserved
loop-packet-preserved c = λ p c' is less ends owned j q below at b.
    let xs = c.args.packets.now in
    let k = c.loop-packet.packet-index in
    let a = c.packet-item.result in
    let there : slice_get xs k ≡ Some a = slice_get_read xs (length xs) k a refl c.loop-packet-test.true c.packet-item.is in
    let whose = subst (λ b. IsOwned (network_of p) (OnWire c.args.way, record { body = b; mark = a.mark }) → IsTrue c.is_its.result ↔ IsOf (net_of (network_of p)) c.args.way None (record { body = b; mark = a.mark }) c') c.as_slice.ensures
    (c.is_its.ensures p c' is less ends) (owned a (contains_at xs k a there)) in
    elim (cases_lt j k) [
      | inl sooner ↦ c.loop-packet.invariant p c' is less ends owned j q sooner at b
      | inr later ↦ (let same : k ≡ j = omega arith in
          let it : a ≡ q = same_read xs k a q there (ap (slice_get xs) same ∙ at) in
          clash c.is_its.result c.if-is_its.false (whose.1 (subst (λ z. IsOf (net_of (network_of p)) c.args.way None z c') (sym it) b)))
    ]

pub returns : goal.returns
returns c = λ p c' is less ends owned.
    let xs = c.args.packets.now in
    let past = c.loop-packet-test.false in (
      (λ t. absurd (cc)),
      (λ has. absurd (has_none (λ q. IsOf (net_of (network_of p)) c.args.way None q c') xs (λ i q at b.
          let real = slice_get_within xs i q at in
          let below : i < c.loop-packet.packet-index = omega arith in
          c.loop-packet.invariant p c' is less ends owned i q below at b) has)),
    )
