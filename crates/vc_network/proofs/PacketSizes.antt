-- No byte past the limit comes to pass: as over the ways.
use Rattle.std.proofs.Common.{◌≡◌, ℕ, ◌+◌, ◌*◌, ◌≤◌, ◌<◌, true, not, length, refl, sym, subst, arith, Option, Some, None}
use Rattle.vc_switch.specs.Forward.{Interval, IsDrawn}
use Rattle.vc_machine.specs.Links.{Tokens}
use Rattle.vc_switch.specs.Waiting.{Wormhole}
use Rattle.vc_machine.specs.Private.Laws.{FitsWay}
use Rattle.vc_machine.specs.Laws.{HasHeaders}
use Rattle.vc_machine.proofs.Limits.{sound}
use Rattle.vc_machine.proofs.PacketSizes.{limits, all_fit}
use Rattle.vc_network.specs.Plan.{Plan, switch_plan, body_limit, Home, Way, Inside, home, ways, back, net_of, net_channel, is_virtual, IsAccepted}
use Rattle.vc_network.proofs.Wiring.{net_accepted}
use Rattle.vc_network.proofs.Steps.{Sound}

pub has_headers : (plan : Plan) → IsAccepted plan → HasHeaders (net_of plan) plan.headers
has_headers plan acc = record { routes = λ c r. by_home c (home plan c) refl r.1; random = λ n i v k d h. drawn n i v k ((switch_plan plan n).random i) refl d h }
  where
    by_home : (c : ℕ) (h : Home) → home plan c ≡ h → is_virtual h ≡ true → (length (net_channel plan (home plan c)).from.route ≤ plan.headers) × (length (net_channel plan (home plan c)).to.route ≤ plan.headers)
    by_home c (Way v ab) e q =
        subst (λ k. (length (net_channel plan k).from.route ≤ plan.headers) × (length (net_channel plan k).to.route ≤ plan.headers)) (sym e)
        (acc.headers v ab (acc.on_link c v ab e), acc.headers v (not ab) (acc.on_link c v ab e))
    by_home c (Inside m) e q = absurd (cc)

    drawn : (n i v k : ℕ) (range : Option Interval) → (switch_plan plan n).random i ≡ range → IsDrawn range (Some v) → k ≤ 5 → k + 1 ≤ plan.headers
    drawn n i v k None e d h = absurd d
    drawn n i v k (Some range) e d h = let six = acc.sixth n i range e in omega arith

pub fits : (plan : Plan) (t : Tokens) → IsAccepted plan → Sound plan t → (w : ℕ) → w < ways plan → length (t.receiver w).got ≤ body_limit plan
fits plan t acc s w real =
    let net = net_of plan in
    let ok = net_accepted plan acc in
    let headers = has_headers plan acc in
    let g = sound net back Wormhole (FitsWay net plan.headers) (2 * plan.headers + 32) (ok).ranges (limits net plan.headers headers) (all_fit net plan.headers ok headers) s.events t s.run in
    g.within.inputs w real
