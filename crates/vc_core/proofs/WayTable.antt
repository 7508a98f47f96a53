-- A table of outgoing ways that is filled wire by wire.
use Rattle.std.proofs.Common.{◌≡◌, ℕ, zero, suc, ◌+◌, ◌*◌, ◌<◌, ◌≤◌, Bool, true, false, ◌&&◌, ◌==◌, List, length, take, slice_get, slice_set, Option, Some, None, refl, sym, ap, ◌∙◌, arith, if◌then◌else◌, nat_lt, nat_le, eqb-true}
use Rattle.std.proofs.lemmas.Bool.Decides.{nat_tests}
use Rattle.std.proofs.lemmas.List.{length-set}
use Rattle.std.proofs.Math.ListN.{replicate}
use Rattle.std.proofs.lemmas.Bool.{and_parts}
use Rattle.std.specs.List.{list_all}
use Rattle.vc_plan.specs.declared.plan.Plan.{Plan}
use Rattle.vc_plan.specs.declared.port.Port.{Port}
use Rattle.vc_plan.specs.declared.port.Spot.{Spot}
use Rattle.vc_plan.specs.declared.port.Spot.TheVariants.{Node, Switch}
use Rattle.vc_plan.specs.declared.port.Wire.{Wire}
use Rattle.vc_plan.specs.Accepted.{IsAccepted, port_of}
use Rattle.vc_plan.specs.Limits.{link_ok, port_ok, wire_ok, ends_ok, switch_links_ok, spot_there}
use Rattle.vc_plan.proofs.Limits.{passes}
use Rattle.vc_vcp.proofs.ListWrites.{place-set_same, place-set_other}
use Rattle.vc_accepted.specs.ActorWays.{actor_of, is_link, way_out}
use Rattle.vc_accepted.proofs.Tables.{wire_next}
use Rattle.vc_accepted.proofs.Limits.{kept}
use Rattle.vc_accepted.proofs.WayPorts.{wired}
use Rattle.vc_core.specs.Private.OutgoingTable.{left}
use Rattle.vc_core.specs.Wiring.{there, out_at}

-- how many there are at most
pub record AreFew (p : Plan) : Type 0 where
  pub nodes : length p.nodes ≤ 32
  pub switches : length p.switches ≤ 32
  pub wires : length p.wires ≤ 256

at_most : (a b : ℕ) → nat_le a b ≡ true → a ≤ b
at_most a b h = grind (arith, nat_tests)

pub are_few : (p : Plan) → IsAccepted p → AreFew p
are_few p acc = let k = kept p acc in record { nodes = at_most _ _ k.nodes; switches = at_most _ _ k.switches; wires = at_most _ _ k.wires }

-- nothing leaves at first
nothing : (n i : ℕ) → there (slice_get (replicate n None) i) ≡ None
nothing zero i = refl
nothing (suc n) zero = refl
nothing (suc n) (suc i) = nothing n i

pub none_leaves : (n actor link : ℕ) → out_at (replicate n None) actor link ≡ None
none_leaves n actor link = by_test (nat_lt link 32)
  where
    by_test : (b : Bool) → (if b then there (slice_get (replicate n None) (actor * 32 + link)) else None) ≡ None
    by_test true = nothing n (actor * 32 + link)
    by_test false = refl

-- another way leaves by a port
pub leaves : (out : List (Option ℕ)) (nodes actors : ℕ) (port : Port) (way : ℕ) → length out ≡ actors * 32 → actor_of nodes port.spot < actors → port.link < 32 →
    (actor link : ℕ) → out_at (left out nodes port way) actor link ≡ (if is_link nodes actor link port then Some way else out_at out actor link)
leaves out nodes actors port way long few small actor link = by_test (nat_lt link 32) (actor_of nodes port.spot == actor) (port.link == link) refl refl refl
  where
    here : ℕ
    here = actor_of nodes port.spot * 32 + port.link

    less : here < length out
    less = omega arith

    by_test : (a b d : Bool) → nat_lt link 32 ≡ a → (actor_of nodes port.spot == actor) ≡ b → (port.link == link) ≡ d →
        (if a then there (slice_get (slice_set out here (Some way)) (actor * 32 + link)) else None)
        ≡ (if b && d then Some way else (if a then there (slice_get out (actor * 32 + link)) else None))
    by_test true true true r s t =
        let x = eqb-true (actor_of nodes port.spot) actor s in
        let y = eqb-true port.link link t in
        let same : actor * 32 + link ≡ here = omega arith in
        ap (λ i. there (slice_get (slice_set out here (Some way)) i)) same ∙ ap there (place-set_same out here (Some way) less)
    by_test true true false r s t =
        let differ : actor * 32 + link ≡ here → ⊥ = λ e. grind (arith, nat_tests) in
        ap there (place-set_other out here (actor * 32 + link) (Some way) differ)
    by_test true false d r s t =
        let small_link : link < 32 = grind (arith, nat_tests) in
        let apart : actor_of nodes port.spot ≡ actor → ⊥ = λ e. grind (arith, nat_tests) in
        let differ : actor * 32 + link ≡ here → ⊥ = λ e. apart (omega arith) in
        ap there (place-set_other out here (actor * 32 + link) (Some way) differ)
    by_test false true true r s t = absurd (grind (arith, nat_tests))
    by_test false true false r s t = refl
    by_test false false d r s t = refl

as_long : (out : List (Option ℕ)) (nodes : ℕ) (port : Port) (way : ℕ) → length (left out nodes port way) ≡ length out
as_long out nodes port way = length-set out (actor_of nodes port.spot * 32 + port.link) (Some way)

-- a port that is there
pub spot_few : (p : Plan) (s : Spot) → spot_there p s ≡ true → actor_of (length p.nodes) s < length p.nodes + length p.switches
spot_few p (Node n) h = grind (arith, nat_tests)
spot_few p (Switch k) h = grind (arith, nat_tests)

link_small : (s : Spot) (link : ℕ) → link_ok s link ≡ true → link < 32
link_small (Node n) link h = grind (arith, nat_tests)
link_small (Switch k) link h = grind (arith, nat_tests)

pub port_small : (p : Plan) → IsAccepted p → (k : ℕ) (w : Wire) (side : Bool) → slice_get p.wires k ≡ Some w → (port_of w side).link < 32
port_small p acc k w side e = by_side side (and_parts (port_ok w.one) (port_ok w.two) ok)
  where
    ok : wire_ok w ≡ true
    ok = passes wire_ok p.wires k w (and_parts (list_all wire_ok p.wires) (list_all ends_ok p.vlinks && list_all switch_links_ok p.switches) (kept p acc).links).0 e

    by_side : (b : Bool) → (port_ok w.one ≡ true) × (port_ok w.two ≡ true) → (port_of w b).link < 32
    by_side true h = link_small w.one.spot w.one.link h.0
    by_side false h = link_small w.two.spot w.two.link h.1

-- a wire more
pub next_long : (p : Plan) (out mid new : List (Option ℕ)) (k : ℕ) (w : Wire) → mid ≡ left out (length p.nodes) w.one (2 * k) → new ≡ left mid (length p.nodes) w.two (2 * k + 1) →
    length out ≡ (length p.nodes + length p.switches) * 32 → length new ≡ (length p.nodes + length p.switches) * 32
next_long p out mid new k w one two long =
    ap length two ∙ as_long mid (length p.nodes) w.two (2 * k + 1) ∙ ap length one ∙ as_long out (length p.nodes) w.one (2 * k) ∙ long

pub next_tells : (p : Plan) → IsAccepted p → (out mid new : List (Option ℕ)) (k : ℕ) (w : Wire) → slice_get p.wires k ≡ Some w →
    mid ≡ left out (length p.nodes) w.one (2 * k) → new ≡ left mid (length p.nodes) w.two (2 * k + 1) → length out ≡ (length p.nodes + length p.switches) * 32 →
    ((actor link : ℕ) → out_at out actor link ≡ way_out (length p.nodes) actor link 0 (take k p.wires)) →
    (actor link : ℕ) → out_at new actor link ≡ way_out (length p.nodes) actor link 0 (take (suc k) p.wires)
next_tells p acc out mid new k w e one two long before actor link =
    let n = length p.nodes in
    let mid_long : length mid ≡ (length p.nodes + length p.switches) * 32 = ap length one ∙ as_long out n w.one (2 * k) ∙ long in
    ap (λ z. out_at z actor link) two
    ∙ leaves mid n (n + length p.switches) w.two (2 * k + 1) mid_long (spot_few p w.two.spot (wired p acc k w false e)) (port_small p acc k w false e) actor link
    ∙ ap (λ z. if is_link n actor link w.two then Some (2 * k + 1) else z)
    (ap (λ z. out_at z actor link) one
    ∙ leaves out n (n + length p.switches) w.one (2 * k) long (spot_few p w.one.spot (wired p acc k w true e)) (port_small p acc k w true e) actor link
    ∙ ap (λ z. if is_link n actor link w.one then Some (2 * k) else z) (before actor link))
    ∙ sym (wire_next p acc actor link k w e)

pub few : (p : Plan) → IsAccepted p → (length p.nodes ≤ 32) × (length p.switches ≤ 32) × (length p.wires ≤ 256)
few p acc =
    let a = (kept p acc).nodes in
    let b = (kept p acc).switches in
    let d = (kept p acc).wires in
    (grind (arith, nat_tests), grind (arith, nat_tests), grind (arith, nat_tests))
