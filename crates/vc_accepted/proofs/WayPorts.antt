-- The ways that are found by an actor's link are those that leave and come in there.
use Rattle.std.proofs.Common.{◌≡◌, ◌↔◌, ℕ, zero, suc, ◌+◌, ◌-◌, ◌*◌, ◌/◌, ◌%◌, ◌≤◌, Bool, true, false, not, ◌&&◌, ◌==◌, List, [], ◌∷◌, length, map, slice_get, option_map, Option, Some, None, refl, sym, ap, subst, ◌∙◌, arith, if◌then◌else◌, eq-eqb, eqb-true, nat_lt, nat_le}
use Rattle.std.proofs.lemmas.Bool.Decides.{nat_tests}
use Rattle.std.proofs.lemmas.List.{length-map}
use Rattle.std.proofs.lemmas.Option.{same_Some}
use Rattle.std.proofs.lemmas.Bool.{and_parts}
use Rattle.std.specs.List.{list_all}
use Rattle.vc_plan.specs.declared.plan.Plan.{Plan}
use Rattle.vc_plan.specs.declared.port.Port.{Port}
use Rattle.vc_plan.specs.declared.port.Spot.{Spot}
use Rattle.vc_plan.specs.declared.port.Spot.TheVariants.{Node, Switch}
use Rattle.vc_plan.specs.declared.port.Wire.{Wire}
use Rattle.vc_plan.specs.declared.channel.Channel.{Channel}
use Rattle.vc_plan.specs.Accepted as plan
use Rattle.vc_plan.specs.Limits.{spot_there, wire_there, ends_there, home_there, process_names}
use Rattle.vc_plan.proofs.Limits.{passes}
use Rattle.vc_machine.specs.Paths.{AtNode, AtSwitch}
use Rattle.vc_network.specs.Plan.{ways, near, far, back, IsOutOf, IsInto}
use Rattle.vc_network.specs.Plan as network
use Rattle.vc_network.proofs.Backs.{back_back, back_into, back_out}
use Rattle.vc_network.proofs.Wires.{one_near}
use Rattle.vc_accepted.specs.NetworkOf.{network_of, wire_of, port_at}
use Rattle.vc_accepted.specs.NetworkOf as to
use Rattle.vc_accepted.specs.ActorWays.{actor_of, link_port, is_link, way_out, outgoing, incoming}
use Rattle.vc_accepted.proofs.Elements.{there}
use Rattle.vc_accepted.proofs.Ports.{side_of}
use Rattle.vc_accepted.proofs.Across.{Joins, wire_is, joined_way, way_of}
use Rattle.vc_accepted.proofs.Limits.{kept}
use Rattle.vc_accepted.proofs.AcceptedNetwork.{accepted}
use Rattle.vc_machine.proofs.Ports.{node_same, switch_same}

-- a port that is there is the actor's link where it is the port at that link
spot_is_link : (p : Plan) (actor link : ℕ) (s : Spot) (l : ℕ) → spot_there p s ≡ true → actor_of (length p.nodes) s ≡ actor → l ≡ link → port_at s l ≡ link_port p actor link
spot_is_link p actor link (Node n) l h a b =
    let t : nat_lt actor (length p.nodes) ≡ true = subst (λ z. nat_lt z (length p.nodes) ≡ true) a h in
    (λ i. AtNode (a i) (b i)) ∙ sym (ap (λ z. if z then AtNode actor link else AtSwitch (actor - length p.nodes) link) t)
spot_is_link p actor link (Switch k) l h a b =
    let t : nat_lt actor (length p.nodes) ≡ false = grind (arith, nat_tests) in
    let c : k ≡ actor - length p.nodes = omega arith in
    (λ i. AtSwitch (c i) (b i)) ∙ sym (ap (λ z. if z then AtNode actor link else AtSwitch (actor - length p.nodes) link) t)

pub link_is_at : (p : Plan) (actor link : ℕ) (port : Port) → spot_there p port.spot ≡ true → is_link (length p.nodes) actor link port ≡ true → to.port_of port ≡ link_port p actor link
link_is_at p actor link port h e =
    let r = and_parts (actor_of (length p.nodes) port.spot == actor) (port.link == link) e in
    spot_is_link p actor link port.spot port.link h (eqb-true (actor_of (length p.nodes) port.spot) actor r.0) (eqb-true port.link link r.1)

tests : (nodes actor link : ℕ) (port : Port) → actor_of nodes port.spot ≡ actor → port.link ≡ link → is_link nodes actor link port ≡ true
tests nodes actor link port a b = ap (λ z. z && (port.link == link)) (eq-eqb (actor_of nodes port.spot) actor a) ∙ eq-eqb port.link link b

at_is_link : (p : Plan) (actor link : ℕ) (s : Spot) (l : ℕ) → port_at s l ≡ link_port p actor link → (actor_of (length p.nodes) s ≡ actor) × (l ≡ link)
at_is_link p actor link s l e = by_test (nat_lt actor (length p.nodes)) refl s e
  where
    by_test : (b : Bool) → nat_lt actor (length p.nodes) ≡ b → (s : Spot) → port_at s l ≡ (if b then AtNode actor link else AtSwitch (actor - length p.nodes) link) →
        (actor_of (length p.nodes) s ≡ actor) × (l ≡ link)
    by_test true t (Node n) e = node_same n actor l link e
    by_test false t (Switch k) e =
        let r = switch_same k (actor - length p.nodes) l link e in
        let past : length p.nodes ≤ actor = grind (arith, nat_tests) in
        ((let a = r.0 in omega arith), r.1)
    by_test true t (Switch k) e = absurd (cc)
    by_test false t (Node n) e = absurd (cc)

-- and_parts ends of a wire are there
pub wired : (p : Plan) → plan.IsAccepted p → (i : ℕ) (w : Wire) (a : Bool) → slice_get p.wires i ≡ Some w → spot_there p (plan.port_of w a).spot ≡ true
wired p acc i w a e = by_side a
  where
    ok : (spot_there p w.one.spot ≡ true) × (spot_there p w.two.spot ≡ true)
    ok =
        and_parts (spot_there p w.one.spot) (spot_there p w.two.spot)
        (passes (wire_there p) p.wires i w
        (and_parts (list_all (wire_there p) p.wires) (list_all (ends_there p) p.vlinks && (list_all (λ (x : Channel). home_there p x.home) p.channels && list_all (process_names p) p.nodes)) (kept p acc).number).0 e)

    by_side : (a : Bool) → spot_there p (plan.port_of w a).spot ≡ true
    by_side true = ok.0
    by_side false = ok.1

-- a side of a wire that is the link, and the way from there
record Found (nodes actor link i : ℕ) (ws : List Wire) (v : ℕ) : Type 0 where
  at : ℕ
  wire : Wire
  side : Bool
  is : slice_get ws at ≡ Some wire
  link_is : is_link nodes actor link (plan.port_of wire side) ≡ true
  way_is : v ≡ way_of (i + at) side

later : (nodes actor link i : ℕ) (w : Wire) (ws : List Wire) (v : ℕ) → Found nodes actor link (suc i) ws v → Found nodes actor link i (w ∷ ws) v
later nodes actor link i w ws v f =
    let same : suc i + f.at ≡ i + suc f.at = omega arith in
    record { at = suc f.at; wire = f.wire; side = f.side; is = f.is; link_is = f.link_is; way_is = f.way_is ∙ ap (λ z. way_of z f.side) same }

out_found : (nodes actor link i : ℕ) (ws : List Wire) (v : ℕ) → way_out nodes actor link i ws ≡ Some v → Found nodes actor link i ws v
out_found nodes actor link i [] v e = absurd (cc)
out_found nodes actor link i (w ∷ ws) v e = by_test (is_link nodes actor link w.one) (is_link nodes actor link w.two) refl refl e (out_found nodes actor link (suc i) ws v)
  where
    none : i ≡ i + 0
    none = omega arith

    by_test : (a b : Bool) → is_link nodes actor link w.one ≡ a → is_link nodes actor link w.two ≡ b →
        (if a then Some (2 * i) else (if b then Some (2 * i + 1) else way_out nodes actor link (suc i) ws)) ≡ Some v →
        (way_out nodes actor link (suc i) ws ≡ Some v → Found nodes actor link (suc i) ws v) → Found nodes actor link i (w ∷ ws) v
    by_test true b s t e rest = record { at = 0; wire = w; side = true; is = refl; link_is = s; way_is = sym (same_Some (2 * i) v e) ∙ ap (λ z. way_of z true) none }
    by_test false true s t e rest = record { at = 0; wire = w; side = false; is = refl; link_is = t; way_is = sym (same_Some (2 * i + 1) v e) ∙ ap (λ z. way_of z false) none }
    by_test false false s t e rest = later nodes actor link i w ws v (rest e)

-- where a wire has the link, a way is found
has_out : (nodes actor link i : ℕ) (ws : List Wire) (k : ℕ) (w : Wire) (side : Bool) → slice_get ws k ≡ Some w → is_link nodes actor link (plan.port_of w side) ≡ true →
    (v : ℕ) × (way_out nodes actor link i ws ≡ Some v)
has_out nodes actor link i [] k w side e h = absurd (cc)
has_out nodes actor link i (x ∷ xs) k w side e h = by_test (is_link nodes actor link x.one) (is_link nodes actor link x.two) refl refl k e (λ j f. has_out nodes actor link (suc i) xs j w side f h)
  where
    next : Option ℕ
    next = way_out nodes actor link (suc i) xs

    true_false : (b : Bool) → b ≡ true → b ≡ false → ⊥
    true_false true s t = absurd (cc)
    true_false false s t = absurd (cc)

    by_side : (side : Bool) → x ≡ w → is_link nodes actor link (plan.port_of w side) ≡ true → is_link nodes actor link x.one ≡ false → is_link nodes actor link x.two ≡ false → ⊥
    by_side true is h s t = true_false (is_link nodes actor link x.one) (subst (λ (z : Wire). is_link nodes actor link z.one ≡ true) (sym is) h) s
    by_side false is h s t = true_false (is_link nodes actor link x.two) (subst (λ (z : Wire). is_link nodes actor link z.two ≡ true) (sym is) h) t

    by_test : (a b : Bool) → is_link nodes actor link x.one ≡ a → is_link nodes actor link x.two ≡ b → (k : ℕ) → slice_get (x ∷ xs) k ≡ Some w →
        ((j : ℕ) → slice_get xs j ≡ Some w → (v : ℕ) × (way_out nodes actor link (suc i) xs ≡ Some v)) →
        (v : ℕ) × ((if is_link nodes actor link x.one then Some (2 * i) else (if is_link nodes actor link x.two then Some (2 * i + 1) else way_out nodes actor link (suc i) xs)) ≡ Some v)
    by_test true b s t k e rest = (2 * i, ap (λ z. if z then Some (2 * i) else (if is_link nodes actor link x.two then Some (2 * i + 1) else way_out nodes actor link (suc i) xs)) s)
    by_test false true s t k e rest =
        (2 * i + 1, (λ j. if s j then Some (2 * i) else (if t j then Some (2 * i + 1) else way_out nodes actor link (suc i) xs)))
    by_test false false s t zero e rest = absurd (by_side side (same_Some x w e) h s t)
    by_test false false s t (suc k) e rest =
        let r = rest k e in
        (r.0, (λ j. if s j then Some (2 * i) else (if t j then Some (2 * i + 1) else way_out nodes actor link (suc i) xs)) ∙ r.1)

-- the way found goes out by the link
out_is : (p : Plan) → plan.IsAccepted p → (actor link w : ℕ) → outgoing p actor link ≡ Some w → IsOutOf (network_of p) w (link_port p actor link)
out_is p acc actor link w e =
    let f = out_found (length p.nodes) actor link 0 p.wires w e in
    let a = plan.port_of f.wire f.side in
    let b = plan.port_of f.wire (not f.side) in
    let j : Joins p.wires a b = record { at = f.at; wire = f.wire; from = f.side; is = f.is; near = refl; far = refl } in
    let g = joined_way p a b j in
    let none : 0 + f.at ≡ f.at = omega arith in
    let same : way_of f.at f.side ≡ w = sym (f.way_is ∙ ap (λ z. way_of z f.side) none) in
    let at = link_is_at p actor link a (wired p acc f.at f.wire f.side f.is) f.link_is in
    subst (λ z. IsOutOf (network_of p) z (link_port p actor link)) same (g.real, g.leaves ∙ at)

-- a way that goes out by the link is the one found
is_out : (p : Plan) → plan.IsAccepted p → (actor link w : ℕ) → IsOutOf (network_of p) w (link_port p actor link) → outgoing p actor link ≡ Some w
is_out p acc actor link w o = settle (there wire_of p.wires (w / 2) (let r = o.0 in omega arith))
  where
    settle : (x : Wire) × (slice_get p.wires (w / 2) ≡ Some x) → outgoing p actor link ≡ Some w
    settle (x, e) =
        let side = w % 2 == 0 in
        let port = plan.port_of x side in
        let at : to.port_of port ≡ link_port p actor link = sym (side_of x side) ∙ ap (λ z. network.port_of z side) (sym (wire_is p (w / 2) x e)) ∙ o.1 in
        let l = at_is_link p actor link port.spot port.link at in
        let found = has_out (length p.nodes) actor link 0 p.wires (w / 2) x side e (tests (length p.nodes) actor link port l.0 l.1) in
        let out = out_is p acc actor link found.0 found.1 in
        let same = one_near (network_of p) (accepted p acc) found.0 w out.0 o.0 (out.1 ∙ sym o.1) in
        found.1 ∙ ap Some same

pub outgoing_is : (p : Plan) → plan.IsAccepted p → (actor link w : ℕ) → (outgoing p actor link ≡ Some w) ↔ IsOutOf (network_of p) w (link_port p actor link)
outgoing_is p acc actor link w = (out_is p acc actor link w, is_out p acc actor link w)

mapped : (o : Option ℕ) (w : ℕ) → option_map back o ≡ Some w → (v : ℕ) × (o ≡ Some v) × (back v ≡ w)
mapped None w e = absurd (cc)
mapped (Some v) w e = (v, refl, same_Some (back v) w e)

in_is : (p : Plan) → plan.IsAccepted p → (actor link w : ℕ) → incoming p actor link ≡ Some w → IsInto (network_of p) w (link_port p actor link)
in_is p acc actor link w e =
    let m = mapped (outgoing p actor link) w e in
    subst (λ z. IsInto (network_of p) z (link_port p actor link)) m.2 (back_into (network_of p) m.0 (link_port p actor link) (out_is p acc actor link m.0 m.1))

is_in : (p : Plan) → plan.IsAccepted p → (actor link w : ℕ) → IsInto (network_of p) w (link_port p actor link) → incoming p actor link ≡ Some w
is_in p acc actor link w o =
    ap (option_map back) (is_out p acc actor link (back w) (back_out (network_of p) w (link_port p actor link) o)) ∙ ap Some (back_back w)

pub incoming_is : (p : Plan) → plan.IsAccepted p → (actor link w : ℕ) → (incoming p actor link ≡ Some w) ↔ IsInto (network_of p) w (link_port p actor link)
incoming_is p acc actor link w = (in_is p acc actor link w, is_in p acc actor link w)

-- ways are numbered below 512
pub ways_few : (p : Plan) → plan.IsAccepted p → ways (network_of p) ≤ 512
ways_few p acc = bound (length p.wires) (length (map wire_of p.wires)) (length-map p.wires wire_of) (kept p acc).wires
  where
    bound : (n m : ℕ) → m ≡ n → nat_le n 256 ≡ true → 2 * m ≤ 512
    bound n m e h = grind (arith, nat_tests)
