-- By which links ways go out, as bits, and where ways lead.
use Rattle.std.proofs.Common.{◌≡◌, ◌↔◌, ℕ, zero, suc, ◌+◌, ◌-◌, ◌*◌, ◌/◌, ◌%◌, ◌<◌, ◌≤◌, ◌==◌, ◌&&◌, Bool, true, false, not, nat_lt, is_some, List, [], ◌∷◌, ◌++◌, length, take, get_or, slice_get, slice_set, Option, Some, None, refl, sym, ap, ◌∙◌, subst, arith, inl, inr, if◌then◌else◌, eq-eqb}
use Rattle.std.proofs.lemmas.Bool.{cases_lt}
use Rattle.std.proofs.lemmas.Bool.Decides.{nat_tests}
use Rattle.std.proofs.lemmas.List.{length-map}
use Rattle.std.proofs.lemmas.Nat.Bits.{bit_at-zero}
use Rattle.std.proofs.lemmas.Option.{slice_get-get_or, slice_get_past, slice_get_within}
use Rattle.std.proofs.Math.ListN.{get_or-eq_default}
use Rattle.std.specs.Int.{bit_at}
use Rattle.std.specs.Option.{option_map}
use Rattle.vc_network.specs.Plan.{back, far, ways, IsInto}
use Rattle.vc_network.specs.Plan as network
use Rattle.vc_plan.specs.Accepted.{IsAccepted}
use Rattle.vc_plan.specs.Accepted as plan
use Rattle.vc_plan.specs.declared.plan.Plan.{Plan}
use Rattle.vc_plan.specs.declared.port.Port.{Port}
use Rattle.vc_plan.specs.declared.port.Wire.{Wire}
use Rattle.vc_accepted.specs.NetworkOf.{network_of, port_at, wire_of}
use Rattle.vc_accepted.specs.NetworkOf as to
use Rattle.vc_accepted.specs.ActorWays.{actor_of, actor_of as number_of, is_link, link_port}
use Rattle.vc_machine.specs.Paths.{AtNode, AtSwitch}
use Rattle.vc_plan.specs.declared.port.Spot.{Spot}
use Rattle.vc_plan.specs.declared.port.Spot.TheVariants.{Node, Switch}
use Rattle.vc_accepted.proofs.Across.{wire_is}
use Rattle.vc_accepted.proofs.Limits.{kept}
use Rattle.vc_accepted.proofs.Elements.{there as found_there}
use Rattle.vc_accepted.proofs.Ports.{side_of}
use Rattle.vc_accepted.proofs.WayPorts.{incoming_is, link_is_at, wired}
use Rattle.vc_core.specs.Private.Wiring.{AreRooms, AreEnds}
use Rattle.vc_core.specs.Wiring.{there, out_at, in_at, AreWaysAt, IsWired}
use Rattle.vc_core.specs.Private.Wiring.{end_at, ends_of}
use Rattle.vc_core.specs.declared.ends.End.{End}
use Rattle.vc_core.proofs.Bits.{elsewhere, there_now}
use Rattle.vc_machine.proofs.Ports.{node_same, switch_same}

-- the port that a link stands for names its actor and the link

pub number_at : (p : Plan) (actor link : ℕ) (s : Spot) (l : ℕ) → port_at s l ≡ link_port p actor link → (number_of (length p.nodes) s ≡ actor) × (l ≡ link)
number_at p actor link s l e = by_test (nat_lt actor (length p.nodes)) refl s e
  where
    by_test : (b : Bool) → nat_lt actor (length p.nodes) ≡ b → (s : Spot) → port_at s l ≡ (if b then AtNode actor link else AtSwitch (actor - length p.nodes) link) →
        (number_of (length p.nodes) s ≡ actor) × (l ≡ link)
    by_test true t (Node n) e = node_same n actor l link e
    by_test false t (Switch k) e =
        let r = switch_same k (actor - length p.nodes) l link e in
        let past : length p.nodes ≤ actor = grind (arith, nat_tests) in
        ((let a = r.0 in omega arith), r.1)
    by_test true t (Switch k) e = absurd (cc)
    by_test false t (Node n) e = absurd (cc)

-- Rooms.

pub some_wired : (o : Option ℕ) → is_some o ≡ true → (w : ℕ) × (o ≡ Some w)
some_wired (Some w) e = (w, refl)
some_wired None e = absurd (cc)

pub wired_some : (o : Option ℕ) (w : ℕ) → o ≡ Some w → is_some o ≡ true
wired_some o w e = ap is_some e

-- past the table no way goes out
none_past : (out : List (Option ℕ)) (k l : ℕ) → length out ≤ k * 32 + l → out_at out k l ≡ None
none_past out k l past = by_test (nat_lt l 32)
  where
    gone : there (slice_get out (k * 32 + l)) ≡ None
    gone = ap there (slice_get_past out (k * 32 + l) past)

    by_test : (b : Bool) → (if b then there (slice_get out (k * 32 + l)) else None) ≡ None
    by_test true = gone
    by_test false = refl

pub rooms_more : (out : List (Option ℕ)) (old : List ℕ) (room n : ℕ) → n < length old →
    ((k l : ℕ) → k < n → l < 32 → (bit_at (get_or old k 0) l ≡ 1) ↔ IsWired out k l) → ((l : ℕ) → l < 32 → (bit_at room l ≡ 1) ↔ IsWired out n l) →
    (k l : ℕ) → k < n + 1 → l < 32 → (bit_at (get_or (slice_set old n room) k 0) l ≡ 1) ↔ IsWired out k l
rooms_more out old room n within before one k l less few = elim (cases_lt k n) [
  | inl sooner ↦ subst (λ z. (bit_at z l ≡ 1) ↔ IsWired out k l) (sym (elsewhere old n k room (λ same. omega arith))) (before k l sooner few)
  | inr later ↦ (let same : k ≡ n = omega arith in
      let here : get_or (slice_set old n room) k 0 ≡ room = ap (λ z. get_or (slice_set old n room) z 0) same ∙ there_now old n (get_or old n 0) room (slice_get-get_or old n 0 within) in
      subst (λ z. (bit_at z l ≡ 1) ↔ IsWired out k l) (sym here) (subst (λ z. (bit_at room l ≡ 1) ↔ IsWired out z l) (sym same) (one l few)))
]

pub rooms_all : (out : List (Option ℕ)) (rooms : List ℕ) (n : ℕ) → length rooms ≡ n → length out ≤ n * 32 → ((k l : ℕ) → k < n → l < 32 → (bit_at (get_or rooms k 0) l ≡ 1) ↔ IsWired out k l) → AreRooms out rooms
rooms_all out rooms n count long told k l few = elim (cases_lt k n) [
  | inl less ↦ told k l less few
  | inr past ↦ (
    (λ t. absurd (let z : bit_at (get_or rooms k 0) l ≡ 0 = ap (λ y. bit_at y l) (get_or-eq_default rooms 0 {n = k} (let c = count in omega arith)) ∙ bit_at-zero l in omega (arith, z, t))),
    (λ w. absurd (let none = none_past out k l (omega arith) in let e = w.1 in cc)),
  )
]

-- the nodes and the switches together
pub few_actors : (p : Plan) → IsAccepted p → length p.nodes + length p.switches ≤ 64
few_actors p acc = let k = kept p acc in let n = k.nodes in let m = k.switches in grind (arith, nat_tests)

-- a way of an actor is in the table
pub out_within : (out : List (Option ℕ)) (k l w : ℕ) → out_at out k l ≡ Some w → k * 32 + l < length out
out_within out k l w e = elim (cases_lt (k * 32 + l) (length out)) [
  | inl less ↦ less
  | inr past ↦ absurd (let none = none_past out k l past in cc)
]

pub in_out : (o : Option ℕ) (w : ℕ) → option_map back o ≡ Some w → (v : ℕ) × (o ≡ Some v)
in_out None w e = absurd (cc)
in_out (Some v) w e = (v, refl)

-- Ends.

pub ends_more : (n : ℕ) (ws : List Wire) (i : ℕ) (w : Wire) → slice_get ws i ≡ Some w → (ends_of n (take i ws) ++ end_at n w.two ∷ []) ++ end_at n w.one ∷ [] ≡ ends_of n (take (suc i) ws)
ends_more n [] i w e = absurd (cc)
ends_more n (x ∷ xs) zero w e = let same : x ≡ w = cc in ap (λ z. end_at n z.two ∷ end_at n z.one ∷ []) (sym same)
ends_more n (x ∷ xs) (suc i) w e = ap (λ zs. end_at n x.two ∷ end_at n x.one ∷ zs) (ends_more n xs i w e)

pub ends_count : (n : ℕ) (ws : List Wire) → length (ends_of n ws) ≡ 2 * length ws
ends_count n [] = refl
ends_count n (x ∷ xs) = let e = ends_count n xs in omega arith

ends_get : (n : ℕ) (ws : List Wire) (i : ℕ) (x : Wire) → slice_get ws i ≡ Some x →
    (slice_get (ends_of n ws) (i + i) ≡ Some (end_at n x.two)) × (slice_get (ends_of n ws) (suc (i + i)) ≡ Some (end_at n x.one))
ends_get n [] i x e = absurd (cc)
ends_get n (y ∷ ys) zero x e = let same : y ≡ x = cc in (ap (λ z. Some (end_at n z.two)) same, ap (λ z. Some (end_at n z.one)) same)
ends_get n (y ∷ ys) (suc i) x e =
    let r = ends_get n ys i x e in
    let twice : suc i + suc i ≡ suc (suc (i + i)) = omega arith in (
      ap (slice_get (ends_of n (y ∷ ys))) twice ∙ r.0,
      ap (λ z. slice_get (ends_of n (y ∷ ys)) (suc z)) twice ∙ r.1,
    )

-- where way w leads
ends_far : (n : ℕ) (ws : List Wire) (w : ℕ) (x : Wire) → slice_get ws (w / 2) ≡ Some x → slice_get (ends_of n ws) w ≡ Some (end_at n (plan.port_of x (not (w % 2 == 0))))
ends_far n ws w x e = by_side (w % 2 == 0) refl
  where
    by_side : (b : Bool) → (w % 2 == 0) ≡ b → slice_get (ends_of n ws) w ≡ Some (end_at n (plan.port_of x (not b)))
    by_side true t = let even : w ≡ w / 2 + w / 2 = grind (arith, nat_tests) in ap (slice_get (ends_of n ws)) even ∙ (ends_get n ws (w / 2) x e).0
    by_side false t = let odd : w ≡ suc (w / 2 + w / 2) = grind (arith, nat_tests) in ap (slice_get (ends_of n ws)) odd ∙ (ends_get n ws (w / 2) x e).1

module _ (p : Plan) (acc : IsAccepted p) (out : List (Option ℕ)) (tells : AreWaysAt p out) where
  abbrev n : ℕ
  n = length p.nodes

  far_of : (w : ℕ) (x : Wire) → slice_get p.wires (w / 2) ≡ Some x → far (network_of p) w ≡ to.port_of (plan.port_of x (not (w % 2 == 0)))
  far_of w x e = ap (λ z. network.port_of z (not (w % 2 == 0))) (wire_is p (w / 2) x e) ∙ side_of x (not (w % 2 == 0))

  comes_in : (k l w : ℕ) → (in_at out k l ≡ Some w) ↔ IsInto (network_of p) w (link_port p k l)
  comes_in k l w = (
    (λ e. (incoming_is p acc k l w).0 (sym (ap (option_map back) (tells k l)) ∙ e)),
    (λ i. ap (option_map back) (tells k l) ∙ (incoming_is p acc k l w).1 i),
  )

  to_end : (k l w : ℕ) → in_at out k l ≡ Some w → slice_get (ends_of n p.wires) w ≡ Some (record { actor = k; link = l })
  to_end k l w e =
      let i = (comes_in k l w).0 e in
      let x = found_there wire_of p.wires (w / 2) (let r = i.0 in omega arith) in
      let port = plan.port_of x.0 (not (w % 2 == 0)) in
      let number = number_at p k l port.spot port.link (sym (far_of w x.0 x.1) ∙ i.1) in
      ends_far n p.wires w x.0 x.1 ∙ (λ j. Some (record { actor = number.0 j; link = number.1 j }))

  is_its : (k l : ℕ) (port : Port) → end_at n port ≡ record { actor = k; link = l } → is_link n k l port ≡ true
  is_its k l port e =
      let a : actor_of n port.spot ≡ k = ap (λ (z : End). z.actor) e in
      let b : port.link ≡ l = ap (λ (z : End). z.link) e in
      ap (λ z. z && (port.link == l)) (eq-eqb (actor_of n port.spot) k a) ∙ eq-eqb port.link l b

  from_end : (k l w : ℕ) → slice_get (ends_of n p.wires) w ≡ Some (record { actor = k; link = l }) → in_at out k l ≡ Some w
  from_end k l w e =
      let within = slice_get_within (ends_of n p.wires) w (record { actor = k; link = l }) e in
      let count = ends_count n p.wires in
      let many = length-map p.wires wire_of in
      let less : w < ways (network_of p) = omega arith in
      let x = found_there wire_of p.wires (w / 2) (omega arith) in
      let side = not (w % 2 == 0) in
      let port = plan.port_of x.0 side in
      let both : Some (end_at n port) ≡ Some (record { actor = k; link = l }) = sym (ends_far n p.wires w x.0 x.1) ∙ e in
      let same : end_at n port ≡ record { actor = k; link = l } = cc in
      (comes_in k l w).1 (less, far_of w x.0 x.1 ∙ link_is_at p k l port (wired p acc (w / 2) x.0 side x.1) (is_its k l port same))

  pub are_ends : AreEnds out (ends_of n p.wires)
  are_ends k l w = (to_end k l w, from_end k l w)

-- a way comes in by one link
abbrev link_end : ℕ → ℕ → End
link_end n m = record { actor = n; link = m }

pub one_link : (out : List (Option ℕ)) (ends : List End) (k l j i w : ℕ) → AreEnds out ends → in_at out k l ≡ Some w → in_at out j i ≡ Some w → (j ≡ k) × (i ≡ l)
one_link out ends k l j i w are a b =
    let both : Some (link_end j i) ≡ Some (link_end k l) = sym ((are j i w).0 b) ∙ (are k l w).0 a in
    let same : link_end j i ≡ link_end k l = cc in
    (ap (λ (z : End). z.actor) same, ap (λ (z : End). z.link) same)
