-- A way that leaves by a port is found by the port.
use Rattle.std.proofs.Common.{◌≡◌, ℕ, zero, suc, ◌+◌, ◌*◌, ◌/◌, ◌%◌, ◌<◌, ◌⊎◌, inl, inr, Bool, true, false, ◌&&◌, List, [], ◌∷◌, length, get_or, refl, sym, ap, ◌∙◌, arith, if◌then◌else◌, ◌==◌, eq-eqb, eqb-true, ne_eqb, not}
use Rattle.std.proofs.lemmas.Bool.{cases_eq, and_parts}
use Rattle.vc_machine.proofs.Links.{not_same}
use Rattle.vc_machine.specs.Paths.{Port, AtNode, AtSwitch}
use Rattle.vc_network.specs.Plan.{Plan, Wire, ways, near, wire, port_of, port_eq, way_among, way_from, far, IsOutOf, IsWired, IsAccepted}

same_is : (p q : Port) → port_eq p q ≡ true → p ≡ q
same_is (AtNode n i) (AtNode m j) e = let r = and_parts (n == m) (i == j) e in (λ k. AtNode (eqb-true n m r.0 k) (eqb-true i j r.1 k))
same_is (AtSwitch n i) (AtSwitch m j) e = let r = and_parts (n == m) (i == j) e in (λ k. AtSwitch (eqb-true n m r.0 k) (eqb-true i j r.1 k))
same_is (AtNode n i) (AtSwitch m j) e = absurd (cc)
same_is (AtSwitch n i) (AtNode m j) e = absurd (cc)

is_same : (p : Port) → port_eq p p ≡ true
is_same (AtNode n i) = (λ k. eq-eqb n n refl k && (i == i)) ∙ eq-eqb i i refl
is_same (AtSwitch n i) = (λ k. eq-eqb n n refl k && (i == i)) ∙ eq-eqb i i refl

-- the wire and the side where the way is found
abbrev Found : ℕ → List Wire → Port → Wire → ℕ → Type 0
Found i ws port d r = (k : ℕ) × (k < length ws) × (((r ≡ 2 * (i + k)) × ((get_or ws k d).one ≡ port)) ⊎ ((r ≡ 2 * (i + k) + 1) × ((get_or ws k d).two ≡ port)))

found : (i : ℕ) (ws : List Wire) (j : ℕ) (port : Port) (d : Wire) → j < length ws → ((get_or ws j d).one ≡ port) ⊎ ((get_or ws j d).two ≡ port) → Found i ws port d (way_among i ws port)
found i [] j port d h e = absurd (omega arith)
found i (w ∷ ws) j port d h e = by_test (λ j' less z. found (suc i) ws j' port d less z) (port_eq w.one port) (port_eq w.two port) refl refl
  where
    by_test : ((j' : ℕ) → j' < length ws → ((get_or ws j' d).one ≡ port) ⊎ ((get_or ws j' d).two ≡ port) → Found (suc i) ws port d (way_among (suc i) ws port)) → (a b : Bool) → port_eq w.one port ≡ a → port_eq w.two port ≡ b → Found i (w ∷ ws) port d (if a then 2 * i else (if b then 2 * i + 1 else way_among (suc i) ws port))
    by_test go true b p q = (0, omega arith, inl (omega arith, same_is w.one port p))
    by_test go false true p q = (0, omega arith, inr (omega arith, same_is w.two port q))
    by_test go false false p q = at j h e
      where
        no_one : w.one ≡ port → ⊥
        no_one z = let x : true ≡ false = sym (is_same port) ∙ ap (λ y. port_eq y port) (sym z) ∙ p in absurd (cc)

        no_two : w.two ≡ port → ⊥
        no_two z = let x : true ≡ false = sym (is_same port) ∙ ap (λ y. port_eq y port) (sym z) ∙ q in absurd (cc)

        further : Found (suc i) ws port d (way_among (suc i) ws port) → Found i (w ∷ ws) port d (way_among (suc i) ws port)
        further (k, less, inl r) = (suc k, omega arith, inl ((let z = r.0 in omega arith), r.1))
        further (k, less, inr r) = (suc k, omega arith, inr ((let z = r.0 in omega arith), r.1))

        at : (j : ℕ) → j < suc (length ws) → ((get_or (w ∷ ws) j d).one ≡ port) ⊎ ((get_or (w ∷ ws) j d).two ≡ port) → Found i (w ∷ ws) port d (way_among (suc i) ws port)
        at zero h (inl z) = absurd (no_one z)
        at zero h (inr z) = absurd (no_two z)
        at (suc j) h z = further (go j (omega arith) z)

-- the way found leaves by the port
abbrev pub IsFound : Plan → Port → Type 0
IsFound plan port = IsOutOf plan (way_from plan port) port

pub found_by : (plan : Plan) (port : Port) → IsWired plan port → IsFound plan port
found_by plan port (v, h) = settle (found 0 plan.wires (v / 2) port (record { one = AtNode 0 0; two = AtNode 0 0 }) (let x = h.0 in omega arith) (by_side (v % 2 == 0) h.1))
  where
    by_side : (b : Bool) → port_of (wire plan (v / 2)) b ≡ port → ((wire plan (v / 2)).one ≡ port) ⊎ ((wire plan (v / 2)).two ≡ port)
    by_side true e = inl e
    by_side false e = inr e

    even : (k : ℕ) → near plan (2 * (0 + k)) ≡ (wire plan k).one
    even k =
        let a : (2 * (0 + k)) % 2 ≡ 0 = omega arith in
        let b : (2 * (0 + k)) / 2 ≡ k = omega arith in
        ap (λ t. port_of (wire plan (2 * (0 + k) / 2)) t) (eq-eqb ((2 * (0 + k)) % 2) 0 a) ∙ ap (λ t. (wire plan t).one) b

    odd : (k : ℕ) → near plan (2 * (0 + k) + 1) ≡ (wire plan k).two
    odd k =
        let a : (2 * (0 + k) + 1) % 2 ≡ 1 = omega arith in
        let b : (2 * (0 + k) + 1) / 2 ≡ k = omega arith in
        ap (λ t. port_of (wire plan ((2 * (0 + k) + 1) / 2)) (t == 0)) a ∙ ap (λ t. (wire plan t).two) b

    settle : Found 0 plan.wires port (record { one = AtNode 0 0; two = AtNode 0 0 }) (way_from plan port) → IsFound plan port
    settle (k, less, inl r) = ((let z = r.0 in omega arith), ap (near plan) r.0 ∙ even k ∙ r.1)
    settle (k, less, inr r) = ((let z = r.0 in omega arith), ap (near plan) r.0 ∙ odd k ∙ r.1)

-- the same half of the same wire is the same way
same_way : (v w : ℕ) → v / 2 ≡ w / 2 → (v % 2 == 0) ≡ (w % 2 == 0) → v ≡ w
same_way v w h e =
    elim (cases_eq (v % 2) 0) [
      | inl p ↦ elim (cases_eq (w % 2) 0) [
        | inl q ↦ omega arith
        | inr q ↦ absurd (let x : true ≡ false = sym (eq-eqb (v % 2) 0 p) ∙ e ∙ ne_eqb (w % 2) 0 q in cc)
      ]
      | inr p ↦ elim (cases_eq (w % 2) 0) [
        | inl q ↦ absurd (let x : false ≡ true = sym (ne_eqb (v % 2) 0 p) ∙ e ∙ eq-eqb (w % 2) 0 q in cc)
        | inr q ↦ omega arith
      ]
    ]

pub one_near : (plan : Plan) → IsAccepted plan → (v w : ℕ) → v < ways plan → w < ways plan → near plan v ≡ near plan w → v ≡ w
one_near plan acc v w a b e = let r = acc.one_port (v / 2) (w / 2) (v % 2 == 0) (w % 2 == 0) (omega arith) (omega arith) e in same_way v w r.0 r.1

pub one_far : (plan : Plan) → IsAccepted plan → (v w : ℕ) → v < ways plan → w < ways plan → far plan v ≡ far plan w → v ≡ w
one_far plan acc v w a b e =
    let r = acc.one_port (v / 2) (w / 2) (not (v % 2 == 0)) (not (w % 2 == 0)) (omega arith) (omega arith) e in
    same_way v w r.0 (not_same (v % 2 == 0) (w % 2 == 0) r.1)
