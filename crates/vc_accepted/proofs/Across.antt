-- A way leaves by a port and comes in by the port across from it.
use Rattle.std.proofs.Common.{◌≡◌, ℕ, zero, suc, ◌+◌, ◌*◌, ◌/◌, ◌%◌, ◌<◌, Bool, true, false, not, ◌==◌, List, [], ◌∷◌, length, map, slice_get, Some, refl, sym, ap, subst, ◌∙◌, arith, if◌then◌else◌, eq-eqb}
use Rattle.std.proofs.lemmas.Option.{same_Some}
use Rattle.vc_plan.specs.declared.plan.Plan.{Plan}
use Rattle.vc_plan.specs.declared.port.Port.{Port}
use Rattle.vc_plan.specs.declared.port.Wire.{Wire}
use Rattle.vc_plan.specs.Accepted.{port_of}
use Rattle.vc_plan.specs.Wires.{same_port, across}
use Rattle.vc_machine.specs.Paths.{AtNode}
use Rattle.vc_network.specs.Plan.{ways, near, far, wire, IsOutOf}
use Rattle.vc_network.specs.Plan as network
use Rattle.vc_accepted.specs.NetworkOf.{network_of, wire_of}
use Rattle.vc_accepted.specs.NetworkOf as to
use Rattle.vc_accepted.proofs.Elements.{made, made_or, there, within}
use Rattle.vc_accepted.proofs.Ports.{port_back, of_then_back, back_then_of, port_is, is_port, side_of}

-- a wire of the list goes from port a, its side `from`, to port b
pub record Joins (ws : List Wire) (a b : Port) : Type 0 where
  pub at : ℕ
  pub wire : Wire
  pub from : Bool
  pub is : slice_get ws at ≡ Some wire
  pub near : port_of wire from ≡ a
  pub far : port_of wire (not from) ≡ b

further : (w : Wire) (ws : List Wire) (a b : Port) → Joins ws a b → Joins (w ∷ ws) a b
further w ws a b j = record { at = suc j.at; wire = j.wire; from = j.from; is = j.is; near = j.near; far = j.far }

pub across_joins : (ws : List Wire) (a b : Port) → across ws a ≡ Some b → Joins ws a b
across_joins [] a b e = absurd (cc)
across_joins (w ∷ ws) a b e = by_test (same_port w.one a) (same_port w.two a) refl refl e (across_joins ws a b)
  where
    by_test : (x y : Bool) → same_port w.one a ≡ x → same_port w.two a ≡ y →
        (if x then Some w.two else (if y then Some w.one else across ws a)) ≡ Some b → (across ws a ≡ Some b → Joins ws a b) → Joins (w ∷ ws) a b
    by_test true y p q e rest = record { at = 0; wire = w; from = true; is = refl; near = port_is w.one a p; far = same_Some w.two b e }
    by_test false true p q e rest = record { at = 0; wire = w; from = false; is = refl; near = port_is w.two a q; far = same_Some w.one b e }
    by_test false false p q e rest = further w ws a b (rest e)

-- a port of a wire has a port across from it
pub has_across : (ws : List Wire) (i : ℕ) (w : Wire) (from : Bool) → slice_get ws i ≡ Some w → (b : Port) × (across ws (port_of w from) ≡ Some b)
has_across [] i w from e = absurd (cc)
has_across (v ∷ vs) zero w true e =
    let is : v ≡ w = cc in
    (v.two, ap (λ x. if x then Some v.two else (if same_port v.two w.one then Some v.one else across vs w.one)) (subst (λ (z : Wire). same_port v.one z.one ≡ true) is (is_port v.one)))
has_across (v ∷ vs) zero w false e = by_test (same_port v.one w.two) refl
  where
    is : v ≡ w
    is = cc

    by_test : (x : Bool) → same_port v.one w.two ≡ x → (b : Port) × (across (v ∷ vs) w.two ≡ Some b)
    by_test true p = (v.two, ap (λ x. if x then Some v.two else (if same_port v.two w.two then Some v.one else across vs w.two)) p)
    by_test false p = (
      v.one,
      ap (λ x. if x then Some v.two else (if same_port v.two w.two then Some v.one else across vs w.two)) p
          ∙ ap (λ x. if x then Some v.one else across vs w.two) (subst (λ (z : Wire). same_port v.two z.two ≡ true) is (is_port v.two)),
    )
has_across (v ∷ vs) (suc i) w from e = by_test (same_port v.one (port_of w from)) (same_port v.two (port_of w from)) refl refl (has_across vs i w from e)
  where
    by_test : (x y : Bool) → same_port v.one (port_of w from) ≡ x → same_port v.two (port_of w from) ≡ y →
        (b : Port) × (across vs (port_of w from) ≡ Some b) → (b : Port) × (across (v ∷ vs) (port_of w from) ≡ Some b)
    by_test x y p q (b, r) = (found x y b, ap (λ z. if z then Some v.two else (if same_port v.two (port_of w from) then Some v.one else across vs (port_of w from))) p ∙ next x y b q r)
      where
        found : Bool → Bool → Port → Port
        found true y b = v.two
        found false true b = v.one
        found false false b = b

        next : (x y : Bool) (b : Port) → same_port v.two (port_of w from) ≡ y → across vs (port_of w from) ≡ Some b →
            (if x then Some v.two else (if same_port v.two (port_of w from) then Some v.one else across vs (port_of w from))) ≡ Some (found x y b)
        next true y b q r = refl
        next false true b q r = ap (λ z. if z then Some v.one else across vs (port_of w from)) q
        next false false b q r = ap (λ z. if z then Some v.one else across vs (port_of w from)) q ∙ r

abbrev pub OnePort : List Wire → Type 0
OnePort ws = (i j : ℕ) (v w : Wire) (a b : Bool) → slice_get ws i ≡ Some v → slice_get ws j ≡ Some w → port_of v a ≡ port_of w b → (i ≡ j) × (a ≡ b)

-- where no port is on two wires, the wire at a port tells what is across from it
pub joins_across : (ws : List Wire) → OnePort ws → (a b : Port) → Joins ws a b → across ws a ≡ Some b
joins_across ws one a b j = settle (has_across ws j.at j.wire j.from j.is)
  where
    settle : (c : Port) × (across ws (port_of j.wire j.from) ≡ Some c) → across ws a ≡ Some b
    settle (c, e) =
        let e' : across ws a ≡ Some c = subst (λ z. across ws z ≡ Some c) j.near e in
        let k = across_joins ws a c e' in
        let s = one k.at j.at k.wire j.wire k.from j.from k.is j.is (k.near ∙ sym j.near) in
        let w : Some k.wire ≡ Some j.wire = sym k.is ∙ ap (slice_get ws) s.0 ∙ j.is in
        let v = same_Some k.wire j.wire w in
        let t : c ≡ b = sym k.far ∙ ap (λ z. port_of z (not k.from)) v ∙ ap (λ z. port_of j.wire (not z)) s.1 ∙ j.far in
        e' ∙ ap Some t

-- the number of a way of wire i, from its port one or from its port two
abbrev pub way_of : ℕ → Bool → ℕ
way_of i true = 2 * i
way_of i false = 2 * i + 1

halved : (i : ℕ) (b : Bool) → (way_of i b / 2 ≡ i) × ((way_of i b % 2 == 0) ≡ b)
halved i true = (omega arith, (let z : (2 * i) % 2 ≡ 0 = omega arith in eq-eqb ((2 * i) % 2) 0 z))
halved i false = (omega arith, (let z : (2 * i + 1) % 2 ≡ 1 = omega arith in ap (λ t. t == 0) z))

pub wire_is : (p : Plan) (i : ℕ) (w : Wire) → slice_get p.wires i ≡ Some w → wire (network_of p) i ≡ wire_of w
wire_is p i w e = made wire_of p.wires i (record { one = AtNode 0 0; two = AtNode 0 0 }) ∙ ap (made_or (record { one = AtNode 0 0; two = AtNode 0 0 }) wire_of) e

-- way w goes from port a of the plan to port b
pub record Goes (p : Plan) (w : ℕ) (a b : Port) : Type 0 where
  pub real : w < ways (network_of p)
  pub leaves : near (network_of p) w ≡ to.port_of a
  pub comes : far (network_of p) w ≡ to.port_of b

pub joined_way : (p : Plan) (a b : Port) (j : Joins p.wires a b) → Goes p (way_of j.at j.from) a b
joined_way p a b j =
    let h = halved j.at j.from in
    let is = wire_is p j.at j.wire j.is in
    let less = within wire_of p.wires j.at j.wire j.is in
    let N = network_of p in
    record {
      real = below j.from less;
      leaves = ap (λ z. network.port_of (wire N z) (way_of j.at j.from % 2 == 0)) h.0 ∙ ap (λ z. network.port_of (wire N j.at) z) h.1
          ∙ ap (λ z. network.port_of z j.from) is ∙ side_of j.wire j.from ∙ ap to.port_of j.near;
      comes = ap (λ z. network.port_of (wire N z) (not (way_of j.at j.from % 2 == 0))) h.0 ∙ ap (λ z. network.port_of (wire N j.at) (not z)) h.1
          ∙ ap (λ z. network.port_of z (not j.from)) is ∙ side_of j.wire (not j.from) ∙ ap to.port_of j.far;
    }
  where
    below : (b : Bool) → j.at < length (map wire_of p.wires) → way_of j.at b < 2 * length (map wire_of p.wires)
    below true h = omega arith
    below false h = omega arith

pub way_joins : (p : Plan) (a b : Port) (w : ℕ) → Goes p w a b → Joins p.wires a b
way_joins p a b w g = settle (there wire_of p.wires (w / 2) (let r = g.real in omega arith))
  where
    settle : (x : Wire) × (slice_get p.wires (w / 2) ≡ Some x) → Joins p.wires a b
    settle (x, e) =
        let is = wire_is p (w / 2) x e in
        let side = w % 2 == 0 in
        record {
          at = w / 2;
          wire = x;
          from = side;
          is = e;
          near = sym (of_then_back (port_of x side)) ∙ ap port_back (sym (side_of x side) ∙ ap (λ z. network.port_of z side) (sym is) ∙ g.leaves) ∙ of_then_back a;
          far = sym (of_then_back (port_of x (not side))) ∙ ap port_back (sym (side_of x (not side)) ∙ ap (λ z. network.port_of z (not side)) (sym is) ∙ g.comes) ∙ of_then_back b;
        }

-- a port with a port across has a way to it
pub way_across : (p : Plan) (a b : Port) → across p.wires a ≡ Some b → (w : ℕ) × Goes p w a b
way_across p a b e = let j = across_joins p.wires a b e in (way_of j.at j.from, joined_way p a b j)

-- the port across from that by which a way leaves is the one by which it comes in
pub across_way : (p : Plan) → OnePort p.wires → (w : ℕ) (a b : Port) → Goes p w a b → across p.wires a ≡ Some b
across_way p one w a b g = joins_across p.wires one a b (way_joins p a b w g)

-- a way that leaves by a port goes to some port of the plan
pub leads : (p : Plan) (w : ℕ) (a : Port) → IsOutOf (network_of p) w (to.port_of a) → Goes p w a (port_back (far (network_of p) w))
leads p w a o = record { real = o.0; leaves = o.1; comes = sym (back_then_of (far (network_of p) w)) }
