-- Numbers of ports.
use Rattle.std.proofs.Common.{◌≡◌, ℕ, ◌+◌, ◌*◌, ◌/◌, ◌%◌, ◌<◌, Bool, true, false, ◌&&◌, List, [], ◌∷◌, length, Some, None, refl, sym, ap, subst, ◌∙◌, nat_lt, nat_le, if◌then◌else◌, arith}
use Rattle.std.proofs.lemmas.Bool.Decides.{nat_tests}
use Rattle.std.specs.List.{list_all}
use Rattle.vc_plan.specs.declared.channel.Channel.{Channel}
use Rattle.vc_plan.specs.declared.plan.Plan.{Plan}
use Rattle.vc_plan.specs.declared.port.Port.{Port}
use Rattle.vc_plan.specs.declared.port.Spot.{Spot}
use Rattle.vc_plan.specs.declared.port.Spot.TheVariants.{Node, Switch}
use Rattle.vc_plan.specs.declared.port.Wire.{Wire}
use Rattle.vc_plan.specs.Accepted.{IsAccepted}
use Rattle.vc_plan.specs.Dependencies.{DependsOn}
use Rattle.vc_plan.specs.Hops.{LimitsFit}
use Rattle.vc_plan.specs.Limits.{wire_ok, port_ok, link_ok, ends_ok, switch_links_ok, wire_there, spot_there, ends_there, home_there, process_names}
use Rattle.vc_plan.specs.Wires.{across, same_port}
use Rattle.vc_plan.proofs.Frontier.{port-same}
use Rattle.vc_plan.proofs.KeptLimits.{limits_of}
use Rattle.vc_plan.proofs.Limits.{Keeps, keeps, both, limits-fit}
use Rattle.vc_cycles.specs.Private.Graph.{port_number, port_number_at, port_at}

-- what a number says of its port
record Numbers (spot : Spot) (link i : ℕ) : Type 0 where
  pub switch : ℕ
  pub at : spot ≡ Switch switch
  pub few : switch < 32
  pub small : link < 32
  pub sum : i ≡ switch * 32 + link

some_is : (x y : ℕ) → Some x ≡ Some y → x ≡ y
some_is x y e = cc

numbers : (spot : Spot) (link i : ℕ) → port_number_at spot link ≡ Some i → Numbers spot link i
numbers (Node n) link i e = absurd cc
numbers (Switch n) link i e = go (nat_lt n 32) (nat_lt link 32) refl refl e
  where
    go : (a b : Bool) → nat_lt n 32 ≡ a → nat_lt link 32 ≡ b → (if a && b then Some (n * 32 + link) else None) ≡ Some i → Numbers (Switch n) link i
    go true true p q r = record { switch = n; at = refl; few = grind (arith, nat_tests); small = grind (arith, nat_tests); sum = sym (some_is (n * 32 + link) i r) }
    go true false p q r = absurd cc
    go false b p q r = absurd cc

pub number_small : (a : Port) (i : ℕ) → port_number a ≡ Some i → i < 1024
number_small a i e =
    let n = numbers a.spot a.link i e in
    let few = n.few in
    let small = n.small in
    let sum = n.sum in
    omega arith

divided : (n link i : ℕ) → link < 32 → i ≡ n * 32 + link → i / 32 ≡ n
divided n link i small sum = omega arith

rest : (n link i : ℕ) → link < 32 → i ≡ n * 32 + link → i % 32 ≡ link
rest n link i small sum = omega arith

pub number_back : (a : Port) (i : ℕ) → port_number a ≡ Some i → port_at i ≡ a
number_back a i e =
    let n = numbers a.spot a.link i e in
    ap (λ (k : ℕ). record { spot = Switch k; link = i % 32 }) (divided n.switch a.link i n.small n.sum)
    ∙ ap (λ (k : ℕ). record { spot = Switch n.switch; link = k }) (rest n.switch a.link i n.small n.sum)
    ∙ ap (λ (s : Spot). record { spot = s; link = a.link }) (sym n.at)

-- a port that is on a wire is one of a switch of the plan, by a link below 32, or a node's
abbrev Fits : Plan → Port → Type 0
Fits p a = (link_ok a.spot a.link ≡ true) × (spot_there p a.spot ≡ true)

of_wire : (p : Plan) (w : Wire) → wire_ok w ≡ true → wire_there p w ≡ true → Fits p w.one × Fits p w.two
of_wire p w ok there =
    let a = both (port_ok w.one) (port_ok w.two) ok in
    let b = both (spot_there p w.one.spot) (spot_there p w.two.spot) there in
    ((a.0, b.0), (a.1, b.1))

on_wires : (p : Plan) (ws : List Wire) (a q : Port) → list_all wire_ok ws ≡ true → list_all (wire_there p) ws ≡ true → across ws a ≡ Some q → Fits p a
on_wires p [] a q ok there e = absurd cc
on_wires p (w ∷ ws) a q ok there e =
    go (on_wires p ws a q (both (wire_ok w) (list_all wire_ok ws) ok).1 (both (wire_there p w) (list_all (wire_there p) ws) there).1) (same_port w.one a) (same_port w.two a) refl refl e
  where
    fits : Fits p w.one × Fits p w.two
    fits = of_wire p w (both (wire_ok w) (list_all wire_ok ws) ok).0 (both (wire_there p w) (list_all (wire_there p) ws) there).0

    go : (across ws a ≡ Some q → Fits p a) → (x y : Bool) → same_port w.one a ≡ x → same_port w.two a ≡ y → (if x then Some w.two else (if y then Some w.one else across ws a)) ≡ Some q → Fits p a
    go rest true y s t r = subst (Fits p) (port-same w.one a s) fits.0
    go rest false true s t r = subst (Fits p) (port-same w.two a t) fits.1
    go rest false false s t r = rest r

pub kept : (p : Plan) → IsAccepted p → Keeps p
kept p acc = keeps p (limits_of p acc)

pub limits : (p : Plan) → IsAccepted p → LimitsFit p
limits p acc = limits-fit p (limits_of p acc)

fits_all : (p : Plan) (acc : IsAccepted p) (a q : Port) → across p.wires a ≡ Some q → Fits p a
fits_all p acc a q e =
    on_wires p p.wires a q (both (list_all wire_ok p.wires) (list_all ends_ok p.vlinks && list_all switch_links_ok p.switches) (kept p acc).links).0
    (both (list_all (wire_there p) p.wires) (list_all (ends_there p) p.vlinks && (list_all (λ (c : Channel). home_there p c.home) p.channels && list_all (process_names p) p.nodes)) (kept p acc).number).0
    e

-- a switch's port on a wire has a number
numbered : (p : Plan) (n link : ℕ) → nat_le (length p.switches) 32 ≡ true → nat_le link 31 ≡ true → nat_lt n (length p.switches) ≡ true → (i : ℕ) × (port_number_at (Switch n) link ≡ Some i)
numbered p n link many ok there =
    let a : nat_lt n 32 ≡ true = grind (arith, nat_tests) in
    let b : nat_lt link 32 ≡ true = grind (arith, nat_tests) in
    (n * 32 + link, ap (λ x. if x && nat_lt link 32 then Some (n * 32 + link) else None) a ∙ ap (λ x. if x then Some (n * 32 + link) else None) b)

pub switch_number : (p : Plan) → IsAccepted p → (a q : Port) (n : ℕ) → across p.wires a ≡ Some q → a.spot ≡ Switch n → (i : ℕ) × (port_number a ≡ Some i)
switch_number p acc a q n e at =
    let f = fits_all p acc a q e in
    let r = numbered p n a.link (kept p acc).switches (subst (λ s. link_ok s a.link ≡ true) at f.0) (subst (λ s. spot_there p s ≡ true) at f.1) in
    (r.0, ap (λ s. port_number_at s a.link) at ∙ r.1)

-- so has one on which another depends, and the port of a number
pub number_after : (p : Plan) → IsAccepted p → (a b : Port) → DependsOn p a b → (j : ℕ) × (port_number b ≡ Some j)
number_after p acc a b x = switch_number p acc b x.goes.to x.goes.hop.switch (ap (λ q. across p.wires q) x.goes.port ∙ x.goes.goes.far) (ap (λ (q : Port). q.spot) x.goes.port)

pub number_at : (i : ℕ) → i < 1024 → port_number (port_at i) ≡ Some i
number_at i lt =
    let a : nat_lt (i / 32) 32 ≡ true = grind (arith, nat_tests) in
    let b : nat_lt (i % 32) 32 ≡ true = grind (arith, nat_tests) in
    ap (λ x. if x && nat_lt (i % 32) 32 then Some (i / 32 * 32 + i % 32) else None) a ∙ ap (λ x. if x then Some (i / 32 * 32 + i % 32) else None) b ∙ ap (λ n. Some n) (omega arith)
