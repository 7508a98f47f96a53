-- Where ports have ranks there is no cycle, and one cycle is the least.
use Rattle.std.proofs.Common.{◌≡◌, ◌<◌, ◌⊎◌, inl, inr, List, [], ◌∷◌, sym, subst, arith}
use Rattle.vc_plan.specs.declared.plan.Plan.{Plan}
use Rattle.vc_plan.specs.declared.port.Port.{Port}
use Rattle.vc_plan.specs.declared.port.Spot.{Spot}
use Rattle.vc_plan.specs.declared.port.Spot.TheVariants.{Node, Switch}
use Rattle.vc_plan.specs.Dependencies.{HasRanks, Chain, IsCycle, SpotBefore, PortBefore, Before, IsNotAfter, CyclesAreRight}

-- the last port of a chain has a greater rank than the first
rank_rises : (net : Plan) (r : HasRanks net) (a : Port) (cs : List Port) (b : Port) → Chain net a cs b → r.rank a < r.rank b
rank_rises net r a [] b d = r.rises a b d
rank_rises net r a (c ∷ cs) b h =
    let x = r.rises a c h.0 in
    let y = rank_rises net r c cs b h.1 in
    omega arith

no_cycle : (net : Plan) (ports : List Port) → HasRanks net → IsCycle net ports → ⊥
no_cycle net [] r h = h
no_cycle net (a ∷ as') r h = let x = rank_rises net r a as' a h in omega arith

-- the order goes one way

spot_once : (a b : Spot) → SpotBefore a b → SpotBefore b a → ⊥
spot_once (Node m) (Node n) x y = omega arith
spot_once (Node m) (Switch n) x y = y
spot_once (Switch m) (Node n) x y = x
spot_once (Switch m) (Switch n) x y = omega arith

spot_itself : (a b : Spot) → a ≡ b → SpotBefore a b → ⊥
spot_itself a b e x = spot_once b b (subst (λ z. SpotBefore z b) e x) (subst (λ z. SpotBefore z b) e x)

port_once : (a b : Port) → PortBefore a b → PortBefore b a → ⊥
port_once a b (inl x) (inl y) = spot_once a.spot b.spot x y
port_once a b (inl x) (inr y) = spot_itself a.spot b.spot (sym y.0) x
port_once a b (inr x) (inl y) = spot_itself b.spot a.spot (sym x.0) y
port_once a b (inr x) (inr y) = let p = x.1 in let q = y.1 in omega arith

port_itself : (a b : Port) → a ≡ b → PortBefore a b → ⊥
port_itself a b e x = port_once b b (subst (λ z. PortBefore z b) e x) (subst (λ z. PortBefore z b) e x)

list_once : (as' bs : List Port) → Before as' bs → Before bs as' → ⊥
list_once [] bs x y = x
list_once (a ∷ as') [] x y = x
list_once (a ∷ as') (b ∷ bs) (inl x) (inl y) = port_once a b x y
list_once (a ∷ as') (b ∷ bs) (inl x) (inr y) = port_itself a b (sym y.0) x
list_once (a ∷ as') (b ∷ bs) (inr x) (inl y) = port_itself b a (sym x.0) y
list_once (a ∷ as') (b ∷ bs) (inr x) (inr y) = list_once as' bs x.1 y.1

-- neither is after the other
same_list : (as' bs : List Port) → IsNotAfter as' bs → IsNotAfter bs as' → as' ≡ bs
same_list as' bs (inl x) (inl y) = absurd (omega arith)
same_list as' bs (inl x) (inr y) = absurd (let e = y.0 in omega arith)
same_list as' bs (inr x) (inl y) = absurd (let e = x.0 in omega arith)
same_list as' bs (inr x) (inr y) = by_both x.1 y.1
  where
    by_both : Before as' bs ⊎ (as' ≡ bs) → Before bs as' ⊎ (bs ≡ as') → as' ≡ bs
    by_both (inr e) g = e
    by_both (inl f) (inr e) = sym e
    by_both (inl f) (inl g) = absurd (list_once as' bs f g)

pub cycles_right : CyclesAreRight
cycles_right = record {
  refuted = λ p ports r h. no_cycle p ports r h;
  one = λ p ports others x y. same_list ports others (x.least others y.cycle) (y.least ports x.cycle);
}
