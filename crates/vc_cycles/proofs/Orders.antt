-- The order of lists of ports: fewer ports come first, and of as many the first port that differs decides.
use Rattle.std.proofs.Common.{◌≡◌, ◌⊎◌, inl, inr, ℕ, ◌+◌, ◌/◌, ◌<◌, ◌≤◌, List, [], ◌∷◌, ◌++◌, length, refl, sym, ap, subst, ◌∙◌, arith, length-append}
use Rattle.vc_plan.specs.declared.port.Port.{Port}
use Rattle.vc_plan.specs.declared.port.Spot.{Spot}
use Rattle.vc_plan.specs.declared.port.Spot.TheVariants.{Node, Switch}
use Rattle.vc_plan.specs.Dependencies.{SpotBefore, PortBefore, Before, IsNotAfter}
use Rattle.vc_cycles.specs.Private.Graph.{port_at}

spot_on : (a b c : Spot) → SpotBefore a b → SpotBefore b c → SpotBefore a c
spot_on (Node m) (Node n) (Node o) x y = omega arith
spot_on (Node m) (Node n) (Switch o) x y = tt
spot_on (Node m) (Switch n) (Node o) x y = absurd y
spot_on (Node m) (Switch n) (Switch o) x y = tt
spot_on (Switch m) (Node n) c x y = absurd x
spot_on (Switch m) (Switch n) (Node o) x y = absurd y
spot_on (Switch m) (Switch n) (Switch o) x y = omega arith

port_on : (a b c : Port) → PortBefore a b → PortBefore b c → PortBefore a c
port_on a b c (inl x) (inl y) = inl (spot_on a.spot b.spot c.spot x y)
port_on a b c (inl x) (inr y) = inl (subst (λ s. SpotBefore a.spot s) y.0 x)
port_on a b c (inr x) (inl y) = inl (subst (λ s. SpotBefore s c.spot) (sym x.0) y)
port_on a b c (inr x) (inr y) = inr (x.0 ∙ y.0, let p = x.1 in let q = y.1 in omega (arith, p, q))

before_on : (as' bs cs : List Port) → Before as' bs → Before bs cs → Before as' cs
before_on [] bs cs x y = absurd x
before_on (a ∷ as') [] cs x y = absurd x
before_on (a ∷ as') (b ∷ bs) [] x y = absurd y
before_on (a ∷ as') (b ∷ bs) (c ∷ cs) (inl x) (inl y) = inl (port_on a b c x y)
before_on (a ∷ as') (b ∷ bs) (c ∷ cs) (inl x) (inr y) = inl (subst (λ p. PortBefore a p) y.0 x)
before_on (a ∷ as') (b ∷ bs) (c ∷ cs) (inr x) (inl y) = inl (subst (λ p. PortBefore p c) (sym x.0) y)
before_on (a ∷ as') (b ∷ bs) (c ∷ cs) (inr x) (inr y) = inr (x.0 ∙ y.0, before_on as' bs cs x.1 y.1)

either_on : (as' bs cs : List Port) → Before as' bs ⊎ (as' ≡ bs) → Before bs cs ⊎ (bs ≡ cs) → Before as' cs ⊎ (as' ≡ cs)
either_on as' bs cs (inl x) (inl y) = inl (before_on as' bs cs x y)
either_on as' bs cs (inl x) (inr e) = inl (subst (λ l. Before as' l) e x)
either_on as' bs cs (inr e) (inl y) = inl (subst (λ l. Before l cs) (sym e) y)
either_on as' bs cs (inr e) (inr f) = inr (e ∙ f)

pub not_after_on : (as' bs cs : List Port) → IsNotAfter as' bs → IsNotAfter bs cs → IsNotAfter as' cs
not_after_on as' bs cs (inl x) (inl y) = inl (omega (arith, x, y))
not_after_on as' bs cs (inl x) (inr y) = inl (let e = y.0 in omega (arith, x, e))
not_after_on as' bs cs (inr x) (inl y) = inl (let e = x.0 in omega (arith, y, e))
not_after_on as' bs cs (inr x) (inr y) = inr (x.0 ∙ y.0, either_on as' bs cs x.1 y.1)

pub not_after_itself : (as' : List Port) → IsNotAfter as' as'
not_after_itself as' = inr (refl, inr refl)

-- fewer ports, or as many and before the others
abbrev pub IsBefore : List Port → List Port → Type 0
IsBefore as' bs = (length as' < length bs) ⊎ ((length as' ≡ length bs) × Before as' bs)

pub not_after_before : (as' bs : List Port) → IsBefore as' bs → IsNotAfter as' bs
not_after_before as' bs (inl x) = inl x
not_after_before as' bs (inr x) = inr (x.0, inl x.1)

-- with one port more at the end of each
long_more : (xs : List Port) (x : Port) → length (xs ++ x ∷ []) ≡ length xs + 1
long_more xs x = length-append xs (x ∷ []) ∙ omega arith

before_more : (as' bs : List Port) (a b : Port) → Before as' bs → Before (as' ++ a ∷ []) (bs ++ b ∷ [])
before_more [] bs a b x = absurd x
before_more (p ∷ as') [] a b x = absurd x
before_more (p ∷ as') (q ∷ bs) a b (inl x) = inl x
before_more (p ∷ as') (q ∷ bs) a b (inr x) = inr (x.0, before_more as' bs a b x.1)

before_last : (as' : List Port) (a b : Port) → PortBefore a b → Before (as' ++ a ∷ []) (as' ++ b ∷ [])
before_last [] a b x = inl x
before_last (p ∷ as') a b x = inr (refl, before_last as' a b x)

pub is_before_more : (as' bs : List Port) (a b : Port) → IsBefore as' bs → IsBefore (as' ++ a ∷ []) (bs ++ b ∷ [])
is_before_more as' bs a b (inl x) = let p = long_more as' a in let q = long_more bs b in inl (omega (arith, x, p, q))
is_before_more as' bs a b (inr x) = let e = x.0 in let p = long_more as' a in let q = long_more bs b in inr (omega (arith, e, p, q), before_more as' bs a b x.1)

pub is_before_last : (as' : List Port) (a b : Port) → PortBefore a b → IsBefore (as' ++ a ∷ []) (as' ++ b ∷ [])
is_before_last as' a b x = let p = long_more as' a in let q = long_more as' b in inr (omega (arith, p, q), before_last as' a b x)

pub is_before_first : (bs : List Port) (b : Port) → IsBefore [] (bs ++ b ∷ [])
is_before_first bs b = let q = long_more bs b in inl (omega (arith, q))

pub not_after_more : (as' bs : List Port) (a : Port) → IsNotAfter as' bs → IsNotAfter (as' ++ a ∷ []) (bs ++ a ∷ [])
not_after_more as' bs a (inl x) = let p = long_more as' a in let q = long_more bs a in inl (omega (arith, x, p, q))
not_after_more as' bs a (inr (e, inl x)) = not_after_before (as' ++ a ∷ []) (bs ++ a ∷ []) (is_before_more as' bs a a (inr (e, x)))
not_after_more as' bs a (inr (e, inr same)) = subst (λ l. IsNotAfter (as' ++ a ∷ []) (l ++ a ∷ [])) same (not_after_itself (as' ++ a ∷ []))

pub not_after_longer : (as' bs : List Port) (b : Port) → IsNotAfter as' bs → IsNotAfter as' (bs ++ b ∷ [])
not_after_longer as' bs b (inl x) = let q = long_more bs b in inl (omega (arith, x, q))
not_after_longer as' bs b (inr x) = let e = x.0 in let q = long_more bs b in inl (omega (arith, e, q))

-- behind one port
pub not_after_behind : (p : Port) (as' bs : List Port) → IsNotAfter as' bs → IsNotAfter (p ∷ as') (p ∷ bs)
not_after_behind p as' bs (inl x) = inl (omega (arith, x))
not_after_behind p as' bs (inr (e, inl x)) = inr (omega (arith, e), inl (inr (refl, x)))
not_after_behind p as' bs (inr (e, inr same)) = inr (omega (arith, e), inr (ap (λ l. p ∷ l) same))

-- the order of numbers is that of their ports
by_parts : (i j : ℕ) → i < j → (i / 32 < j / 32) ⊎ (j / 32 ≤ i / 32) → PortBefore (port_at i) (port_at j)
by_parts i j less (inl x) = inl x
by_parts i j less (inr y) = let e : i / 32 ≡ j / 32 = omega (arith, less, y) in inr (ap (λ (k : ℕ). Switch k) e, omega (arith, less, e))

pub number_before : (i j : ℕ) → i < j → PortBefore (port_at i) (port_at j)
number_before i j less = by_parts i j less (let c : (i / 32 < j / 32) ⊎ (j / 32 ≤ i / 32) = grind arith in c)
