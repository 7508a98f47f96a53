-- The order of paths with equally many hops.
use Rattle.std.proofs.Common.{◌≡◌, ℕ, List, [], ◌∷◌, ◌++◌, ◌⊎◌, Option, Some, None, refl, ap, ◌∙◌, inl, inr, arith}
use Rattle.vc_plan.specs.declared.path_fault.Hop.{Hop}
use Rattle.vc_plan.specs.Faults.{ValueBefore, ChosenBefore, Before}

pub ValueBefore-trans : (a b c : Option ℕ) → ValueBefore a b → ValueBefore b c → ValueBefore a c
ValueBefore-trans None b c p q = absurd p
ValueBefore-trans (Some a) None c p q = absurd p
ValueBefore-trans (Some a) (Some b) None p q = absurd q
ValueBefore-trans (Some a) (Some b) (Some c) p q = omega arith

pub ChosenBefore-trans : (a b c : Hop) → ChosenBefore a b → ChosenBefore b c → ChosenBefore a c
ChosenBefore-trans a b c (inl p) (inl q) = inl (ValueBefore-trans a.value b.value c.value p q)
ChosenBefore-trans a b c (inl p) (inr q) = inl (rw (← q.0) p)
ChosenBefore-trans a b c (inr p) (inl q) = inl (rw p.0 q)
ChosenBefore-trans a b c (inr p) (inr q) = inr (p.0 ∙ q.0, omega (arith, p.1, q.1))

pub Before-trans : (xs ys zs : List Hop) → Before xs ys → Before ys zs → Before xs zs
Before-trans [] ys zs p q = absurd p
Before-trans (x ∷ xs) [] zs p q = absurd p
Before-trans (x ∷ xs) (y ∷ ys) [] p q = absurd q
Before-trans (x ∷ xs) (y ∷ ys) (z ∷ zs) (inl p) (inl q) = inl (ChosenBefore-trans x y z p q)
Before-trans (x ∷ xs) (y ∷ ys) (z ∷ zs) (inl p) (inr q) = inl (rw (← q.0) p)
Before-trans (x ∷ xs) (y ∷ ys) (z ∷ zs) (inr p) (inl q) = inl (rw p.0 q)
Before-trans (x ∷ xs) (y ∷ ys) (z ∷ zs) (inr p) (inr q) = inr (p.0 ∙ q.0, Before-trans xs ys zs p.1 q.1)

pub Before-append : (xs ys : List Hop) (c d : List Hop) → Before xs ys → Before (xs ++ c) (ys ++ d)
Before-append [] ys c d p = absurd p
Before-append (x ∷ xs) [] c d p = absurd p
Before-append (x ∷ xs) (y ∷ ys) c d (inl p) = inl p
Before-append (x ∷ xs) (y ∷ ys) c d (inr p) = inr (p.0, Before-append xs ys c d p.1)

pub Before-last : (xs : List Hop) (c d : Hop) → ChosenBefore c d → Before (xs ++ c ∷ []) (xs ++ d ∷ [])
Before-last [] c d p = inl p
Before-last (x ∷ xs) c d p = inr (refl, Before-last xs c d p)

-- the same, or before
abbrev pub NotAfter : List Hop → List Hop → Type 0
NotAfter xs ys = (xs ≡ ys) ⊎ Before xs ys

pub NotAfter-trans : (xs ys zs : List Hop) → NotAfter xs ys → NotAfter ys zs → NotAfter xs zs
NotAfter-trans xs ys zs (inl p) (inl q) = inl (p ∙ q)
NotAfter-trans xs ys zs (inl p) (inr q) = inr (rw p q)
NotAfter-trans xs ys zs (inr p) (inl q) = inr (rw (← q) p)
NotAfter-trans xs ys zs (inr p) (inr q) = inr (Before-trans xs ys zs p q)

pub NotAfter-append : (xs ys : List Hop) (c : List Hop) → NotAfter xs ys → NotAfter (xs ++ c) (ys ++ c)
NotAfter-append xs ys c (inl p) = inl (ap (λ zs. zs ++ c) p)
NotAfter-append xs ys c (inr p) = inr (Before-append xs ys c c p)
