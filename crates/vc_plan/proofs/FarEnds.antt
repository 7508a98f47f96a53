-- Lists of far ends as they grow.
use Rattle.std.proofs.Common.{◌≡◌, ◌⊎◌, ℕ, zero, suc, List, [], ◌∷◌, ◌++◌, length, Option, Some, refl, sym, ap, ◌∙◌, subst, inl, inr}
use Rattle.std.specs.Global.{Vec}
use Rattle.std.specs.Prelude.{slice_get}
use Rattle.vc_plan.specs.declared.plan.Plan.{Plan}
use Rattle.vc_plan.specs.declared.port.Port.{Port}
use Rattle.vc_plan.specs.FarEnds.{AreFarEnds, AreFarEndsOf, across_from}

-- an element of a list that has one more
pub got-more : {A : Type 0} (xs : List A) (y : A) (k : ℕ) (z : A) → slice_get (xs ++ y ∷ []) k ≡ Some z → (slice_get xs k ≡ Some z) ⊎ ((k ≡ length xs) × (y ≡ z))
got-more [] y zero z e = inr (refl, cc)
got-more [] y (suc k) z e = absurd cc
got-more (x ∷ xs) y zero z e = inl e
got-more {A} (x ∷ xs) y (suc k) z e = go (got-more xs y k z e)
  where
    go : (slice_get xs k ≡ Some z) ⊎ ((k ≡ length xs) × (y ≡ z)) → (slice_get (x ∷ xs) (suc k) ≡ Some z) ⊎ ((suc k ≡ length (x ∷ xs)) × (y ≡ z))
    go (inl p) = inl p
    go (inr p) = inr (ap suc p.0, p.1)

pub ends-more : (net : Plan) (n : ℕ) (ends after : List (Option Port)) (far : Option Port) → AreFarEndsOf net n ends → after ≡ ends ++ far ∷ [] → far ≡ across_from net n (length ends) →
    AreFarEndsOf net n after
ends-more net n ends after far h is new link z e = go (got-more ends far link z (subst (λ xs. slice_get xs link ≡ Some z) is e))
  where
    go : (slice_get ends link ≡ Some z) ⊎ ((link ≡ length ends) × (far ≡ z)) → z ≡ across_from net n link
    go (inl p) = h link z p
    go (inr p) = sym p.1 ∙ new ∙ ap (across_from net n) (sym p.0)

pub lists-more : (net : Plan) (lists after : List (Vec (Option Port))) (ends : Vec (Option Port)) → AreFarEnds net lists → after ≡ lists ++ ends ∷ [] → AreFarEndsOf net (length lists) ends.items →
    AreFarEnds net after
lists-more net lists after ends h is new n z e = go (got-more lists ends n z (subst (λ xs. slice_get xs n ≡ Some z) is e))
  where
    go : (slice_get lists n ≡ Some z) ⊎ ((n ≡ length lists) × (ends ≡ z)) → AreFarEndsOf net n z.items
    go (inl p) = h n z p
    go (inr p) = subst (λ (x : Vec (Option Port)). AreFarEndsOf net n x.items) p.1 (subst (λ k. AreFarEndsOf net k ends.items) (sym p.0) new)
