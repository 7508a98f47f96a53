-- The moves of a list that is looked at in two parts, and a list in which nothing changes.
use Rattle.std.proofs.Common.{◌≡◌, ℕ, zero, suc, List, [], ◌∷◌, take, drop, slice_get, slice_set, Bool, true, Option, Some, None, if◌then◌else◌, refl, ◌∙◌, arith, sym, ap, subst, inl, inr}
use Rattle.std.proofs.lemmas.Bool.Decides.{nat_tests}
use Rattle.std.proofs.lemmas.List.{take-append-drop}
use Rattle.std.proofs.lemmas.List.Elements.{Contains-append_cases}
use Rattle.std.specs.List.{Contains}
use Rattle.std.specs.Prelude.{nat_le}
use Rattle.vc_occam.specs.MoveSites.{from_site, site_of}
use Rattle.vc_occam.specs.declared.moves.Move.{Move}

-- one that is in neither part is not in the list
pub in_neither : {X : Type 0} (xs : List X) (i : ℕ) (x : X) → (Contains (take i xs) x → ⊥) → (Contains (drop i xs) x → ⊥) → Contains xs x → ⊥
in_neither xs i x before rest h = elim (Contains-append_cases (take i xs) (drop i xs) x (subst (λ ys. Contains ys x) (sym (take-append-drop i xs)) h)) [ inl a ↦ before a | inr b ↦ rest b ]

-- what stands in a place is put there again
pub put_back : {X : Type 0} (xs : List X) (i : ℕ) (x : X) → slice_get xs i ≡ Some x → slice_set xs i x ≡ xs
put_back [] i x e = refl
put_back (y ∷ ys) zero x e = let same : y ≡ x = cc in ap (λ z. z ∷ ys) (sym same)
put_back (y ∷ ys) (suc i) x e = ap (λ zs. y ∷ zs) (put_back ys i x e)

zero_le : (n : ℕ) → nat_le zero n ≡ true
zero_le n = grind (arith, nat_tests)

-- of moves there are none where there is none from site 0 on
pub none_from : (ms : List Move) (o : Option Move) → o ≡ from_site zero ms → o ≡ None → ms ≡ []
none_from [] o e h = refl
none_from (m ∷ ms) o e h =
    let first : from_site zero (m ∷ ms) ≡ Some m = ap (λ (b : Bool). if b then Some m else from_site zero ms) (zero_le (site_of m)) in
    let none : Some m ≡ None = sym first ∙ sym e ∙ h in
    absurd cc
