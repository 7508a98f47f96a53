-- The end of a loop over two lists side by side.
use Rattle.std.proofs.Common.{◌≡◌, List, [], ◌∷◌, ◌++◌, ◌⊎◌, length, append-nil, refl, sym, ap, ◌∙◌, inl, inr, arith}
use Rattle.std.specs.List.{flat_map, zip}

zip-empty : {A B : Type 0} (xs : List A) (ys : List B) → (length xs ≡ 0) ⊎ (length ys ≡ 0) → zip xs ys ≡ []
zip-empty [] ys e = refl
zip-empty (x ∷ xs) [] e = refl
zip-empty (x ∷ xs) (y ∷ ys) (inl e) = absurd (omega (arith, e))
zip-empty (x ∷ xs) (y ∷ ys) (inr e) = absurd (omega (arith, e))

pub zip-ends : {A B C : Type 0} (f : A × B → List C) (out all : List C) (xs : List A) (ys : List B) → (length xs ≡ 0) ⊎ (length ys ≡ 0) → out ++ flat_map f (zip xs ys) ≡ all → out ≡ all
zip-ends f out all xs ys e is = sym (append-nil out) ∙ ap (λ z. out ++ flat_map f z) (sym (zip-empty xs ys e)) ∙ is
