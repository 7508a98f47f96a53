-- Numbers in rows.
use Rattle.std.proofs.Common.{◌≡◌, ℕ, ◌==◌, ◌&&◌, ◌||◌, Bool, true, false, List, [], ◌∷◌, ◌++◌, Some, slice_get, slice_set, refl, sym, ap, ◌∙◌, inl, inr, eq-eqb, ne_eqb}
use Rattle.std.proofs.lemmas.Bool.{cases_eq}
use Rattle.std.proofs.lemmas.List.Folds.{list_any-append}
use Rattle.std.proofs.lemmas.Option.{slice_get_within}
use Rattle.std.specs.Option.{option_map_or}
use Rattle.vc_stats.specs.Rows.{is_in}
use Rattle.vc_switch.proofs.ListWrites.{place-set_same, place-set_other}

or_none : (b c : Bool) → (b || (false && c)) ≡ b
or_none true c = refl
or_none false c = refl

or_one : (b c : Bool) → (b || (c || false)) ≡ (b || (true && c))
or_one true c = refl
or_one false true = refl
or_one false false = refl

-- the numbers in row k, where f has those of a row
abbrev pub in_row : {A : Type 0} → (A → List ℕ) → List A → ℕ → List ℕ
in_row f rows k = option_map_or f (slice_get rows k) []

-- a number more in row i
pub row_grows : {A : Type 0} (f : A → List ℕ) (rows : List A) (i : ℕ) (r w : A) (number : ℕ) → slice_get rows i ≡ Some r → f w ≡ f r ++ number ∷ [] → (k n : ℕ) →
    is_in n (in_row f (slice_set rows i w) k) ≡ (is_in n (in_row f rows k) || (i == k && number == n))
row_grows f rows i r w number there grows k n = elim (cases_eq k i) [
  | inl here ↦ (
      let new : in_row f (slice_set rows i w) k ≡ f r ++ number ∷ [] = ap (in_row f (slice_set rows i w)) here ∙ ap (λ o. option_map_or f o []) (place-set_same rows i w (slice_get_within rows i r there)) ∙ grows in
      let old : in_row f rows k ≡ f r = ap (in_row f rows) here ∙ ap (λ o. option_map_or f o []) there in
      ap (is_in n) new ∙ list_any-append (λ m. m == n) (f r) (number ∷ []) ∙ or_one (is_in n (f r)) (number == n)
      ∙ ap (λ b. is_in n (f r) || (b && number == n)) (sym (eq-eqb i k (sym here))) ∙ ap (λ ms. is_in n ms || (i == k && number == n)) (sym old))
  | inr ne ↦ ap (λ o. is_in n (option_map_or f o [])) (place-set_other rows i k w ne) ∙ sym (or_none (is_in n (in_row f rows k)) (number == n))
      ∙ ap (λ b. is_in n (in_row f rows k) || (b && number == n)) (sym (ne_eqb i k (λ e. ne (sym e))))
]
