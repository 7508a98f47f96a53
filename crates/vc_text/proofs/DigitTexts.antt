-- Digits of bytes, one after another.
use Rattle.std.proofs.Common.{◌≡◌, ◌==◌, ℕ, ◌/◌, ◌%◌, true, arith, length, List, [], ◌∷◌, ◌++◌, refl, sym, ap, ◌∙◌, slice_index, append-nil}
use Rattle.std.proofs.lemmas.Bool.Decides.{nat_tests}
use Rattle.hex.specs.Hex.{encode_with, encode_lower, lower_digits}

encoded : (t xs ys : List ℕ) → encode_with t (xs ++ ys) ≡ encode_with t xs ++ encode_with t ys
unfolding encode_with
encoded t [] ys = refl
encoded t (x ∷ xs) ys = ap (λ ds. slice_index t (x / 16) ∷ slice_index t (x % 16) ∷ ds) (encoded t xs ys)

pub no_digits : encode_lower [] ≡ []
unfolding encode_with
no_digits = refl

pub digits_of_two : (xs ys : List ℕ) → encode_lower (xs ++ ys) ≡ encode_lower xs ++ encode_lower ys
digits_of_two xs ys = encoded lower_digits xs ys

-- the digits of the first bytes of the rest, and of the others
pub more_digits : (done first others rest bytes : List ℕ) → rest ≡ first ++ others → done ++ encode_lower rest ≡ encode_lower bytes → done ++ (encode_lower first ++ encode_lower others) ≡ encode_lower bytes
more_digits done first others rest bytes cut is = ap (λ t. done ++ t) (sym (digits_of_two first others) ∙ ap encode_lower (sym cut)) ∙ is

none : (xs : List ℕ) → true ≡ (length xs == 0) → xs ≡ []
none [] test = refl
none (x ∷ xs) test = let e : (length (x ∷ xs) == 0) ≡ true = sym test in let n : length (x ∷ xs) ≡ 0 = grind (arith, nat_tests) in absurd (omega arith)

-- where no byte is left, the digits are all
pub all_digits : (done rest bytes : List ℕ) → true ≡ (length rest == 0) → done ++ encode_lower rest ≡ encode_lower bytes → done ≡ encode_lower bytes
all_digits done rest bytes test is = sym (append-nil done) ∙ ap (λ t. done ++ t) (sym (ap encode_lower (none rest test) ∙ no_digits)) ∙ is
