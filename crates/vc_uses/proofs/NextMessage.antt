-- A channel's message that is still to come.
use Rattle.std.proofs.Common.{◌≡◌, ℕ, suc, ◌≤◌, List, [], ◌∷◌, ◌++◌, length, length-append, slice_get, refl, sym, ap, ◌∙◌, arith, Option}
use Rattle.std.specs.Borrow.{Bor}
use Rattle.std.specs.Option.{option_copied, option_to_list}

at_seam : (xs ys : List (List ℕ)) → slice_get (xs ++ ys) (length xs) ≡ slice_get ys 0
at_seam [] ys = refl
at_seam (x ∷ xs) ys = at_seam xs ys

one_at_most : (ys : List (List ℕ)) → length ys ≤ 1 → ys ≡ option_to_list (slice_get ys 0)
one_at_most [] le = refl
one_at_most (y ∷ []) le = refl
one_at_most (y ∷ z ∷ ys) le = absurd (omega arith)

-- what stands behind the messages that were taken is one message at most
pub behind : (offered taken rest : List (List ℕ)) (finished : ℕ) (r : Option (Bor (List ℕ))) → taken ++ rest ≡ offered → finished ≤ length taken → length offered ≤ suc finished → option_copied r ≡ slice_get offered (length taken) →
    offered ≡ taken ++ option_to_list (option_copied r)
behind offered taken rest finished r is done one got =
    let few : length rest ≤ 1 = omega (arith, length-append taken rest, ap length is, done, one) in
    sym is ∙ ap (λ xs. taken ++ xs) (one_at_most rest few ∙ ap option_to_list (sym (at_seam taken rest) ∙ ap (λ xs. slice_get xs (length taken)) is ∙ sym got))
