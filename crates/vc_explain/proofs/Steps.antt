-- One item more of a front.
use Rattle.std.proofs.Common.{◌≡◌, ℕ, suc, ◌+◌, List, [], ◌∷◌, ◌++◌, take, Some, ap, sym, ◌∙◌, arith, slice_get}
use Rattle.std.proofs.Math.Seq.{take-suc}
use Rattle.std.proofs.lemmas.Option.{slice_get_within, get_or_from_slice_get}

pub step_more : {X : Type 0} (xs : List X) (n : ℕ) (x : X) → slice_get xs n ≡ Some x → take n xs ++ x ∷ [] ≡ take (n + 1) xs
step_more xs n x h =
    let next : suc n ≡ n + 1 = omega arith in
    ap (λ y. take n xs ++ y ∷ []) (sym (get_or_from_slice_get xs n x x h)) ∙ sym (take-suc xs n x (slice_get_within xs n x h)) ∙ ap (λ m. take m xs) next
