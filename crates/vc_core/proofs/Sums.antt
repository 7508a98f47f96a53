-- What the actors counted together.
use Rattle.std.proofs.Common.{◌≡◌, ℕ, ◌+◌, List, take, min, get_or, slice_get, Some, ap, ◌∙◌, arith}
use Rattle.std.specs.List.{sum_by}
use Rattle.std.proofs.lemmas.List.Sums.{sum_by_more}
use Rattle.std.proofs.lemmas.Option.{slice_get-get_or, slice_get_within}
use Rattle.vc_actor.specs.Parts.{saturated}
use Rattle.vc_core.proofs.Turns.{same_some}

-- one more is counted
pub sum_next : {X : Type 0} (f : X → ℕ) (xs : List X) (k : ℕ) (a : X) (all one new : ℕ) → slice_get xs k ≡ Some a → all ≡ saturated (sum_by f (take k xs)) → one ≡ f a →
    new ≡ min (all + one) 18446744073709551615 → new ≡ saturated (sum_by f (take (k + 1) xs))
sum_next f xs k a all one new here before is after =
    let less = slice_get_within xs k a here in
    let item = same_some (slice_get xs k) (get_or xs k a) a (slice_get-get_or xs k a less) here in
    let more = sum_by_more f xs k a less ∙ ap (λ z. sum_by f (take k xs) + f z) item in
    omega (arith, before, is, after, more)
