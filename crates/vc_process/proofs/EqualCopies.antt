-- What is copied equals what it is copied from.
use Rattle.std.proofs.Common.{◌≡◌, ◌∙◌, [], Result, Ok, Err, IfOk}

pub copied_as : {A E : Type 0} (r : Result A E) (x y : A) → x ≡ y → IfOk r (λ z. z ≡ x) → IfOk r (λ z. z ≡ y)
copied_as (Ok z) x y e h = h ∙ e
copied_as (Err m) x y e h = h
