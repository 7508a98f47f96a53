-- Elements of a list that is made element by element.
use Rattle.std.proofs.Common.{◌≡◌, ℕ, zero, suc, ◌<◌, List, [], ◌∷◌, length, map, get_or, slice_get, Option, Some, None, refl, arith, ap, ◌∙◌}

-- an element past the list is d
abbrev pub made_or : {A B : Type 0} → B → (A → B) → Option A → B
made_or d f None = d
made_or d f (Some x) = f x

pub made : {A B : Type 0} (f : A → B) (xs : List A) (i : ℕ) (d : B) → get_or (map f xs) i d ≡ made_or d f (slice_get xs i)
made f [] i d = refl
made f (x ∷ xs) zero d = refl
made f (x ∷ xs) (suc i) d = made f xs i d

pub made_at : {A B : Type 0} (f : A → B) (xs : List A) (i : ℕ) (d : B) (x : A) → slice_get xs i ≡ Some x → get_or (map f xs) i d ≡ f x
made_at f xs i d x e = made f xs i d ∙ ap (made_or d f) e

-- there is an element at each place of the list
pub there : {A B : Type 0} (f : A → B) (xs : List A) (i : ℕ) → i < length (map f xs) → (x : A) × (slice_get xs i ≡ Some x)
there f [] i h = absurd (omega arith)
there f (x ∷ xs) zero h = (x, refl)
there f (x ∷ xs) (suc i) h = there f xs i (omega arith)

-- and none elsewhere
pub within : {A B : Type 0} (f : A → B) (xs : List A) (i : ℕ) (x : A) → slice_get xs i ≡ Some x → i < length (map f xs)
within f [] i x h = absurd (cc)
within f (y ∷ ys) zero x h = omega arith
within f (y ∷ ys) (suc i) x h = let r = within f ys i x h in omega arith
