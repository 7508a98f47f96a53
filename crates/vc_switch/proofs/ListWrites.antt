-- Lists read by place: a write of one element is a change at its place.
use Rattle.std.proofs.Common.{◌≡◌, ℕ, zero, suc, List, [], ◌∷◌, refl, sym, ap, ◌∙◌, subst, arith, slice_get, slice_set, get_or, length, ◌<◌, ltb, if◌then◌else◌, true, false, vec_len, Vec, Global, Some, None, inl, inr, eq-eqb}
use Rattle.std.proofs.lemmas.Bool.{cases_eq, ne_eqb, ltb-true, ltb-false}
use Rattle.std.specs.List.{AllByRecursion}
use Rattle.std.proofs.lemmas.Option.{get_or_from_slice_get, slice_get_read, slice_get_past}
use mathlib.Core.Path.{fun_ext}
use Rattle.vc_packets.specs.Functions.{put, shown_or}

pub put-same : {X : Type 0} (f : ℕ → X) (i : ℕ) (x : X) → put f i x i ≡ x
put-same f i x = ap (λ t. if t then x else f i) (eq-eqb i i refl)

pub put-other : {X : Type 0} (f : ℕ → X) (i j : ℕ) (x : X) → (j ≡ i → ⊥) → put f i x j ≡ f j
put-other f i j x ne = ap (λ t. if t then x else f j) (ne_eqb j i ne)

-- x at i, and f at all others
pub put_is : {X : Type 0} (f g : ℕ → X) (i : ℕ) (x : X) → g i ≡ x → ((j : ℕ) → (j ≡ i → ⊥) → g j ≡ f j) → g ≡ put f i x
put_is f g i x same other = fun_ext (λ j. elim (cases_eq j i) [
  | inl e ↦ ap g e ∙ same ∙ sym (ap (λ t. if t then x else f j) (eq-eqb j i e))
  | inr ne ↦ other j ne ∙ sym (put-other f i j x ne)
])

-- writing what is there changes nothing
pub put_back : {X : Type 0} (f : ℕ → X) (i : ℕ) (x : X) → f i ≡ x → put f i x ≡ f
put_back f i x e = sym (put_is f f i x e (λ j ne. refl))

pub place-set_same : {X : Type 0} (xs : List X) (i : ℕ) (y : X) → i < length xs → slice_get (slice_set xs i y) i ≡ Some y
place-set_same [] i y h = absurd (omega arith)
place-set_same (x ∷ xs) zero y h = refl
place-set_same (x ∷ xs) (suc i) y h = place-set_same xs i y (omega arith)

pub place-set_other : {X : Type 0} (xs : List X) (i j : ℕ) (y : X) → (j ≡ i → ⊥) → slice_get (slice_set xs i y) j ≡ slice_get xs j
place-set_other [] i j y ne = refl
place-set_other (x ∷ xs) zero zero y ne = absurd (ne refl)
place-set_other (x ∷ xs) zero (suc j) y ne = refl
place-set_other (x ∷ xs) (suc i) zero y ne = refl
place-set_other (x ∷ xs) (suc i) (suc j) y ne = place-set_other xs i j y (λ e. ne (ap suc e))

pub by_place-set : {X Y : Type 0} (show : X → Y) (d : Y) (xs : List X) (i : ℕ) (y : X) → i < length xs →
    (λ (j : ℕ). shown_or d show (slice_get (slice_set xs i y) j)) ≡ put (λ (j : ℕ). shown_or d show (slice_get xs j)) i (show y)
by_place-set show d xs i y h =
    put_is (λ j. shown_or d show (slice_get xs j)) (λ j. shown_or d show (slice_get (slice_set xs i y) j)) i (show y)
    (ap (shown_or d show) (place-set_same xs i y h)) (λ j ne. ap (shown_or d show) (place-set_other xs i j y ne))

-- what is read at one place is one thing
pub same_read : {X : Type 0} (xs : List X) (i : ℕ) (x y : X) → slice_get xs i ≡ Some x → slice_get xs i ≡ Some y → x ≡ y
same_read xs i x y a b = let e : Some x ≡ Some y = sym a ∙ b in cc

-- what indexing reads is what stands there
pub read_there : {X : Type 0} (xs : List X) (i : ℕ) (x a : X) → slice_get xs i ≡ Some x → a ≡ get_or xs i a → x ≡ a
read_there xs i x a here is = sym (get_or_from_slice_get xs i x a here) ∙ sym is

pub some_at : {X : Type 0} (xs : List X) (i : ℕ) → i < length xs → (x : X) × (slice_get xs i ≡ Some x)
some_at [] i h = absurd (omega arith)
some_at (x ∷ xs) zero h = (x, refl)
some_at (x ∷ xs) (suc i) h = some_at xs i (omega arith)

pub all-set : {X : Type 0} (P : X → Type 0) (xs : List X) (i : ℕ) (y : X) → AllByRecursion P xs → P y → AllByRecursion P (slice_set xs i y)
all-set P [] i y h p = h
all-set P (x ∷ xs) zero y h p = (p, h.1)
all-set P (x ∷ xs) (suc i) y h p = (h.0, all-set P xs i y h.1 p)

pub all-at : {X : Type 0} (P : X → Type 0) (xs : List X) (i : ℕ) (x : X) → AllByRecursion P xs → slice_get xs i ≡ Some x → P x
all-at P [] i x h e = absurd (cc)
all-at P (y ∷ xs) zero x h e = let q : y ≡ x = cc in subst P q h.0
all-at P (y ∷ xs) (suc i) x h e = all-at P xs i x h.1 e

-- a link's number is within a list of 32
pub at_link : {X : Type 0} (v : Vec X Global) (j l : ℕ) → j ≡ l → l < 32 → length v.items ≡ 32 → j < vec_len v
at_link v j l along within long = subst (λ n. j < n) (sym (v.ok.0 ∙ long)) (subst (λ i. i < 32) (sym along) within)

-- what is sought by a number that may be past the end
pub got : {X : Type 0} (xs ys : List X) (j i : ℕ) (x : X) → ys ≡ xs → j ≡ i → true ≡ ltb j (length ys) → x ≡ get_or ys j x → slice_get xs i ≡ Some x
got xs ys j i x same along within is = subst (λ z. slice_get z i ≡ Some x) same (subst (λ k. slice_get ys k ≡ Some x) along (slice_get_read ys (length ys) j x refl (ltb-true j (length ys) (sym within)) is))

pub got_none : {X : Type 0} (xs ys : List X) (j i : ℕ) → ys ≡ xs → j ≡ i → false ≡ ltb j (length ys) → slice_get xs i ≡ None
got_none xs ys j i same along past = subst (λ z. slice_get z i ≡ None) same (subst (λ k. slice_get ys k ≡ None) along (slice_get_past ys j (ltb-false j (length ys) (sym past))))
