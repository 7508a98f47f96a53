-- Lists read by place: a write of one element is a change at its place.
use Rattle.std.proofs.Common.{◌≡◌, ℕ, zero, suc, List, [], ◌∷◌, refl, sym, ap, ◌∙◌, arith, slice_get, slice_set, length, ◌<◌, if◌then◌else◌, subst, Some, None, Result, Ok, Err, OnOk, OnErr, IfOk, inl, inr, eq-eqb}
use Rattle.std.proofs.lemmas.Bool.{cases_eq, ne_eqb}
use mathlib.Core.Path.{fun_ext}
use Rattle.vc_packets.specs.Functions.{put, shown_or}
use Rattle.vc_vcp.specs.Names.{named}

-- x at i, and f at all others
pub put_is : {X : Type 0} (f g : ℕ → X) (i : ℕ) (x : X) → g i ≡ x → ((j : ℕ) → (j ≡ i → ⊥) → g j ≡ f j) → g ≡ put f i x
put_is f g i x same other = fun_ext (λ j. elim (cases_eq j i) [
  | inl e ↦ ap g e ∙ same ∙ sym (ap (λ t. if t then x else f j) (eq-eqb j i e))
  | inr ne ↦ other j ne ∙ sym (ap (λ t. if t then x else f j) (ne_eqb j i ne))
])

-- writing what is there changes nothing
pub put_back : {X : Type 0} (f : ℕ → X) (i : ℕ) (x : X) → f i ≡ x → put f i x ≡ f
put_back f i x e = sym (put_is f f i x e (λ j ne. refl))

pub place-set_same : {X : Type 0} (xs : List X) (i : ℕ) (y : X) → i < length xs → slice_get (slice_set xs i y) i ≡ Some y
place-set_same [] i y h = absurd (omega arith)
place-set_same (x ∷ xs) zero y h = refl
place-set_same (x ∷ xs) (suc i) y h = place-set_same xs i y (omega arith)

pub place-set_other : {X : Type 0} (xs : List X) (i j : ℕ) (y : X) → (j ≡ i → ⊥) → slice_get (slice_set xs i y) j ≡ slice_get xs j
place-set_other [] i j y ne = refl
place-set_other (x ∷ xs) zero zero y ne = absurd (ne refl)
place-set_other (x ∷ xs) zero (suc j) y ne = refl
place-set_other (x ∷ xs) (suc i) zero y ne = refl
place-set_other (x ∷ xs) (suc i) (suc j) y ne = place-set_other xs i j y (λ e. ne (ap suc e))

pub by_place-set : {X Y : Type 0} (show : X → Y) (d : Y) (xs : List X) (i : ℕ) (y : X) → i < length xs →
    (λ (j : ℕ). shown_or d show (slice_get (slice_set xs i y) j)) ≡ put (λ (j : ℕ). shown_or d show (slice_get xs j)) i (show y)
by_place-set show d xs i y h =
    put_is (λ j. shown_or d show (slice_get xs j)) (λ j. shown_or d show (slice_get (slice_set xs i y) j)) i (show y)
    (ap (shown_or d show) (place-set_same xs i y h)) (λ j ne. ap (shown_or d show) (place-set_other xs i j y ne))

-- what is read at one place is one thing
pub same_read : {X : Type 0} (xs : List X) (i : ℕ) (x y : X) → slice_get xs i ≡ Some x → slice_get xs i ≡ Some y → x ≡ y
same_read xs i x y a b = let e : Some x ≡ Some y = sym a ∙ b in cc

pub on_ok : {X E A B : Type 0} (r : Result X E) → (A → B) → OnOk r A → OnOk r B
on_ok (Ok x) f h = f h
on_ok (Err e) f h = h

pub if_ok : {X E : Type 0} {A B : X → Type 0} (r : Result X E) → ((x : X) → A x → B x) → IfOk r A → IfOk r B
if_ok (Ok x) f h = f x h
if_ok (Err e) f h = h

-- what is there, written back, changes nothing
pub set_back : {X : Type 0} (xs : List X) (i : ℕ) (x y : X) → slice_get xs i ≡ Some x → y ≡ x → slice_set xs i y ≡ xs
set_back [] i x y here same = refl
set_back (a ∷ more) zero x y here same = let there : a ≡ x = cc in ap (λ z. z ∷ more) (same ∙ sym there)
set_back (a ∷ more) (suc i) x y here same = ap (λ zs. a ∷ zs) (set_back more i x y here same)

-- what was asked for is found
pub asked_found : {X : Type 0} (name : X → ℕ) (k : ℕ) (ys xs : List X) (x : X) → ys ≡ xs → named name k ys ≡ None → named name k xs ≡ Some x → ⊥
asked_found name k ys xs x same none asked = let e : None ≡ Some x = sym (subst (λ z. named name k z ≡ None) same none) ∙ asked in cc

pub on_err : {X E A B C : Type 0} (r : Result X E) → (A → B → C) → OnErr r A → OnErr r B → OnErr r C
on_err (Ok x) f h k = h
on_err (Err e) f h k = f h k
