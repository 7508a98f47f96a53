-- Membership by recursion and by index, and elements of lists that grew.
use Rattle.std.proofs.Common.{◌≡◌, ◌⊎◌, inl, inr, ℕ, zero, suc, ◌<◌, ◌≤◌, Bool, true, false, ◌||◌, List, [], ◌∷◌, ◌++◌, length, Some, slice_get, get_or, refl, sym, ap, ◌∙◌, nat_eq, arith}
use Rattle.std.proofs.lemmas.Bool.Decides.{nat_tests}
use Rattle.std.proofs.lemmas.Option.{slice_get-get_or}
use Rattle.std.specs.List.{Contains, list_any}
use Rattle.vc_plan.proofs.Members.{In}

pub in_contains : {A : Type 0} (x : A) (xs : List A) → In x xs → Contains xs x
in_contains x [] i = absurd i
in_contains x (y ∷ ys) (inl e) = (0, omega arith, e)
in_contains x (y ∷ ys) (inr i) = let c = in_contains x ys i in let lt = c.1 in (suc c.0, omega arith, c.2)

pub contains_in : {A : Type 0} (x : A) (xs : List A) → Contains xs x → In x xs
contains_in x [] (k, lt, e) = absurd (omega arith)
contains_in x (y ∷ ys) (zero, lt, e) = inl e
contains_in x (y ∷ ys) (suc k, lt, e) = inr (contains_in x ys (k, omega arith, e))

-- an element by its index
pub at_in : {A : Type 0} (xs : List A) (k : ℕ) (x : A) → slice_get xs k ≡ Some x → In x xs
at_in [] k x e = absurd cc
at_in (y ∷ ys) zero x e = inl cc
at_in (y ∷ ys) (suc k) x e = inr (at_in ys k x e)

pub in_at : {A : Type 0} (x : A) (xs : List A) → In x xs → (k : ℕ) × (slice_get xs k ≡ Some x)
in_at x [] i = absurd i
in_at x (y ∷ ys) (inl e) = (0, ap (λ z. Some z) e)
in_at x (y ∷ ys) (inr i) = let r = in_at x ys i in (suc r.0, r.1)

pub at_contains : {A : Type 0} (xs : List A) (k : ℕ) (x : A) → slice_get xs k ≡ Some x → Contains xs x
at_contains xs k x e = in_contains x xs (at_in xs k x e)

pub contains_at : {A : Type 0} (xs : List A) (x : A) → Contains xs x → (k : ℕ) × (slice_get xs k ≡ Some x)
contains_at xs x c = in_at x xs (contains_in x xs c)

-- an element that is read at an index
pub read_at : {A : Type 0} (xs : List A) (k : ℕ) (x : A) → k < length xs → x ≡ get_or xs k x → slice_get xs k ≡ Some x
read_at xs k x lt e = slice_get-get_or xs k x lt ∙ ap (λ z. Some z) (sym e)

-- elements of a list with more behind
pub get_left : {A : Type 0} (xs ys : List A) (k : ℕ) (x : A) → slice_get xs k ≡ Some x → slice_get (xs ++ ys) k ≡ Some x
get_left [] ys k x e = absurd cc
get_left (z ∷ zs) ys zero x e = e
get_left (z ∷ zs) ys (suc k) x e = get_left zs ys k x e

pub get_append : {A : Type 0} (xs ys : List A) (k : ℕ) (x : A) → slice_get (xs ++ ys) k ≡ Some x → (slice_get xs k ≡ Some x) ⊎ ((length xs ≤ k) × In x ys)
get_append [] ys k x e = inr (omega arith, at_in ys k x e)
get_append (z ∷ zs) ys zero x e = inl e
get_append (z ∷ zs) ys (suc k) x e = go (get_append zs ys k x e)
  where
    go : (slice_get zs k ≡ Some x) ⊎ ((length zs ≤ k) × In x ys) → (slice_get (z ∷ zs) (suc k) ≡ Some x) ⊎ ((length (z ∷ zs) ≤ suc k) × In x ys)
    go (inl r) = inl r
    go (inr r) = let le = r.0 in inr (omega arith, r.1)

-- the element behind a list
pub get_last : {A : Type 0} (xs : List A) (y : A) → slice_get (xs ++ y ∷ []) (length xs) ≡ Some y
get_last [] y = refl
get_last (x ∷ xs) y = get_last xs y

-- whether a number is among others
any_go : (a b : Bool) → (a || b) ≡ true → (a ≡ true) ⊎ (b ≡ true)
any_go true b e = inl refl
any_go false b e = inr e

pub any_in : (x : ℕ) (xs : List ℕ) → list_any (λ y. nat_eq y x) xs ≡ true → In x xs
any_in x [] e = absurd cc
any_in x (y ∷ ys) e = go (any_in x ys) (any_go (nat_eq y x) (list_any (λ z. nat_eq z x) ys) e)
  where
    go : (list_any (λ z. nat_eq z x) ys ≡ true → In x ys) → (nat_eq y x ≡ true) ⊎ (list_any (λ z. nat_eq z x) ys ≡ true) → In x (y ∷ ys)
    go rest (inl is) = inl (grind (arith, nat_tests))
    go rest (inr is) = inr (rest is)

none_go : (a b : Bool) → (a || b) ≡ false → (a ≡ false) × (b ≡ false)
none_go true b e = absurd cc
none_go false b e = (refl, e)

pub none_in : (x : ℕ) (xs : List ℕ) → list_any (λ y. nat_eq y x) xs ≡ false → In x xs → ⊥
none_in x [] e i = i
none_in x (y ∷ ys) e (inl same) = let n = (none_go (nat_eq y x) (list_any (λ z. nat_eq z x) ys) e).0 in grind (arith, nat_tests)
none_in x (y ∷ ys) e (inr i) = none_in x ys (none_go (nat_eq y x) (list_any (λ z. nat_eq z x) ys) e).1 i

-- there is an element at an index within
pub some_at : {A : Type 0} (xs : List A) (k : ℕ) → k < length xs → (x : A) × (slice_get xs k ≡ Some x)
some_at [] k lt = absurd (omega arith)
some_at (x ∷ xs) zero lt = (x, refl)
some_at (x ∷ xs) (suc k) lt = some_at xs k (omega arith)

pub default_is : (xs : List ℕ) (k j : ℕ) → k < length xs → get_or xs k j ≡ get_or xs k 0
default_is [] k j less = absurd (omega arith)
default_is (x ∷ xs) zero j less = refl
default_is (x ∷ xs) (suc k) j less = default_is xs k j (omega arith)

pub at_index : (xs : List ℕ) (k : ℕ) → k < length xs → Contains xs (get_or xs k 0)
at_index xs k lt = (k, lt, default_is xs k (get_or xs k 0) lt)
