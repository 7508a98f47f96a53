-- Parts, branches and guards, sought through from the first on.
use Rattle.std.proofs.Common.{◌≡◌, ℕ, suc, ◌+◌, ◌<◌, ◌≤◌, refl, ap, sym, ◌∙◌, List, [], ◌∷◌, ◌++◌, map, length, get_or, drop, add-one, Option, Some, None, Result, Ok, Err, IfOk}
use Rattle.std.specs.Option.{option_or}
use Rattle.vc_process.proofs.Walks.{drop_at, drop_all}
use Rattle.vc_explain.specs.Uses.{first_of}

pub or_assoc : {B : Type 0} (x y z : Option B) → option_or (option_or x y) z ≡ option_or x (option_or y z)
or_assoc None y z = refl
or_assoc (Some b) y z = refl

-- in one list and then in another
pub first_append : {A B : Type 0} (f : A → Option B) (xs ys : List A) → first_of f (xs ++ ys) ≡ option_or (first_of f xs) (first_of f ys)
first_append f [] ys = refl
first_append f (x ∷ xs) ys = ap (option_or (f x)) (first_append f xs ys) ∙ sym (or_assoc (f x) (first_of f xs) (first_of f ys))

pub if_ok : {A E : Type 0} (r : Result A E) (P Q : A → Type 0) → ((a : A) → P a → Q a) → IfOk r P → IfOk r Q
if_ok (Ok a) P Q f h = f a h
if_ok (Err e) P Q f h = h

-- what is found in all of them is found from the k-th on
abbrev pub Sought : {X N B : Type 0} → (X → N) → (ℕ → List N → ℕ → Option B) → List X → ℕ → Type 0
Sought num all xs k = (site : ℕ) → (s : ℕ) × (all 0 (map num xs) site ≡ all k (map num (drop k xs)) s)

-- it is found in the first, or else in those behind it
abbrev pub Opens : {N B : Type 0} → (ℕ → List N → ℕ → Option B) → (ℕ → N → ℕ → Option B) → (N → ℕ → ℕ) → Type 0
Opens {N = N} all one next = (k : ℕ) (n : N) (ns : List N) (s : ℕ) → all k (n ∷ ns) s ≡ option_or (one k n s) (all (suc k) ns (next n s))

-- from the k-th on: in it, or else behind it
pub sought_at : {X N B : Type 0} (num : X → N) (all : ℕ → List N → ℕ → Option B) (one : ℕ → N → ℕ → Option B) (next : N → ℕ → ℕ) (xs : List X) (k : ℕ) (x : X) → Opens all one next → k < length xs → x ≡ get_or xs k x → Sought num all xs k →
    (site : ℕ) → (s : ℕ) × (all 0 (map num xs) site ≡ option_or (one k (num x) s) (all (k + 1) (map num (drop (k + 1) xs)) (next (num x) s)))
sought_at num all one next xs k x opens l h r = λ site.
    let e = r site in
    let rest = map num (drop (k + 1) xs) in
    (e.0, e.1 ∙ ap (λ ns. all k ns e.0) (drop_at num k xs x l h) ∙ opens k (num x) rest e.0 ∙ ap (λ j. option_or (one k (num x) e.0) (all j rest (next (num x) e.0))) (sym (add-one k)))

pub sought_next : {X N B : Type 0} (num : X → N) (all : ℕ → List N → ℕ → Option B) (one : ℕ → N → ℕ → Option B) (next : N → ℕ → ℕ) (xs : List X) (k : ℕ) (x : X) → Opens all one next → k < length xs → x ≡ get_or xs k x →
    ((s : ℕ) → None ≡ one k (num x) s) → Sought num all xs k → Sought num all xs (k + 1)
sought_next num all one next xs k x opens l h none r = λ site.
    let e = sought_at num all one next xs k x opens l h r site in
    let behind = all (k + 1) (map num (drop (k + 1) xs)) (next (num x) e.0) in
    (next (num x) e.0, e.1 ∙ ap (λ o. option_or o behind) (sym (none e.0)))

pub sought_found : {X N B : Type 0} (num : X → N) (all : ℕ → List N → ℕ → Option B) (one : ℕ → N → ℕ → Option B) (next : N → ℕ → ℕ) (xs : List X) (k : ℕ) (x : X) (found : B) → Opens all one next → k < length xs → x ≡ get_or xs k x →
    ((s : ℕ) → Some found ≡ one k (num x) s) → Sought num all xs k → (site : ℕ) → Some found ≡ all 0 (map num xs) site
sought_found num all one next xs k x found opens l h some r = λ site.
    let e = sought_at num all one next xs k x opens l h r site in
    let behind = all (k + 1) (map num (drop (k + 1) xs)) (next (num x) e.0) in
    sym (e.1 ∙ ap (λ o. option_or o behind) (sym (some e.0)))

pub sought_end : {X N B : Type 0} (num : X → N) (all : ℕ → List N → ℕ → Option B) (xs : List X) (k : ℕ) → ((s : ℕ) → all k [] s ≡ None) → length xs ≤ k → Sought num all xs k → (site : ℕ) → None ≡ all 0 (map num xs) site
sought_end num all xs k empty l r = λ site.
    let e = r site in
    sym (e.1 ∙ ap (λ ns. all k ns e.0) (drop_all num k xs l) ∙ empty e.0)
