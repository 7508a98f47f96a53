-- Parts, branches and guards, gone through from the first on.
use Rattle.std.proofs.Common.{◌≡◌, ℕ, zero, suc, ◌+◌, ◌<◌, ◌≤◌, Bool, true, false, ◌&&◌, refl, ap, sym, ◌∙◌, List, [], ◌∷◌, ◌++◌, map, length, get_or, drop, arith, add-one, append_assoc, append-nil, Result, Ok, Err, OnOk}

-- one of them, and those behind it
pub drop_at : {X N : Type 0} (num : X → N) (k : ℕ) (xs : List X) (x : X) → k < length xs → x ≡ get_or xs k x → map num (drop k xs) ≡ num x ∷ map num (drop (k + 1) xs)
drop_at num k xs x l h = at k xs l h ∙ ap (λ j. num x ∷ map num (drop j xs)) (sym (add-one k))
  where
    at : (k : ℕ) (xs : List _) → k < length xs → x ≡ get_or xs k x → map num (drop k xs) ≡ num x ∷ map num (drop (suc k) xs)
    at k [] l h = absurd (omega arith)
    at zero (y ∷ xs) l h = ap (λ z. num z ∷ map num xs) (sym h)
    at (suc k) (y ∷ xs) l h = at k xs (omega arith) h

pub drop_all : {X N : Type 0} (num : X → N) (k : ℕ) (xs : List X) → length xs ≤ k → map num (drop k xs) ≡ []
drop_all num zero [] l = refl
drop_all num (suc k) [] l = refl
drop_all num zero (x ∷ xs) l = absurd (omega arith)
drop_all num (suc k) (x ∷ xs) l = drop_all num k xs (omega arith)

-- what is asked of all of them is yet to be asked of those from the k-th on
abbrev pub Reaches : {X N A : Type 0} → (X → N) → (List N → ℕ → A) → List X → ℕ → Type 0
Reaches num all xs k = (site : ℕ) → (s : ℕ) × (all (map num xs) site ≡ all (map num (drop k xs)) s)

-- it is asked of the first, and then of those behind it
abbrev pub Splits : {N : Type 0} → (List N → ℕ → Bool) → (N → ℕ → Bool) → (N → ℕ → ℕ) → Type 0
Splits {N = N} all one next = (n : N) (ns : List N) (s : ℕ) → all (n ∷ ns) s ≡ (one n s && all ns (next n s))

pub reaches_next : {X N : Type 0} (num : X → N) (all : List N → ℕ → Bool) (one : N → ℕ → Bool) (next : N → ℕ → ℕ) (xs : List X) (k : ℕ) (x : X) → Splits all one next → k < length xs → x ≡ get_or xs k x →
    ((s : ℕ) → true ≡ one (num x) s) → Reaches num all xs k → Reaches num all xs (k + 1)
reaches_next num all one next xs k x sp l h right r = λ site.
    let e = r site in
    let rest = map num (drop (k + 1) xs) in
    (next (num x) e.0, e.1 ∙ ap (λ ns. all ns e.0) (drop_at num k xs x l h) ∙ sp (num x) rest e.0 ∙ ap (λ b. b && all rest (next (num x) e.0)) (sym (right e.0)))

pub reaches_false : {X N : Type 0} (num : X → N) (all : List N → ℕ → Bool) (one : N → ℕ → Bool) (next : N → ℕ → ℕ) (xs : List X) (k : ℕ) (x : X) → Splits all one next → k < length xs → x ≡ get_or xs k x →
    ((s : ℕ) → false ≡ one (num x) s) → Reaches num all xs k → (site : ℕ) → false ≡ all (map num xs) site
reaches_false num all one next xs k x sp l h wrong r = λ site.
    let e = r site in
    let rest = map num (drop (k + 1) xs) in
    sym (e.1 ∙ ap (λ ns. all ns e.0) (drop_at num k xs x l h) ∙ sp (num x) rest e.0 ∙ ap (λ b. b && all rest (next (num x) e.0)) (sym (wrong e.0)))

pub reaches_end : {X N A : Type 0} (num : X → N) (all : List N → ℕ → A) (xs : List X) (k : ℕ) (a : A) → ((s : ℕ) → all [] s ≡ a) → length xs ≤ k → Reaches num all xs k → (site : ℕ) → a ≡ all (map num xs) site
reaches_end num all xs k a empty l r = λ site.
    let e = r site in
    sym (e.1 ∙ ap (λ ns. all ns e.0) (drop_all num k xs l) ∙ empty e.0)

-- what they add to a list is yet to be added from the k-th on
abbrev pub Adds : {X N A : Type 0} → (X → N) → (List N → ℕ → List A) → List X → List A → ℕ → List A → Type 0
Adds num all xs before k now = (site : ℕ) → (s : ℕ) × (before ++ all (map num xs) site ≡ now ++ all (map num (drop k xs)) s)

abbrev pub Joins : {N A : Type 0} → (List N → ℕ → List A) → (N → ℕ → List A) → (N → ℕ → ℕ) → Type 0
Joins {N = N} all one next = (n : N) (ns : List N) (s : ℕ) → all (n ∷ ns) s ≡ one n s ++ all ns (next n s)

pub adds_next : {X N A : Type 0} (num : X → N) (all : List N → ℕ → List A) (one : N → ℕ → List A) (next : N → ℕ → ℕ) (xs : List X) (before : List A) (k : ℕ) (now later : List A) (x : X) → Joins all one next → k < length xs → x ≡ get_or xs k x →
    ((s : ℕ) → later ≡ now ++ one (num x) s) → Adds num all xs before k now → Adds num all xs before (k + 1) later
adds_next num all one next xs before k now later x sp l h more r = λ site.
    let e = r site in
    let rest = map num (drop (k + 1) xs) in
    let behind = all rest (next (num x) e.0) in (
      next (num x) e.0,
      e.1 ∙ ap (λ ns. now ++ all ns e.0) (drop_at num k xs x l h) ∙ ap (λ ys. now ++ ys) (sp (num x) rest e.0) ∙ sym (append_assoc now (one (num x) e.0) behind) ∙ ap (λ ys. ys ++ behind) (sym (more e.0)),
    )

pub adds_end : {X N A : Type 0} (num : X → N) (all : List N → ℕ → List A) (xs : List X) (before : List A) (k : ℕ) (now : List A) → ((s : ℕ) → all [] s ≡ []) → length xs ≤ k → Adds num all xs before k now → (site : ℕ) → now ≡ before ++ all (map num xs) site
adds_end num all xs before k now empty l r = λ site.
    let e = r site in
    sym (e.1 ∙ ap (λ ns. now ++ all ns e.0) (drop_all num k xs l) ∙ ap (λ ys. now ++ ys) (empty e.0) ∙ append-nil now)

-- what a call adds is what is to be added
pub adds_as : {A E : Type 0} (r : Result (Unit {0}) E) (before now : List A) (xs ys : ℕ → List A) (f : ℕ → ℕ) → ((s : ℕ) → ys s ≡ xs (f s)) → OnOk r ((s : ℕ) → now ≡ before ++ xs s) → OnOk r ((s : ℕ) → now ≡ before ++ ys s)
adds_as (Ok u) before now xs ys f same h = λ s. h (f s) ∙ ap (λ zs. before ++ zs) (sym (same s))
adds_as (Err e) before now xs ys f same h = h

-- one after another
pub adds_both : {A E : Type 0} (r : Result (Unit {0}) E) (before mid now : List A) (xs : List A) (ys zs : ℕ → List A) (f : ℕ → ℕ) → mid ≡ before ++ xs → ((s : ℕ) → zs s ≡ xs ++ ys (f s)) → OnOk r ((s : ℕ) → now ≡ mid ++ ys s) → OnOk r ((s : ℕ) → now ≡ before ++ zs s)
adds_both (Ok u) before mid now xs ys zs f first same h = λ s. h (f s) ∙ ap (λ ws. ws ++ ys (f s)) first ∙ append_assoc before xs (ys (f s)) ∙ ap (λ ws. before ++ ws) (sym (same s))
adds_both (Err e) before mid now xs ys zs f first same h = h

-- the same, where no site is asked for
pub adds_same : {A E : Type 0} (r : Result (Unit {0}) E) (before now xs ys : List A) → ys ≡ xs → OnOk r (now ≡ before ++ xs) → OnOk r (now ≡ before ++ ys)
adds_same (Ok u) before now xs ys same h = h ∙ ap (λ zs. before ++ zs) (sym same)
adds_same (Err e) before now xs ys same h = h

pub adds_more : {A E : Type 0} (r : Result (Unit {0}) E) (before mid now xs ys zs : List A) → mid ≡ before ++ xs → zs ≡ xs ++ ys → OnOk r (now ≡ mid ++ ys) → OnOk r (now ≡ before ++ zs)
adds_more (Ok u) before mid now xs ys zs first same h = h ∙ ap (λ ws. ws ++ ys) first ∙ append_assoc before xs ys ∙ ap (λ ws. before ++ ws) (sym same)
adds_more (Err e) before mid now xs ys zs first same h = h
