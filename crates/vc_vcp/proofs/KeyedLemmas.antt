-- A change of one element of a list of named elements is a change at its name.
use Rattle.std.proofs.Common.{◌≡◌, ℕ, zero, suc, Bool, true, false, List, [], ◌∷◌, refl, sym, ap, subst, ◌∙◌, arith, slice_get, slice_set, get_or, drop, length, ◌<◌, ◌==◌, nat_lt, if◌then◌else◌, Option, Some, None, inl, inr, eq-eqb}
use Rattle.std.specs.Prelude.{MatchOption}
use Rattle.std.specs.List.{find, position, position_or_len}
use Rattle.std.proofs.lemmas.Bool.{cases_eq, ne_eqb}
use Rattle.std.proofs.lemmas.Bool.Decides.{nat_tests}
use Rattle.std.proofs.Math.Seq.{drop-cons}
use Rattle.std.proofs.lemmas.List.Folds.{find_at}
use Rattle.std.proofs.lemmas.Option.{slice_get-get_or, slice_get_past}
use mathlib.Core.Path.{fun_ext}
use Rattle.vc_packets.specs.Functions.{put, shown_or}
use Rattle.vc_vcp.specs.Names.{named, NamesDiffer, by_name}

tail_differs : {X : Type 0} (name : X → ℕ) (x : X) (xs : List X) → NamesDiffer name (x ∷ xs) → NamesDiffer name xs
tail_differs name x xs h i j y z a b e = let k = h (suc i) (suc j) y z a b e in omega arith

-- the first one has another name than those behind it
head_differs : {X : Type 0} (name : X → ℕ) (x : X) (xs : List X) → NamesDiffer name (x ∷ xs) → (i : ℕ) (y : X) → slice_get xs i ≡ Some y → name x ≡ name y → ⊥
head_differs name x xs h i y a e = let k = h zero (suc i) x y refl a e in absurd (omega arith)

pub named_by : {X : Type 0} (name : X → ℕ) (x : X) (xs : List X) (k : ℕ) (b : Bool) → (name x == k) ≡ b → named name k (x ∷ xs) ≡ (if b then Some x else named name k xs)
named_by name x xs k b e = ap (λ t. if t then Some x else named name k xs) e

pub named_at : {X : Type 0} (name : X → ℕ) (xs : List X) (i : ℕ) (x : X) → NamesDiffer name xs → slice_get xs i ≡ Some x → named name (name x) xs ≡ Some x
named_at name [] i x h e = absurd (cc)
named_at name (y ∷ ys) zero x h e =
    let same : y ≡ x = cc in
    named_by name y ys (name x) true (eq-eqb (name y) (name x) (ap name same)) ∙ ap Some same
named_at name (y ∷ ys) (suc i) x h e =
    named_by name y ys (name x) false (ne_eqb (name y) (name x) (head_differs name y ys h i x e)) ∙ named_at name ys i x (tail_differs name y ys h) e

-- behind a write of an element with the same name, that one is found by the name, and all others are as before
pub named-set_same : {X : Type 0} (name : X → ℕ) (xs : List X) (i : ℕ) (x y : X) → NamesDiffer name xs → slice_get xs i ≡ Some x → name y ≡ name x → named name (name x) (slice_set xs i y) ≡ Some y
named-set_same name [] i x y h e same = absurd (cc)
named-set_same name (z ∷ zs) zero x y h e same = named_by name y zs (name x) true (eq-eqb (name y) (name x) same)
named-set_same name (z ∷ zs) (suc i) x y h e same =
    named_by name z (slice_set zs i y) (name x) false (ne_eqb (name z) (name x) (head_differs name z zs h i x e)) ∙ named-set_same name zs i x y (tail_differs name z zs h) e same

pub named-set_other : {X : Type 0} (name : X → ℕ) (xs : List X) (i : ℕ) (x y : X) (k : ℕ) → slice_get xs i ≡ Some x → name y ≡ name x → (name x ≡ k → ⊥) → named name k (slice_set xs i y) ≡ named name k xs
named-set_other name [] i x y k e same other = refl
named-set_other name (z ∷ zs) zero x y k e same other =
    let is : z ≡ x = cc in
    named_by name y zs k false (ne_eqb (name y) k (λ q. other (sym same ∙ q)))
    ∙ sym (named_by name z zs k false (ne_eqb (name z) k (λ q. other (sym (ap name is) ∙ q))))
named-set_other name (z ∷ zs) (suc i) x y k e same other =
    let rest = named-set_other name zs i x y k e same other in
    ap (λ r. if name z == k then Some z else r) rest

pub by_name-set : {X Y : Type 0} (name : X → ℕ) (show : X → Y) (d : Y) (xs : List X) (i : ℕ) (x y : X) → NamesDiffer name xs → slice_get xs i ≡ Some x → name y ≡ name x →
    by_name name show d (slice_set xs i y) ≡ put (by_name name show d xs) (name x) (show y)
by_name-set name show d xs i x y h e same = fun_ext (λ k. elim (cases_eq k (name x)) [
  | inl q ↦ ap (λ t. by_name name show d (slice_set xs i y) t) q
      ∙ ap (shown_or d show) (named-set_same name xs i x y h e same)
      ∙ sym (ap (λ t. if t then show y else by_name name show d xs k) (eq-eqb k (name x) q))
  | inr ne ↦ ap (shown_or d show) (named-set_other name xs i x y k e same (λ q. ne (sym q)))
      ∙ sym (ap (λ t. if t then show y else by_name name show d xs k) (ne_eqb k (name x) ne))
])

-- an element that shows the same
pub by_name-kept : {X Y : Type 0} (name : X → ℕ) (show : X → Y) (d : Y) (xs : List X) (i : ℕ) (x y : X) → NamesDiffer name xs → slice_get xs i ≡ Some x → name y ≡ name x → show y ≡ show x →
    by_name name show d (slice_set xs i y) ≡ by_name name show d xs
by_name-kept name show d xs i x y h e same shows = fun_ext (λ k. elim (cases_eq k (name x)) [
  | inl q ↦ ap (λ t. by_name name show d (slice_set xs i y) t) q ∙ ap (shown_or d show) (named-set_same name xs i x y h e same) ∙ shows
      ∙ sym (ap (λ t. by_name name show d xs t) q ∙ ap (shown_or d show) (named_at name xs i x h e))
  | inr ne ↦ ap (shown_or d show) (named-set_other name xs i x y k e same (λ q. ne (sym q)))
])

pub by_name-at : {X Y : Type 0} (name : X → ℕ) (show : X → Y) (d : Y) (xs : List X) (i : ℕ) (x : X) → NamesDiffer name xs → slice_get xs i ≡ Some x → by_name name show d xs (name x) ≡ show x
by_name-at name show d xs i x h e = ap (shown_or d show) (named_at name xs i x h e)

-- the first element of the name is the one that is found
first_named : {X : Type 0} (name : X → ℕ) (k : ℕ) (xs : List X) → named name k xs ≡ find (λ x. name x == k) xs
first_named name k [] = refl
first_named name k (x ∷ xs) = ap (λ r. if name x == k then Some x else r) (first_named name k xs)

pub first_finds : {X : Type 0} (name : X → ℕ) (k : ℕ) (xs : List X) (found : Option ℕ) → found ≡ position (λ x. name x == k) xs → MatchOption found (named name k xs ≡ None) (λ i. slice_get xs i ≡ named name k xs)
first_finds name k xs found is = subst Finds (sym is) (go (nat_lt n (length xs)) refl)
  where
    n : ℕ
    n = position_or_len (λ x. name x == k) xs

    there : named name k xs ≡ slice_get xs n
    there = first_named name k xs ∙ find_at (λ x. name x == k) xs

    Finds : Option ℕ → Type 0
    Finds o = MatchOption o (named name k xs ≡ None) (λ i. slice_get xs i ≡ named name k xs)

    go : (b : Bool) → nat_lt n (length xs) ≡ b → Finds (if b then Some n else None)
    go true h = sym there
    go false h = there ∙ slice_get_past xs n (grind (arith, nat_tests))

-- a search that has passed i elements, and finds the name there
pub found_at : {X : Type 0} (name : X → ℕ) (k : ℕ) (xs : List X) (i : ℕ) (x : X) → i < length xs → x ≡ get_or xs i x → name x ≡ k → named name k (drop i xs) ≡ named name k xs → slice_get xs i ≡ named name k xs
found_at name k xs i x less is e passed =
    let there : name (get_or xs i x) ≡ k = ap name (sym is) ∙ e in
    slice_get-get_or xs i x less
    ∙ sym (named_by name (get_or xs i x) (drop (suc i) xs) k true (eq-eqb (name (get_or xs i x)) k there))
    ∙ ap (named name k) (sym (drop-cons xs i x less))
    ∙ passed

-- an element of the name, wherever it stands, is the one that is found
pub likely_at : {X : Type 0} (name : X → ℕ) (k : ℕ) (xs : List X) (i : ℕ) (x : X) → NamesDiffer name xs → i < length xs → name (get_or xs i x) ≡ k → slice_get xs i ≡ named name k xs
likely_at name k xs i x differ less e =
    let there = slice_get-get_or xs i x less in
    there ∙ sym (named_at name xs i (get_or xs i x) differ there) ∙ ap (λ m. named name m xs) e

-- what a name finds has that name
pub named_has : {X : Type 0} (name : X → ℕ) (k : ℕ) (xs : List X) (x : X) → named name k xs ≡ Some x → name x ≡ k
named_has name k [] x e = absurd (cc)
named_has name k (y ∷ ys) x e = elim (cases_eq (name y) k) [
  | inl q ↦ (let f : Some y ≡ Some x = sym (named_by name y ys k true (eq-eqb (name y) k q)) ∙ e in let g : y ≡ x = cc in sym (ap name g) ∙ q)
  | inr ne ↦ named_has name k ys x (sym (named_by name y ys k false (ne_eqb (name y) k ne)) ∙ e)
]
