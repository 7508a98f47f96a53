-- Rows of the graph: a number that is put into a row, and an edge that is added.
use Rattle.std.proofs.Common.{◌≡◌, ◌⊎◌, inl, inr, ℕ, zero, suc, ◌+◌, ◌<◌, ◌≤◌, List, [], ◌∷◌, ◌++◌, length, take, drop, set, Some, slice_get, get_or, refl, sym, ap, subst, ◌∙◌, arith, length-set, Result, Ok, Err}
use Rattle.std.proofs.lemmas.List.{take-append-drop}
use Rattle.std.proofs.lemmas.List.Edits.{get_or-insert_above, get_or-insert_at, get_or-insert_below, length-insert}
use Rattle.std.proofs.lemmas.List.Sorted.{searched}
use Rattle.std.specs.List.Sorted.{IsBinarySearchResult}
use Rattle.std.specs.Ordering.{nat_cmp}
use Rattle.std.specs.Global.{Vec}
use Rattle.std.specs.List.{Contains, insert}
use Rattle.std.specs.Prelude.{OnOk}
use Rattle.vc_plan.specs.declared.port.Port.{Port}
use Rattle.vc_plan.proofs.Members.{In, In-left, In-right, In-cases}
use Rattle.vc_cycles.specs.Private.Graph.{AllRise, Gains, GainEdge, HasEdge, IsRising, port_number, row, items_of}
use Rattle.vc_cycles.proofs.Among.{in_contains, contains_in, read_at}
use Rattle.vc_cycles.proofs.PortNumbers.{number_small}

-- what is put into a list
parts : (xs : List ℕ) (i y : ℕ) → In y xs → In y (take i xs) ⊎ In y (drop i xs)
parts xs i y c = In-cases y (take i xs) (drop i xs) (subst (λ l. In y l) (sym (take-append-drop i xs)) c)

put_keeps : (xs : List ℕ) (i x y : ℕ) → In y (take i xs) ⊎ In y (drop i xs) → In y (take i xs ++ x ∷ drop i xs)
put_keeps xs i x y (inl c) = In-left y (take i xs) (x ∷ drop i xs) c
put_keeps xs i x y (inr c) = In-right y (take i xs) (x ∷ drop i xs) (inr c)

put_only : (xs : List ℕ) (i x y : ℕ) → In y (take i xs) ⊎ In y (x ∷ drop i xs) → In y xs ⊎ (y ≡ x)
put_only xs i x y (inl c) = inl (subst (λ l. In y l) (take-append-drop i xs) (In-left y (take i xs) (drop i xs) c))
put_only xs i x y (inr (inl e)) = inr (sym e)
put_only xs i x y (inr (inr c)) = inl (subst (λ l. In y l) (take-append-drop i xs) (In-right y (take i xs) (drop i xs) c))

contains_or : (xs : List ℕ) (x y : ℕ) → In y xs ⊎ (y ≡ x) → Contains xs y ⊎ (y ≡ x)
contains_or xs x y (inl c) = inl (in_contains y xs c)
contains_or xs x y (inr e) = inr e

compared : (k i : ℕ) → (k ≡ i) ⊎ ((k < i) ⊎ (i < k))
compared k i = grind arith

-- it rises where the number is put between those below it and those above it
rising_insert : (xs : List ℕ) (i x : ℕ) → i ≤ length xs → ((k : ℕ) → k < i → get_or xs k 0 < x) → ((k : ℕ) → i ≤ k → k < length xs → x < get_or xs k 0) → IsRising xs → IsRising (insert xs i x)
rising_insert xs i x le below above up k m lt within = go (compared k i) (compared m i)
  where
    long : length (insert xs i x) ≡ length xs + 1
    long = length-insert xs i x le

    past : (n : ℕ) → i < n → (j : ℕ) × (i ≤ j) × (n ≡ j + 1)
    past zero less = absurd (omega arith)
    past (suc j) less = (j, omega arith, omega arith)

    low : (n : ℕ) → n < i → get_or (insert xs i x) n 0 ≡ get_or xs n 0
    low n less = get_or-insert_below xs i x 0 n less le

    mid : (n : ℕ) → n ≡ i → get_or (insert xs i x) n 0 ≡ x
    mid n same = ap (λ j. get_or (insert xs i x) j 0) same ∙ get_or-insert_at xs i x 0 le

    high : (n j : ℕ) → i ≤ j → n ≡ j + 1 → get_or (insert xs i x) n 0 ≡ get_or xs j 0
    high n j more same = ap (λ a. get_or (insert xs i x) a 0) same ∙ get_or-insert_above xs i x 0 j more le

    go : (k ≡ i) ⊎ ((k < i) ⊎ (i < k)) → (m ≡ i) ⊎ ((m < i) ⊎ (i < m)) → get_or (insert xs i x) k 0 < get_or (insert xs i x) m 0
    go (inr (inl a)) (inr (inl b)) = let p = low k a in let q = low m b in let r = up k m lt (omega arith) in omega (arith, p, q, r)
    go (inr (inl a)) (inl b) = let p = low k a in let q = mid m b in let r = below k a in omega (arith, p, q, r)
    go (inr (inl a)) (inr (inr b)) = let (j, more, same) = past m b in let p = low k a in let q = high m j more same in let r = up k j (omega arith) (omega (arith, long)) in omega (arith, p, q, r)
    go (inl a) (inr (inr b)) = let (j, more, same) = past m b in let p = mid k a in let q = high m j more same in let r = above j more (omega (arith, long)) in omega (arith, p, q, r)
    go (inr (inr a)) (inr (inr b)) =
        let (h, more_h, same_h) = past k a in
        let (j, more, same) = past m b in
        let p = high k h more_h same_h in
        let q = high m j more same in
        let r = up h j (omega arith) (omega (arith, long)) in
        omega (arith, p, q, r)
    go (inl a) (inl b) = absurd (omega arith)
    go (inl a) (inr (inl b)) = absurd (omega arith)
    go (inr (inr a)) (inl b) = absurd (omega arith)
    go (inr (inr a)) (inr (inl b)) = absurd (omega arith)

pub gains_insert : (xs : List ℕ) (i x : ℕ) → IsBinarySearchResult (λ y. nat_cmp y x) xs (Err i) → Gains xs (insert xs i x) x
gains_insert xs i x is = record {
  keeps = λ y c. in_contains y (insert xs i x) (put_keeps xs i x y (parts xs i y (contains_in y xs c)));
  has = in_contains x (insert xs i x) (In-right x (take i xs) (x ∷ drop i xs) (inl refl));
  only = λ y c. contains_or xs x y (put_only xs i x y (In-cases y (take i xs) (x ∷ drop i xs) (contains_in y (insert xs i x) c)));
  rising = λ up. rises up (searched xs x (Err i) is (λ k m le lt. level up k m lt (let c : (k < m) ⊎ (k ≡ m) = grind arith in c)));
}
  where
    level : IsRising xs → (k m : ℕ) → m < length xs → (k < m) ⊎ (k ≡ m) → get_or xs k 0 ≤ get_or xs m 0
    level up k m lt (inl less) = let r = up k m less lt in omega (arith, r)
    level up k m lt (inr same) = let e = ap (λ n. get_or xs n 0) same in omega (arith, e)

    rises : IsRising xs → (i ≤ length xs) × ((k : ℕ) → k < i → get_or xs k 0 < x) × ((k : ℕ) → i ≤ k → k < length xs → x < get_or xs k 0) → IsRising (insert xs i x)
    rises up (le, below, above) = rising_insert xs i x le below above up

row_set_same : (rs : List (Vec ℕ)) (i : ℕ) (v : Vec ℕ) → i < length rs → row (set rs i v) i ≡ v.items
row_set_same [] i v lt = absurd (omega arith)
row_set_same (r ∷ rs) zero v lt = refl
row_set_same (r ∷ rs) (suc i) v lt = row_set_same rs i v (omega arith)

row_set_other : (rs : List (Vec ℕ)) (i k : ℕ) (v : Vec ℕ) → (k < i) ⊎ (i < k) → row (set rs i v) k ≡ row rs k
row_set_other [] i k v ne = refl
row_set_other (r ∷ rs) zero zero v (inl lt) = absurd (omega arith)
row_set_other (r ∷ rs) zero zero v (inr lt) = absurd (omega arith)
row_set_other (r ∷ rs) zero (suc k) v ne = refl
row_set_other (r ∷ rs) (suc i) zero v ne = refl
row_set_other (r ∷ rs) (suc i) (suc k) v (inl lt) = row_set_other rs i k v (inl (omega arith))
row_set_other (r ∷ rs) (suc i) (suc k) v (inr lt) = row_set_other rs i k v (inr (omega arith))

pub row_is : (rs : List (Vec ℕ)) (i : ℕ) (v : Vec ℕ) → slice_get rs i ≡ Some v → row rs i ≡ v.items
row_is rs i v e = ap items_of e

same_number : (p : Port) (i k : ℕ) → port_number p ≡ Some i → port_number p ≡ Some k → i ≡ k
same_number p i k a b = let e : Some i ≡ Some k = sym a ∙ b in cc

-- an edge
pub edge_set : (rs : List (Vec ℕ)) (i j : ℕ) (a b : Port) (v : Vec ℕ) → port_number a ≡ Some i → port_number b ≡ Some j → i < length rs → Gains (row rs i) v.items j → GainEdge rs (set rs i v) a b
edge_set rs i j a b v na nb lt g = record {
  many = length-set rs i v;
  keeps = λ k l c. keeps k l c (compared k i);
  has = λ k l ka lb. has k l (same_number a i k na ka) (same_number b j l nb lb);
  only = λ k l c. only k l c (compared k i);
  rising = λ up k. rises up k (compared k i);
}
  where
    rises : AllRise rs → (k : ℕ) → (k ≡ i) ⊎ ((k < i) ⊎ (i < k)) → IsRising (row (set rs i v) k)
    rises up k (inl e) = subst (λ m. IsRising (row (set rs i v) m)) (sym e) (subst IsRising (sym (row_set_same rs i v lt)) (g.rising (up i)))
    rises up k (inr ne) = subst IsRising (sym (row_set_other rs i k v ne)) (up k)

    keeps : (k l : ℕ) → HasEdge rs k l → (k ≡ i) ⊎ ((k < i) ⊎ (i < k)) → HasEdge (set rs i v) k l
    keeps k l c (inl e) = subst (λ m. HasEdge (set rs i v) m l) (sym e) (subst (λ xs. Contains xs l) (sym (row_set_same rs i v lt)) (g.keeps l (subst (λ m. HasEdge rs m l) e c)))
    keeps k l c (inr ne) = subst (λ xs. Contains xs l) (sym (row_set_other rs i k v ne)) c

    has : (k l : ℕ) → i ≡ k → j ≡ l → HasEdge (set rs i v) k l
    has k l e f = subst (λ m. HasEdge (set rs i v) m l) e (subst (λ m. HasEdge (set rs i v) i m) f (subst (λ xs. Contains xs j) (sym (row_set_same rs i v lt)) g.has))

    new : (l : ℕ) → Contains (row rs i) l ⊎ (l ≡ j) → HasEdge rs i l ⊎ ((port_number a ≡ Some i) × (port_number b ≡ Some l))
    new l (inl c) = inl c
    new l (inr e) = inr (na, nb ∙ ap (λ z. Some z) (sym e))

    only : (k l : ℕ) → HasEdge (set rs i v) k l → (k ≡ i) ⊎ ((k < i) ⊎ (i < k)) → HasEdge rs k l ⊎ ((port_number a ≡ Some k) × (port_number b ≡ Some l))
    only k l c (inl e) =
        subst (λ m. HasEdge rs m l ⊎ ((port_number a ≡ Some m) × (port_number b ≡ Some l))) (sym e)
        (new l (g.only l (subst (λ xs. Contains xs l) (row_set_same rs i v lt) (subst (λ m. HasEdge (set rs i v) m l) e c))))
    only k l c (inr ne) = inl (subst (λ xs. Contains xs l) (row_set_other rs i k v ne) c)

-- the row that is changed is that of a port
pub edge_put : (rs : List (Vec ℕ)) (i k j : ℕ) (a b : Port) (old v : Vec ℕ) → Some k ≡ port_number a → Some j ≡ port_number b → i ≡ k → length rs ≡ 1024 → old ≡ get_or rs i old → Gains old.items v.items j →
    GainEdge rs (set rs i v) a b
edge_put rs i k j a b old v na nb same many is g =
    let here : port_number a ≡ Some i = sym na ∙ ap (λ z. Some z) (sym same) in
    let small = number_small a i here in
    let lt : i < length rs = omega (arith, small, many) in
    edge_set rs i j a b v here (sym nb) lt (subst (λ xs. Gains xs v.items j) (sym (row_is rs i old (read_at rs i old lt is))) g)

pub on_ok : {T E : Type 0} {P Q : Type 0} (r : Result T E) → (P → Q) → OnOk r P → OnOk r Q
on_ok (Ok x) f p = f p
on_ok (Err e) f p = tt
