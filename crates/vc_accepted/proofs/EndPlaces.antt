-- Where each of a node's ends stands in the plan.
use Rattle.std.proofs.Common.{◌≡◌, ℕ, zero, suc, ◌+◌, Bool, true, false, ◌==◌, List, [], ◌∷◌, slice_get, Option, Some, refl, sym, ap, subst, ◌∙◌, arith, if◌then◌else◌, eqb-true}
use Rattle.std.proofs.lemmas.Option.{same_Some}
use Rattle.vc_plan.specs.declared.vlink.Vlink.{Vlink}
use Rattle.vc_plan.specs.Accepted.{end_of}
use Rattle.vc_vcp.specs.declared.end.End.{End as Given}
use Rattle.vc_accepted.specs.NodeEnds.{end_given, with_end, ends_among}

-- no two different places of the list have elements so related
abbrev pub Once : (Given → Given → Type 0) → List Given → Type 0
Once R es = (i j : ℕ) (d e : Given) → slice_get es i ≡ Some d → slice_get es j ≡ Some e → R d e → i ≡ j

-- the end given is end a, or end b, of one of these virtual links, which are numbered from k on
pub record IsOf (on : ℕ → Bool → Option ℕ) (n k : ℕ) (vs : List Vlink) (g : Given) : Type 0 where
  pub at : ℕ
  pub vlink : Vlink
  pub is_a : Bool
  pub there : slice_get vs at ≡ Some vlink
  pub here : (end_of vlink is_a).node ≡ n
  pub is : g ≡ end_given on (k + at) vlink is_a

-- each of a list with an end in front: it is that end, or of the rest
with_each : (on : ℕ → Bool → Option ℕ) (n v : ℕ) (x : Vlink) (a : Bool) (rest : List Given) (P : Given → Type 0) →
    ((end_of x a).node ≡ n → P (end_given on v x a)) → ((j : ℕ) (g : Given) → slice_get rest j ≡ Some g → P g) → (i : ℕ) (g : Given) → slice_get (with_end on n v x a rest) i ≡ Some g → P g
with_each on n v x a rest P first more i g e = by_test ((end_of x a).node == n) refl i e
  where
    by_test : (b : Bool) → ((end_of x a).node == n) ≡ b → (i : ℕ) → slice_get (if b then end_given on v x a ∷ rest else rest) i ≡ Some g → P g
    by_test true t zero e = subst P (same_Some (end_given on v x a) g e) (first (eqb-true (end_of x a).node n t))
    by_test true t (suc i) e = more i g e
    by_test false t i e = more i g e

later : (on : ℕ → Bool → Option ℕ) (n k : ℕ) (x : Vlink) (xs : List Vlink) (g : Given) → IsOf on n (suc k) xs g → IsOf on n k (x ∷ xs) g
later on n k x xs g o =
    let same : suc k + o.at ≡ k + suc o.at = omega arith in
    record { at = suc o.at; vlink = o.vlink; is_a = o.is_a; there = o.there; here = o.here; is = o.is ∙ ap (λ z. end_given on z o.vlink o.is_a) same }

front : (on : ℕ → Bool → Option ℕ) (n k : ℕ) (x : Vlink) (xs : List Vlink) (a : Bool) → (end_of x a).node ≡ n → IsOf on n k (x ∷ xs) (end_given on k x a)
front on n k x xs a h =
    let same : k ≡ k + 0 = omega arith in
    record { at = 0; vlink = x; is_a = a; there = refl; here = h; is = ap (λ z. end_given on z x a) same }

pub each_of : (on : ℕ → Bool → Option ℕ) (n k : ℕ) (vs : List Vlink) (i : ℕ) (g : Given) → slice_get (ends_among on n k vs) i ≡ Some g → IsOf on n k vs g
each_of on n k [] i g e = absurd (cc)
each_of on n k (x ∷ xs) i g e =
    let rest = ends_among on n (suc k) xs in
    with_each on n k x true (with_end on n k x false rest) (IsOf on n k (x ∷ xs)) (front on n k x xs true)
    (with_each on n k x false rest (IsOf on n k (x ∷ xs)) (front on n k x xs false) (λ j h f. later on n k x xs h (each_of on n (suc k) xs j h f))) i g e

once_cons : (R : Given → Given → Type 0) → ((d e : Given) → R d e → R e d) → (g : Given) (es : List Given) →
    ((j : ℕ) (e : Given) → slice_get es j ≡ Some e → R g e → ⊥) → Once R es → Once R (g ∷ es)
once_cons R turn g es apart once zero zero d e p q r = refl
once_cons R turn g es apart once zero (suc j) d e p q r = absurd (apart j e q (subst (λ z. R z e) (sym (same_Some g d p)) r))
once_cons R turn g es apart once (suc i) zero d e p q r = absurd (apart i d p (subst (λ z. R z d) (sym (same_Some g e q)) (turn d e r)))
once_cons R turn g es apart once (suc i) (suc j) d e p q r = ap suc (once i j d e p q r)

-- ends so related are one end of one virtual link
abbrev pub Tells : (Given → Given → Type 0) → (ℕ → Bool → Option ℕ) → ℕ → ℕ → List Vlink → Type 0
Tells R on n k vs = (i j : ℕ) (x y : Vlink) (a b : Bool) → slice_get vs i ≡ Some x → slice_get vs j ≡ Some y → (end_of x a).node ≡ n → (end_of y b).node ≡ n →
    R (end_given on (k + i) x a) (end_given on (k + j) y b) → (i ≡ j) × (a ≡ b)

once_with : (R : Given → Given → Type 0) → ((d e : Given) → R d e → R e d) → (on : ℕ → Bool → Option ℕ) (n v : ℕ) (x : Vlink) (a : Bool) (rest : List Given) →
    ((end_of x a).node ≡ n → (j : ℕ) (e : Given) → slice_get rest j ≡ Some e → R (end_given on v x a) e → ⊥) → Once R rest → Once R (with_end on n v x a rest)
once_with R turn on n v x a rest apart once = by_test ((end_of x a).node == n) refl
  where
    by_test : (b : Bool) → ((end_of x a).node == n) ≡ b → Once R (if b then end_given on v x a ∷ rest else rest)
    by_test true t = once_cons R turn (end_given on v x a) rest (apart (eqb-true (end_of x a).node n t)) once
    by_test false t = once

pub once : (R : Given → Given → Type 0) → ((d e : Given) → R d e → R e d) → (on : ℕ → Bool → Option ℕ) (n k : ℕ) (vs : List Vlink) → Tells R on n k vs → Once R (ends_among on n k vs)
once R turn on n k [] tells = λ i j d e p q r. absurd (cc)
once R turn on n k (x ∷ xs) tells =
    once_with R turn on n k x true (with_end on n k x false rest) before_all (once_with R turn on n k x false rest (before_rest false) (once R turn on n (suc k) xs more))
  where
    rest : List Given
    rest = ends_among on n (suc k) xs

    -- ends of the first virtual link and of a later one
    apart : (a : Bool) → (end_of x a).node ≡ n → (e : Given) → IsOf on n (suc k) xs e → R (end_given on k x a) e → ⊥
    apart a h e o r =
        let here : k ≡ k + 0 = omega arith in
        let there : suc k + o.at ≡ k + suc o.at = omega arith in
        let r' = subst (λ z. R (end_given on z x a) e) here r in
        let r'' = subst (λ z. R (end_given on (k + 0) x a) z) (o.is ∙ ap (λ z. end_given on z o.vlink o.is_a) there) r' in
        let t = (tells 0 (suc o.at) x o.vlink a o.is_a refl o.there h o.here r'').0 in
        omega arith

    before_rest : (a : Bool) → (end_of x a).node ≡ n → (j : ℕ) (e : Given) → slice_get rest j ≡ Some e → R (end_given on k x a) e → ⊥
    before_rest a h j e f r = apart a h e (each_of on n (suc k) xs j e f) r

    other : (end_of x true).node ≡ n → (end_of x false).node ≡ n → R (end_given on k x true) (end_given on k x false) → ⊥
    other h g r =
        let here : k ≡ k + 0 = omega arith in
        let t = (tells 0 0 x x true false refl refl h g (subst (λ z. R (end_given on z x true) (end_given on z x false)) here r)).1 in
        absurd (cc)

    before_all : (end_of x true).node ≡ n → (j : ℕ) (e : Given) → slice_get (with_end on n k x false rest) j ≡ Some e → R (end_given on k x true) e → ⊥
    before_all h = with_each on n k x false rest (λ e. R (end_given on k x true) e → ⊥) (other h) (before_rest true h)

    more : Tells R on n (suc k) xs
    more i j y z a b p q h g r =
        let e : suc k + i ≡ k + suc i = omega arith in
        let f : suc k + j ≡ k + suc j = omega arith in
        let r' = subst (λ u. R (end_given on u y a) (end_given on (suc k + j) z b)) e r in
        let t = tells (suc i) (suc j) y z a b p q h g (subst (λ u. R (end_given on (k + suc i) y a) (end_given on u z b)) f r') in
        ((let s = t.0 in omega arith), t.1)
