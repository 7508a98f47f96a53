-- The moves that take a guard of an ALT.
use Rattle.std.proofs.Common.{◌≡◌, ◌↔◌, ℕ, suc, ◌+◌, ◌<◌, ◌≤◌, Bool, true, false, refl, ap, sym, subst, List, [], ◌∷◌, ◌++◌, map, length, get_or, drop, arith, Some, inl, inr, if◌then◌else◌, add-one}
use Rattle.std.proofs.lemmas.Bool.Decides.{nat_tests}
use Rattle.std.proofs.lemmas.List.Elements.{Contains-append_left, Contains-append_right, Contains-append_cases}
use Rattle.std.specs.List.{Contains}
use Rattle.std.specs.Prelude.{nat_le, slice_get}
use Rattle.vc_occam.specs.declared.frame.Frame.{Frame}
use Rattle.vc_occam.specs.declared.frame.Guard.{Guard}
use Rattle.vc_occam.specs.declared.moves.Move.{Move}
use Rattle.vc_occam.specs.declared.moves.Move.TheVariants.{Choose}
use Rattle.vc_process.specs.Syntax.{Guards, no_guards, guard}
use Rattle.vc_process.specs.Values.{Store, holds}
use Rattle.vc_occam.specs.First.{all_decided, choices, is_true}
use Rattle.vc_occam.specs.Frames.{View, guards_of}
use Rattle.vc_occam.specs.MoveSites.{from_site, site_of}
use Rattle.vc_occam.specs.Private.Frames.{choice_of, moves_of, seen_guard}
use Rattle.vc_process.proofs.Lists.{none, only}
use Rattle.vc_process.proofs.Walks.{drop_at}

-- the moves of guards from one on
drop_guard : (xs : List (Guard Frame)) (i k : ℕ) (x : Guard Frame) (e : Store) → k < length xs → x ≡ get_or xs k x →
    choices i k (guards_of (map seen_guard (drop k xs))) e ≡ choice_of i k (seen_guard x) e ++ choices i (suc k) (guards_of (map seen_guard (drop (k + 1) xs))) e
drop_guard xs i k x e l h = ap (λ (gs : List (Guard View)). choices i k (guards_of gs) e) (drop_at seen_guard k xs x l h)

-- a guard that the move takes, and one that it doesn't
pub taken : (xs : List (Guard Frame)) (i k : ℕ) (x : Guard Frame) (e : Store) (m : Move) (all : List Move) → k < length xs → x ≡ get_or xs k x → Contains (choice_of i k (seen_guard x) e) m →
    (Contains all m ↔ Contains (choices i k (guards_of (map seen_guard (drop k xs))) e) m) → Contains all m
taken xs i k x e m all l h t (f, g) =
    g (subst (λ ms. Contains ms m) (sym (drop_guard xs i k x e l h)) (Contains-append_left (choice_of i k (seen_guard x) e) (choices i (suc k) (guards_of (map seen_guard (drop (k + 1) xs))) e) m t))

one_less : (all one rest : List Move) (m : Move) → (Contains one m → ⊥) → (Contains all m ↔ Contains (one ++ rest) m) → Contains all m ↔ Contains rest m
one_less all one rest m h (f, g) = (
  λ k. elim (Contains-append_cases one rest m (f k)) [ inl q ↦ absurd (h q) | inr q ↦ q ],
  λ k. g (Contains-append_right one rest m k),
)

pub not_taken : (xs : List (Guard Frame)) (i k : ℕ) (x : Guard Frame) (e : Store) (m : Move) (all : List Move) → k < length xs → x ≡ get_or xs k x → (Contains (choice_of i k (seen_guard x) e) m → ⊥) →
    (Contains all m ↔ Contains (choices i k (guards_of (map seen_guard (drop k xs))) e) m) → Contains all m ↔ Contains (choices i (k + 1) (guards_of (map seen_guard (drop (k + 1) xs))) e) m
not_taken xs i k x e m all l h t f =
    let gs = guards_of (map seen_guard (drop (k + 1) xs)) in
    subst (λ n. Contains all m ↔ Contains (choices i n gs e) m) (sym (add-one k))
    (one_less all (choice_of i k (seen_guard x) e) (choices i (suc k) gs e) m t (subst (λ ms. Contains all m ↔ Contains ms m) (drop_guard xs i k x e l h) f))

-- where no condition is a fault, these are the moves of the ALT
pub decided_moves : (i : ℕ) (gs : List (Guard View)) (e : Store) → all_decided (guards_of gs) e ≡ true → moves_of i gs e ≡ choices i 0 (guards_of gs) e
decided_moves i gs e h = ap (λ b. if b then choices i 0 (guards_of gs) e else []) h

-- each is at the site of the ALT
pub choices_at : (i k : ℕ) (gs : Guards) (e : Store) (m : Move) → Contains (choices i k gs e) m → site_of m ≡ i
choices_at i k no_guards e m h = absurd (none m h)
choices_at i k (guard b c v p gs) e m h = elim (Contains-append_cases (if is_true (holds b e) then (Choose i k c ∷ []) else []) (choices i (suc k) gs e) m h) [
  | inl q ↦ one (is_true (holds b e)) q
  | inr q ↦ choices_at i (suc k) gs e m q
]
  where
    one : (t : Bool) → Contains (if t then (Choose i k c ∷ []) else []) m → site_of m ≡ i
    one true q = let e : Choose i k c ≡ m = only (Choose i k c) m q in ap site_of (sym e)
    one false q = absurd (none m q)

pub moves_at : (i : ℕ) (gs : Guards) (e : Store) (m : Move) → Contains (if all_decided gs e then choices i 0 gs e else []) m → site_of m ≡ i
moves_at i gs e m h = on (all_decided gs e) h
  where
    on : (b : Bool) → Contains (if b then choices i 0 gs e else []) m → site_of m ≡ i
    on true q = choices_at i 0 gs e m q
    on false q = absurd (none m q)

-- so the first one from a site on is the first one, where the ALT's site is not before
choices_first : (j i k : ℕ) (gs : Guards) (e : Store) → j ≤ i → from_site j (choices i k gs e) ≡ slice_get (choices i k gs e) 0
choices_first j i k no_guards e l = refl
choices_first j i k (guard b c v p gs) e l = one (is_true (holds b e)) (choices_first j i (suc k) gs e l)
  where
    one : (t : Bool) → from_site j (choices i (suc k) gs e) ≡ slice_get (choices i (suc k) gs e) 0 →
        from_site j ((if t then (Choose i k c ∷ []) else []) ++ choices i (suc k) gs e) ≡ slice_get ((if t then (Choose i k c ∷ []) else []) ++ choices i (suc k) gs e) 0
    one true q = let on : nat_le j i ≡ true = grind (arith, nat_tests) in ap (λ b. if b then Some (Choose i k c) else from_site j (choices i (suc k) gs e)) on
    one false q = q

pub moves_first : (j i : ℕ) (gs : List (Guard View)) (e : Store) → j ≤ i → from_site j (moves_of i gs e) ≡ slice_get (moves_of i gs e) 0
moves_first j i gs e l = on (all_decided (guards_of gs) e)
  where
    on : (b : Bool) → from_site j (if b then choices i 0 (guards_of gs) e else []) ≡ slice_get (if b then choices i 0 (guards_of gs) e else []) 0
    on true = choices_first j i 0 (guards_of gs) e l
    on false = refl
