-- The traces of many processes are one trace of a PAR of them.
use Rattle.std.proofs.Common.{◌≡◌, ℕ, zero, suc, ◌+◌, ◌≤◌, ◌<◌, Bool, true, false, ◌==◌, nat_le, refl, sym, ap, subst, ◌∙◌, List, [], ◌∷◌, inl, inr, arith, eq-eqb, ne_eqb, le-leb, if◌then◌else◌}
use Rattle.std.proofs.lemmas.Bool.{cases_eq, cases_lt, lt-leb}
use Rattle.vc_placement.specs.Linearization.{Atomic, Exchange, Stop, all_comms, AreFaithful}
use Rattle.vc_occam.specs.NodeTraces.{Meets}
use Rattle.vc_accepted.specs.OneList.{by}
use Rattle.vc_placement.specs.Parallel.{parts_of, without_nodes, IsEnded, AllIsOneTrace}
use Rattle.vc_process.specs.Syntax.{Proc}
use Rattle.vc_occam.specs.Traces.{Comm, End, Ended, Merge, neither, from_left, from_right, join, both_ended, Trace, par, TracePar, par_end, par_more}
use Rattle.vc_process.specs.Usage.{Set, changes}
use Rattle.vc_process.specs.Values.{Store}

-- what the nodes from the n-th on make
abbrev pub from : ℕ → List (ℕ × Comm) → List Comm
from n [] = []
from n ((m, k) ∷ ks) = if nat_le n m then k ∷ from n ks else from n ks

-- one node, and those behind it
abbrev pub Joined : ℕ → List (ℕ × Comm) → Type 0
Joined n ks = Merge (by n ks) (from (suc n) ks) (from n ks)

this_one : (k : Comm) (l m u : List Comm) (a b c : Bool) → a ≡ true → b ≡ false → c ≡ true → Merge l m u → Merge (if a then k ∷ l else l) (if b then k ∷ m else m) (if c then k ∷ u else u)
this_one k l m u true false true p q r h = from_left h
this_one k l m u true false false p q r h = absurd (cc)
this_one k l m u true true c p q r h = absurd (cc)
this_one k l m u false b c p q r h = absurd (cc)

later_one : (k : Comm) (l m u : List Comm) (a b c : Bool) → a ≡ false → b ≡ true → c ≡ true → Merge l m u → Merge (if a then k ∷ l else l) (if b then k ∷ m else m) (if c then k ∷ u else u)
later_one k l m u false true true p q r h = from_right h
later_one k l m u false true false p q r h = absurd (cc)
later_one k l m u false false c p q r h = absurd (cc)
later_one k l m u true b c p q r h = absurd (cc)

earlier_one : (k : Comm) (l m u : List Comm) (a b c : Bool) → a ≡ false → b ≡ false → c ≡ false → Merge l m u → Merge (if a then k ∷ l else l) (if b then k ∷ m else m) (if c then k ∷ u else u)
earlier_one k l m u false false false p q r h = h
earlier_one k l m u false false true p q r h = absurd (cc)
earlier_one k l m u false true c p q r h = absurd (cc)
earlier_one k l m u true b c p q r h = absurd (cc)

pub joined : (n : ℕ) (ks : List (ℕ × Comm)) → Joined n ks
joined n [] = neither
joined n ((m, k) ∷ ks) = elim (cases_eq m n) [
  | inl e ↦ this_one k (by n ks) (from (suc n) ks) (from n ks) (m == n) (nat_le (suc n) m) (nat_le n m) (eq-eqb m n e) (lt-leb (suc n) m (omega arith)) (le-leb n m (omega arith)) (joined n ks)
  | inr e ↦ elim (cases_lt m n) [
    | inl b ↦ earlier_one k (by n ks) (from (suc n) ks) (from n ks) (m == n) (nat_le (suc n) m) (nat_le n m) (ne_eqb m n e) (lt-leb (suc n) m (omega arith)) (lt-leb n m (omega arith)) (joined n ks)
    | inr b ↦ later_one k (by n ks) (from (suc n) ks) (from n ks) (m == n) (nat_le (suc n) m) (nat_le n m) (ne_eqb m n e) (le-leb (suc n) m (omega (arith, e))) (le-leb n m b) (joined n ks)
  ]
]

pub from_first : (ks : List (ℕ × Comm)) → from 0 ks ≡ without_nodes ks
from_first [] = refl
from_first ((m, k) ∷ ks) = ap (λ b. if b then k ∷ from 0 ks else from 0 ks) (le-leb 0 m (omega arith)) ∙ ap (λ z. k ∷ z) (from_first ks)

-- past the last node there is nothing
pub from_none : (n : ℕ) (ks : List (ℕ × Comm)) → ((m : ℕ) → n ≤ m → by m ks ≡ []) → from n ks ≡ []
from_none n [] h = refl
from_none n ((m, k) ∷ ks) h = elim (cases_lt m n) [
  | inl b ↦ ap (λ a. if a then k ∷ from n ks else from n ks) (lt-leb n m (omega arith)) ∙ from_none n ks (λ j g. tail j (m == j) (h j g))
  | inr b ↦ absurd (let e : k ∷ by m ks ≡ [] = subst (λ a. (if a then k ∷ by m ks else by m ks) ≡ []) (eq-eqb m m refl) (h m b) in cc)
]
  where
    tail : (j : ℕ) (a : Bool) → (if a then k ∷ by j ks else by j ks) ≡ [] → by j ks ≡ []
    tail j true e = absurd (cc)
    tail j false e = e

pub both : (mine : Set) (x y : End) → IsEnded x → IsEnded y → IsEnded (both_ended mine x y)
both mine x y h k = (join mine h.0 k.0, ap (λ z. both_ended mine z y) h.1 ∙ ap (λ z. both_ended mine (Ended h.0) z) k.1)

record Along (proc : ℕ → Proc) (store : Store) (end : ℕ → End) (ks : List (ℕ × Comm)) (n count : ℕ) : Type 0 where
  pub end_of_all : End
  pub trace : TracePar (parts_of proc n count) store (from n ks) end_of_all
  pub ended : ((m : ℕ) → m < n + count → IsEnded (end m)) → IsEnded end_of_all

along : (proc : ℕ → Proc) (store : Store) (end : ℕ → End) (ks : List (ℕ × Comm)) (n count : ℕ) → ((m : ℕ) → m < n + count → Trace (proc m) store (by m ks) (end m)) → ((m : ℕ) → n + count ≤ m → by m ks ≡ []) → Along proc store end ks n count
along proc store end ks n zero h z = record {
  end_of_all = Ended store;
  trace = subst (λ l. TracePar (parts_of proc n zero) store l (Ended store)) (sym (from_none n ks (λ m g. z m (omega arith)))) par_end;
  ended = λ f. (store, refl);
}
along proc store end ks n (suc count) h z =
    let r = along proc store end ks (suc n) count (λ m g. h m (omega arith)) (λ m g. z m (omega arith)) in
    record {
      end_of_all = both_ended (changes (proc n)) (end n) r.end_of_all;
      trace = par_more (h n (omega arith)) r.trace (joined n ks);
      ended = λ f. both (changes (proc n)) (end n) r.end_of_all (f n (omega arith)) (r.ended (λ m g. f m (omega arith)));
    }

pub all_meet : (inside : Set) (hs : List Atomic) → AreFaithful hs → Meets inside (without_nodes (all_comms hs))
all_meet inside [] w = tt
all_meet inside (Exchange n m c x y ∷ hs) w = (λ i. (refl, w.0, refl), all_meet inside hs w.1)
all_meet inside (Stop n c ∷ hs) w = all_meet inside hs w.1

pub one_trace : AllIsOneTrace
one_trace site count proc store end hs w h z =
    let r = along proc store end (all_comms hs) 0 count (λ m g. h m (omega arith)) (λ m g. z m (omega arith)) in
    record {
      end_of_all = r.end_of_all;
      trace = (par (subst (λ l. TracePar (parts_of proc 0 count) store l r.end_of_all) (from_first (all_comms hs)) r.trace), all_meet (λ c. true) hs w);
      ended = λ f. r.ended (λ m g. f m (omega arith));
    }
