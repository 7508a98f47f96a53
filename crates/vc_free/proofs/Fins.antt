-- Where all nodes together finish as many outputs on each channel before a list is rewritten as after, no output is finished by it.
use Rattle.std.proofs.Common.{◌≡◌, ℕ, zero, suc, ◌+◌, ◌≤◌, ◌<◌, Bool, true, false, ◌==◌, refl, sym, ap, subst, ◌∙◌, List, [], ◌∷◌, map, inl, inr, arith, eq-eqb, ne_eqb, if◌then◌else◌}
use Rattle.std.proofs.lemmas.Bool.{cases_eq, cases_lt}
use Rattle.vc_machine.specs.Rendezvous as rendezvous
use Rattle.vc_machine.specs.Rendezvous.{View, Does, DoesAll}
use Rattle.vc_process.specs.Messages.{message}
use Rattle.vc_occam.specs.Traces.{Comm, Out, Fin, In, Stp}
use Rattle.vc_accepted.specs.OneList.{by, on}
use Rattle.vc_free.proofs.Begun.{Dropped, dropped_here, dropped_later, Later, stays, swaps, drops}
use Rattle.vc_occam.proofs.Counts.{fin_of, fins}
use Rattle.vc_occam.proofs.Independence.{Swap, swap_here, swap_later}
use Rattle.vc_occam.proofs.Responses.{Insertion, insertion_here, insertion_later}
use Rattle.vc_placement.proofs.Completions as completions
use Rattle.vc_placement.proofs.Completions.{Withdrawal, withdrawal_here, withdrawal_later, Response, response_here, response_later, Rewrites, withdraws, responds}

-- ---- what rewriting does to the ends of a list

swap_fins : (c : ℕ) {l m : List Comm} → Swap l m → fins c m ≡ fins c l
swap_fins c (swap_here {j = j} {k = k} {l = l} h) = omega arith
swap_fins c (swap_later {k = k} {l = l} {m = m} h) = let e = swap_fins c h in omega arith

withdrawal_fins : (c : ℕ) {l m : List Comm} → Withdrawal l m → fins c m ≡ fins c l
withdrawal_fins c (withdrawal_here {c = d} {x = x}) = omega arith
withdrawal_fins c (withdrawal_later {k = k} {l = l} {m = m} h) = let e = withdrawal_fins c h in omega arith

insertion_fins : (c d : ℕ) {a l m : List Comm} → Insertion d a l m → fins c m ≡ fin_of c (Fin d) + fins c l
insertion_fins c d (insertion_here {l = l}) = omega arith
insertion_fins c d (insertion_later {k = k} {l = l} {m = m} h) = let e = insertion_fins c d h in omega arith

its_own : (c : ℕ) → fin_of c (Fin c) ≡ 1
its_own c = ap (λ b. if b then 1 else 0) (eq-eqb c c refl)

-- of some channel one more is finished
response_more : {l m : List Comm} → Response l m → (d : ℕ) × ((c : ℕ) → fins c m ≡ fin_of c (Fin d) + fins c l)
response_more (response_here {c = d} {x = x} {l = l} {m = m} h n) = (d, λ c. let e = insertion_fins c d h in omega arith)
response_more (response_later {k = k} {l = l} {m = m} h) = let r = response_more h in (r.0, λ c. let e = r.1 c in omega arith)

pub rewrites_fins : (c : ℕ) {l m : List Comm} → Rewrites l m → fins c l ≤ fins c m
rewrites_fins c completions.stays = omega arith
rewrites_fins c (completions.swaps s h) = let a = swap_fins c s in let b = rewrites_fins c h in omega arith
rewrites_fins c (withdraws w h) = let a = withdrawal_fins c w in let b = rewrites_fins c h in omega arith
rewrites_fins c (responds w h) = let r = response_more w in let a = r.1 c in let b = rewrites_fins c h in omega arith

as_dropped : {l m : List Comm} → Withdrawal l m → Dropped l m
as_dropped withdrawal_here = dropped_here
as_dropped (withdrawal_later h) = dropped_later (as_dropped h)

pub as_later : {l m : List Comm} → Rewrites l m → ((c : ℕ) → fins c m ≤ fins c l) → Later l m
as_later completions.stays few = stays
as_later (completions.swaps s h) few = swaps s (as_later h (λ c. let a = swap_fins c s in let b = few c in omega arith))
as_later (withdraws w h) few = drops (as_dropped w) (as_later h (λ c. let a = withdrawal_fins c w in let b = few c in omega arith))
as_later (responds w h) few = absurd (let r = response_more w in let d = r.0 in let a = r.1 d in let o = its_own d in let b = rewrites_fins d h in let f = few d in omega arith)

-- ---- all nodes' ends

abbrev pub without : List (ℕ × Comm) → List Comm
without ks = map (λ k. k.1) ks

abbrev pub below : ℕ → ℕ → List (ℕ × Comm) → ℕ
below zero c ks = 0
below (suc n) c ks = below n c ks + fins c (by n ks)

below_none : (n c : ℕ) → below n c [] ≡ 0
below_none zero c = refl
below_none (suc n) c = let e = below_none n c in omega arith

below_more : (n c m : ℕ) (k : Comm) (ks : List (ℕ × Comm)) → n ≤ m → below n c ((m, k) ∷ ks) ≡ below n c ks
below_more zero c m k ks l = refl
below_more (suc n) c m k ks l =
    let e = below_more n c m k ks (omega arith) in
    let f : fins c (by n ((m, k) ∷ ks)) ≡ fins c (by n ks) = ap (λ b. fins c (if b then k ∷ by n ks else by n ks)) (ne_eqb m n (λ q. omega arith)) in
    omega arith

below_one : (n c m : ℕ) (k : Comm) (ks : List (ℕ × Comm)) → m < n → below n c ((m, k) ∷ ks) ≡ fin_of c k + below n c ks
below_one zero c m k ks l = absurd (omega arith)
below_one (suc n) c m k ks l = elim (cases_eq m n) [
  | inl q ↦ (let e = below_more n c m k ks (omega arith) in
      let f : fins c (by n ((m, k) ∷ ks)) ≡ fins c (k ∷ by n ks) = ap (λ b. fins c (if b then k ∷ by n ks else by n ks)) (eq-eqb m n q) in
      omega arith)
  | inr ne ↦ (let e = below_one n c m k ks (omega (arith, ne)) in
      let f : fins c (by n ((m, k) ∷ ks)) ≡ fins c (by n ks) = ap (λ b. fins c (if b then k ∷ by n ks else by n ks)) (ne_eqb m n ne) in
      omega arith)
]

pub none_tail : (j m : ℕ) (k : Comm) (ks : List (ℕ × Comm)) → by j ((m, k) ∷ ks) ≡ [] → by j ks ≡ []
none_tail j m k ks = by_test (m == j)
  where
    by_test : (b : Bool) → (if b then k ∷ by j ks else by j ks) ≡ [] → by j ks ≡ []
    by_test true e = absurd (cc)
    by_test false e = e

pub none_here : (m : ℕ) (k : Comm) (ks : List (ℕ × Comm)) → by m ((m, k) ∷ ks) ≡ [] → ⊥
none_here m k ks h = let z : k ∷ by m ks ≡ [] = sym (ap (λ b. if b then k ∷ by m ks else by m ks) (eq-eqb m m refl)) ∙ h in cc

pub all_below : (n c : ℕ) (ks : List (ℕ × Comm)) → ((m : ℕ) → n ≤ m → by m ks ≡ []) → fins c (without ks) ≡ below n c ks
all_below n c [] h = sym (below_none n c)
all_below n c ((m, k) ∷ ks) h = elim (cases_lt m n) [
  | inl less ↦ (let e = all_below n c ks (λ j l. none_tail j m k ks (h j l)) in let f = below_one n c m k ks less in omega arith)
  | inr past ↦ absurd (none_here m k ks (h m past))
]

below_le : (n c : ℕ) (ks ls : List (ℕ × Comm)) → ((m : ℕ) → m < n → fins c (by m ks) ≤ fins c (by m ls)) → below n c ks ≤ below n c ls
below_le zero c ks ls h = omega arith
below_le (suc n) c ks ls h = let a = below_le n c ks ls (λ m l. h m (omega arith)) in let b = h n (omega arith) in omega arith

-- where the sums are the same and no part is less, each part is the same
pub each_same : (n c : ℕ) (ks ls : List (ℕ × Comm)) → ((m : ℕ) → m < n → fins c (by m ks) ≤ fins c (by m ls)) → below n c ls ≤ below n c ks → (m : ℕ) → m < n → fins c (by m ls) ≤ fins c (by m ks)
each_same zero c ks ls h s m l = absurd (omega arith)
each_same (suc n) c ks ls h s m l =
    let a = below_le n c ks ls (λ j g. h j (omega arith)) in
    let b = h n (omega arith) in
    elim (cases_eq m n) [
      | inl q ↦ subst (λ z. fins c (by z ls) ≤ fins c (by z ks)) (sym q) (omega arith)
      | inr ne ↦ each_same n c ks ls (λ j g. h j (omega arith)) (omega arith) m (omega (arith, ne))
    ]

-- ---- and the channel shows as many as finished

abbrev ends_one : rendezvous.Comm → ℕ
ends_one rendezvous.Fin = 1
ends_one (rendezvous.Out m) = 0
ends_one (rendezvous.In m) = 0
ends_one rendezvous.Stp = 0

abbrev ends_if : Bool → rendezvous.Comm → ℕ
ends_if true k = ends_one k
ends_if false k = 0

does_ends : (k : rendezvous.Comm) (v w : View) → Does v k w → w.finished ≡ v.finished + ends_one k
does_ends rendezvous.Fin v w d = let e = ap (λ (z : View). z.finished) d.1 in omega arith
does_ends (rendezvous.Out m) v w d = let e = ap (λ (z : View). z.finished) d.1 in omega arith
does_ends (rendezvous.In m) v w d = let e = ap (λ (z : View). z.finished) d.2 in omega arith
does_ends rendezvous.Stp v w d = let e = ap (λ (z : View). z.finished) d in omega arith

its_ends : (b : Bool) (k : rendezvous.Comm) (l : List rendezvous.Comm) (v u : View) → DoesAll v (if b then k ∷ l else l) u → (w : View) × DoesAll w l u × (w.finished ≡ v.finished + ends_if b k)
its_ends true k l v u (w, d, rest) = (w, rest, does_ends k v w d)
its_ends false k l v u h = (v, h, (omega arith))

same_ends : (c d : ℕ) → ends_if (d == c) rendezvous.Fin ≡ fin_of c (Fin d)
same_ends c d = by_test (d == c)
  where
    by_test : (b : Bool) → ends_if b rendezvous.Fin ≡ (if b then 1 else 0)
    by_test true = refl
    by_test false = refl

no_ends : (b : Bool) (k : rendezvous.Comm) → ends_one k ≡ 0 → ends_if b k ≡ 0
no_ends true k e = e
no_ends false k e = refl

pub shown_ends : (c : ℕ) (ks : List (ℕ × Comm)) (v u : View) → DoesAll v (on c ks) u → u.finished ≡ v.finished + fins c (without ks)
shown_ends c [] v u h = let e = ap (λ (z : View). z.finished) h in omega arith
shown_ends c ((m, Out d x) ∷ ks) v u h =
    let r = its_ends (d == c) (rendezvous.Out (message x)) (on c ks) v u h in let n = no_ends (d == c) (rendezvous.Out (message x)) refl in let e = shown_ends c ks r.0 u r.1 in let f = r.2 in omega arith
shown_ends c ((m, In d x) ∷ ks) v u h =
    let r = its_ends (d == c) (rendezvous.In (message x)) (on c ks) v u h in let n = no_ends (d == c) (rendezvous.In (message x)) refl in let e = shown_ends c ks r.0 u r.1 in let f = r.2 in omega arith
shown_ends c ((m, Fin d) ∷ ks) v u h =
    let r = its_ends (d == c) rendezvous.Fin (on c ks) v u h in let n = same_ends c d in let e = shown_ends c ks r.0 u r.1 in let f = r.2 in omega arith
shown_ends c ((m, Stp d) ∷ ks) v u h =
    let r = its_ends (d == c) rendezvous.Stp (on c ks) v u h in let n = no_ends (d == c) rendezvous.Stp refl in let e = shown_ends c ks r.0 u r.1 in let f = r.2 in omega arith
