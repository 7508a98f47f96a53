-- Runs are merged by taking the first of their next acts, one after another.
use Rattle.std.proofs.Common.{◌≡◌, ℕ, zero, suc, ◌+◌, ◌<◌, ◌≤◌, inl, inr, Bool, true, false, if◌then◌else◌, ◌==◌, List, [], ◌∷◌, length, drop, slice_get, Some, refl, sym, ap, subst, ◌∙◌, arith, eqb-true, eq-eqb}
use Rattle.std.specs.List.{AllByRecursion}
use Rattle.std.proofs.lemmas.Bool.{ne_eqb}
use Rattle.vc_network.specs.LocalRun.{Stamped}
use Rattle.vc_network.specs.Merge.{Made, Numbered, part, NotAfter, IsMerge, AreDistinct, Rises, StampsRise, RunRises, run_of}
use Rattle.vc_switch.proofs.ListWrites.{all-at}

module _ {A : Type 0} where
  -- the runs without the first act of run k
  abbrev pub without : List (Numbered A) → ℕ → List (Numbered A)
  without [] k = []
  without (r ∷ rs) zero = record { actor = r.actor; run = drop 1 r.run } ∷ rs
  without (r ∷ rs) (suc k) = r ∷ without rs k

  abbrev pub acts_left : List (Numbered A) → ℕ
  acts_left [] = 0
  acts_left (r ∷ rs) = length r.run + acts_left rs

  -- what is kept

  others_still : (actor : ℕ) (rs : List (Numbered A)) (k : ℕ) → AllByRecursion (λ (s : Numbered A). actor ≡ s.actor → ⊥) rs → AllByRecursion (λ (s : Numbered A). actor ≡ s.actor → ⊥) (without rs k)
  others_still actor [] k h = tt
  others_still actor (r ∷ rs) zero h = h
  others_still actor (r ∷ rs) (suc k) h = (h.0, others_still actor rs k h.1)

  pub distinct_still : (rs : List (Numbered A)) (k : ℕ) → AreDistinct rs → AreDistinct (without rs k)
  distinct_still [] k d = tt
  distinct_still (r ∷ rs) zero d = d
  distinct_still (r ∷ rs) (suc k) d = (others_still r.actor rs k d.0, distinct_still rs k d.1)

  tail_rises : (ss : List (Stamped A)) → StampsRise ss → StampsRise (drop 1 ss)
  tail_rises [] h = tt
  tail_rises (s ∷ []) h = tt
  tail_rises (s ∷ t ∷ ts) h = h.1

  pub rising_still : (rs : List (Numbered A)) (k : ℕ) → AllByRecursion RunRises rs → AllByRecursion RunRises (without rs k)
  rising_still [] k h = tt
  rising_still (r ∷ rs) zero h = (tail_rises r.run h.0, h.1)
  rising_still (r ∷ rs) (suc k) h = (h.0, rising_still rs k h.1)

  pub fewer_left : (rs : List (Numbered A)) (k : ℕ) (r : Numbered A) (s : Stamped A) (t : List (Stamped A)) → slice_get rs k ≡ Some r → r.run ≡ s ∷ t → acts_left (without rs k) < acts_left rs
  fewer_left [] k r s t e run = absurd (cc)
  fewer_left (q ∷ qs) zero r s t e run =
      let same : q ≡ r = cc in
      let is : q.run ≡ s ∷ t = ap (λ (z : Numbered A). z.run) same ∙ run in
      let a = ap length is in
      let b : length (drop 1 q.run) ≡ length t = ap (λ z. length (drop 1 z)) is in
      omega (arith, a, b)
  fewer_left (q ∷ qs) (suc k) r s t e run = let h = fewer_left qs k r s t e run in omega (arith, h)

  -- each actor's run with its first act back
  run_back : (rs : List (Numbered A)) (k : ℕ) (r : Numbered A) (s : Stamped A) (t : List (Stamped A)) → AreDistinct rs → slice_get rs k ≡ Some r → r.run ≡ s ∷ t
      → (actor : ℕ) → (if r.actor == actor then s ∷ run_of (without rs k) actor else run_of (without rs k) actor) ≡ run_of rs actor
  run_back [] k r s t d e run actor = absurd (cc)
  run_back (q ∷ qs) zero r s t d e run actor =
      let same : q ≡ r = cc in
      let is : q.run ≡ s ∷ t = ap (λ (z : Numbered A). z.run) same ∙ run in
      subst (λ (z : Numbered A). (if z.actor == actor then s ∷ (if q.actor == actor then drop 1 q.run else run_of qs actor) else (if q.actor == actor then drop 1 q.run else run_of qs actor)) ≡ (if q.actor == actor then q.run else run_of qs actor)) same
      (by_test (q.actor == actor) (ap (λ z. s ∷ drop 1 z) is ∙ sym is))
    where
      by_test : (b : Bool) → s ∷ drop 1 q.run ≡ q.run → (if b then s ∷ (if b then drop 1 q.run else run_of qs actor) else (if b then drop 1 q.run else run_of qs actor)) ≡ (if b then q.run else run_of qs actor)
      by_test true h = h
      by_test false h = refl
  run_back (q ∷ qs) (suc k) r s t d e run actor = by_test (q.actor == actor) refl (run_back qs k r s t d.1 e run actor)
    where
      by_test : (b : Bool) → (q.actor == actor) ≡ b → (if r.actor == actor then s ∷ run_of (without qs k) actor else run_of (without qs k) actor) ≡ run_of qs actor
          → (if r.actor == actor then s ∷ (if b then q.run else run_of (without qs k) actor) else (if b then q.run else run_of (without qs k) actor)) ≡ (if b then q.run else run_of qs actor)
      by_test true mine h =
          let other : (r.actor == actor) ≡ false = ne_eqb r.actor actor (λ same. all-at (λ (z : Numbered A). q.actor ≡ z.actor → ⊥) qs k r d.0 e (eqb-true q.actor actor mine ∙ sym same)) in
          ap (λ c. if c then s ∷ q.run else q.run) other
      by_test false other h = h

  -- no act of the runs is before this one
  abbrev IsAfter : Made A → Numbered A → Type 0
  IsAfter m q = AllByRecursion (λ x. NotAfter m (record { actor = q.actor; act = x })) q.run

  rest_after : (m : Made A) (actor clock : ℕ) (ss : List (Stamped A)) → m.act.at ≤ clock → Rises clock ss → AllByRecursion (λ x. NotAfter m (record { actor = actor; act = x })) ss
  rest_after m actor clock [] h r = tt
  rest_after m actor clock (s ∷ ss) h r = let less = r.0 in (inl (omega arith), rest_after m actor s.at ss (omega (arith, less)) r.1)

  not_below : (m n : Made A) → NotAfter m n → m.act.at ≤ n.act.at
  not_below m n (inl h) = omega arith
  not_below m n (inr h) = let e = h.0 in omega (arith, e)

  run_after : (m : Made A) (actor : ℕ) (ss : List (Stamped A)) → StampsRise ss → ((f : Stamped A) (more : List (Stamped A)) → ss ≡ f ∷ more → NotAfter m (record { actor = actor; act = f }))
      → AllByRecursion (λ x. NotAfter m (record { actor = actor; act = x })) ss
  run_after m actor [] r h = tt
  run_after m actor (s ∷ ss) r h = let one = h s ss refl in (one, rest_after m actor s.at ss (not_below m (record { actor = actor; act = s }) one) r)

  all_after : (m : Made A) (rs : List (Numbered A)) → AllByRecursion RunRises rs
      → ((j : ℕ) (q : Numbered A) (f : Stamped A) (more : List (Stamped A)) → slice_get rs j ≡ Some q → q.run ≡ f ∷ more → NotAfter m (record { actor = q.actor; act = f })) → AllByRecursion (IsAfter m) rs
  all_after m [] r h = tt
  all_after m (q ∷ qs) r h = (run_after m q.actor q.run r.0 (λ f more e. h 0 q f more refl e), all_after m qs r.1 (λ j. h (suc j)))

  tail_after : (P : Stamped A → Type 0) (ss : List (Stamped A)) → AllByRecursion P ss → AllByRecursion P (drop 1 ss)
  tail_after P [] h = tt
  tail_after P (s ∷ ss) h = h.1

  after_still : (m : Made A) (rs : List (Numbered A)) (k : ℕ) → AllByRecursion (IsAfter m) rs → AllByRecursion (IsAfter m) (without rs k)
  after_still m [] k h = tt
  after_still m (r ∷ rs) zero h = (tail_after (λ x. NotAfter m (record { actor = r.actor; act = x })) r.run h.0, h.1)
  after_still m (r ∷ rs) (suc k) h = (h.0, after_still m rs k h.1)

  actor_after : (m : Made A) (rs : List (Numbered A)) → AllByRecursion (IsAfter m) rs → (actor : ℕ) → AllByRecursion (λ x. NotAfter m (record { actor = actor; act = x })) (run_of rs actor)
  actor_after m [] h actor = tt
  actor_after m (r ∷ rs) h actor = by_test (r.actor == actor) refl (actor_after m rs h.1 actor)
    where
      by_test : (b : Bool) → (r.actor == actor) ≡ b → AllByRecursion (λ x. NotAfter m (record { actor = actor; act = x })) (run_of rs actor) → AllByRecursion (λ x. NotAfter m (record { actor = actor; act = x })) (if b then r.run else run_of rs actor)
      by_test true mine rest = subst (λ k. AllByRecursion (λ x. NotAfter m (record { actor = k; act = x })) r.run) (eqb-true r.actor actor mine) h.0
      by_test false other rest = rest

  -- what holds of each actor's part holds of the whole list
  of_parts : (P : ℕ → Stamped A → Type 0) (ms : List (Made A)) → ((actor : ℕ) → AllByRecursion (P actor) (part actor ms)) → AllByRecursion (λ m. P m.actor m.act) ms
  of_parts P [] h = tt
  of_parts P (m ∷ ms) h =
      let here = subst (λ b. AllByRecursion (P m.actor) (if b then m.act ∷ part m.actor ms else part m.actor ms)) (eq-eqb m.actor m.actor refl) (h m.actor) in
      (here.0, of_parts P ms (λ actor. rest actor (m.actor == actor) (h actor)))
    where
      rest : (actor : ℕ) (b : Bool) → AllByRecursion (P actor) (if b then m.act ∷ part actor ms else part actor ms) → AllByRecursion (P actor) (part actor ms)
      rest actor true g = g.1
      rest actor false g = g

  -- the first of the next acts, and then a merge of the others
  pub first_then : (rs : List (Numbered A)) (k : ℕ) (r : Numbered A) (s : Stamped A) (t : List (Stamped A)) → AreDistinct rs → AllByRecursion RunRises rs → slice_get rs k ≡ Some r → r.run ≡ s ∷ t
      → ((j : ℕ) (q : Numbered A) (f : Stamped A) (more : List (Stamped A)) → slice_get rs j ≡ Some q → q.run ≡ f ∷ more → NotAfter (record { actor = r.actor; act = s }) (record { actor = q.actor; act = f }))
      → (ms : List (Made A)) → IsMerge (run_of (without rs k)) ms → IsMerge (run_of rs) (record { actor = r.actor; act = s } ∷ ms)
  first_then rs k r s t d rising e run least ms merge =
      let m : Made A = record { actor = r.actor; act = s } in
      let later = after_still m rs k (all_after m rs rising least) in
      record {
        ordered = (
          of_parts (λ actor x. NotAfter m (record { actor = actor; act = x })) ms
              (λ actor. subst (AllByRecursion (λ x. NotAfter m (record { actor = actor; act = x }))) (sym (merge.parts actor)) (actor_after m (without rs k) later actor)),
          merge.ordered,
        );
        parts = λ actor. ap (λ z. if r.actor == actor then s ∷ z else z) (merge.parts actor) ∙ run_back rs k r s t d e run actor;
      }

  -- where no run has an act left, nothing is left to merge
  pub nothing_left : (rs : List (Numbered A)) → AllByRecursion (λ (r : Numbered A). r.run ≡ []) rs → IsMerge (run_of rs) []
  nothing_left rs h = record { ordered = tt; parts = λ actor. sym (none rs h actor) }
    where
      none : (qs : List (Numbered A)) → AllByRecursion (λ (r : Numbered A). r.run ≡ []) qs → (actor : ℕ) → run_of qs actor ≡ []
      none [] g actor = refl
      none (q ∷ qs) g actor = by_test (q.actor == actor) g.0 (none qs g.1 actor)
        where
          by_test : (b : Bool) → q.run ≡ [] → run_of qs actor ≡ [] → (if b then q.run else run_of qs actor) ≡ []
          by_test true here rest = here
          by_test false here rest = rest
