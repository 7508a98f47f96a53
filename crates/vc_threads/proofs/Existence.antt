-- Runs whose stamps rise, of finitely many actors, have a merge.
use Rattle.std.proofs.Common.{◌≡◌, ◌==◌, ℕ, zero, suc, ◌<◌, ◌≤◌, ◌⊎◌, inl, inr, Bool, true, false, if◌then◌else◌, List, [], ◌∷◌, refl, ap, sym, subst, ◌∙◌, arith, eq-eqb, ne_eqb}
use Rattle.std.specs.List.{AllByRecursion}
use Rattle.std.proofs.lemmas.Bool.{cases_eq, cases_lt, cases_order}
use Rattle.vc_network.specs.LocalRun.{Stamped}
use Rattle.vc_network.specs.Merge.{IsMerge, IsOrdered, Made, NotAfter, Rises, StampsRise, part}
use Rattle.vc_network.proofs.OneMerge.{part-other, part-own}

module _ {A : Type 0} where
  not_after : (x m n : Made A) → NotAfter x m → NotAfter m n → NotAfter x n
  not_after x m n (inl a) (inl b) = inl (omega (arith, a, b))
  not_after x m n (inl a) (inr (e, l)) = inl (omega (arith, a, e))
  not_after x m n (inr (e, l)) (inl b) = inl (omega (arith, e, b))
  not_after x m n (inr (e, l)) (inr (f, k)) = inr (e ∙ f, omega (arith, l, k))

  after_all : (x m : Made A) (ms : List (Made A)) → NotAfter x m → AllByRecursion (NotAfter m) ms → AllByRecursion (NotAfter x) ms
  after_all x m [] before all = tt
  after_all x m (n ∷ ns) before all = (not_after x m n before all.0, after_all x m ns before all.1)

  -- one of two is not after the other
  either : (x m : Made A) → NotAfter x m ⊎ NotAfter m x
  either x m = elim (cases_order x.act.at m.act.at) [
    | inl same ↦ elim (cases_lt m.actor x.actor) [
      | inl less ↦ inr (inr (sym same, omega (arith, less)))
      | inr more ↦ inl (inr (same, more))
    ]
    | inr apart ↦ elim apart [ inl less ↦ inl (inl less) | inr more ↦ inr (inl more) ]
  ]

  -- an act takes its place before the first that it is not after
  abbrev placed : (x m : Made A) (ms later : List (Made A)) → NotAfter x m ⊎ NotAfter m x → List (Made A)
  placed x m ms later (inl before) = x ∷ m ∷ ms
  placed x m ms later (inr behind) = m ∷ later

  abbrev inserted : Made A → List (Made A) → List (Made A)
  inserted x [] = x ∷ []
  inserted x (m ∷ ms) = placed x m ms (inserted x ms) (either x m)

  inserted_all : (P : Made A → Type 0) (x : Made A) (ms : List (Made A)) → P x → AllByRecursion P ms → AllByRecursion P (inserted x ms)
  inserted_all P x [] its all = (its, tt)
  inserted_all P x (m ∷ ms) its all = by_place (inserted_all P x ms its all.1) (either x m)
    where
      by_place : AllByRecursion P (inserted x ms) → (c : NotAfter x m ⊎ NotAfter m x) → AllByRecursion P (placed x m ms (inserted x ms) c)
      by_place later (inl before) = (its, all)
      by_place later (inr behind) = (all.0, later)

  inserted_ordered : (x : Made A) (ms : List (Made A)) → IsOrdered ms → IsOrdered (inserted x ms)
  inserted_ordered x [] order = (tt, tt)
  inserted_ordered x (m ∷ ms) order = by_place (inserted_ordered x ms order.1) (either x m)
    where
      by_place : IsOrdered (inserted x ms) → (c : NotAfter x m ⊎ NotAfter m x) → IsOrdered (placed x m ms (inserted x ms) c)
      by_place later (inl before) = ((before, after_all x m ms before order.0), order)
      by_place later (inr behind) = (inserted_all (NotAfter m) x ms behind order.0, later)

  -- the parts of the other actors stay
  part_stays : (k : ℕ) (x : Made A) (ms : List (Made A)) → (x.actor ≡ k → ⊥) → part k (inserted x ms) ≡ part k ms
  part_stays k x [] ne = part-other k x [] ne
  part_stays k x (m ∷ ms) ne = by_place (part_stays k x ms ne) (either x m)
    where
      by_place : part k (inserted x ms) ≡ part k ms → (c : NotAfter x m ⊎ NotAfter m x) → part k (placed x m ms (inserted x ms) c) ≡ part k (m ∷ ms)
      by_place later (inl before) = part-other k x (m ∷ ms) ne
      by_place later (inr behind) = ap (λ ps. if m.actor == k then m.act ∷ ps else ps) later

  -- an act before all of its actor is the first of the actor's part
  part_grows : (x : Made A) (ms : List (Made A)) → AllByRecursion (λ s. x.act.at < s.at) (part x.actor ms) → part x.actor (inserted x ms) ≡ x.act ∷ part x.actor ms
  part_grows x [] rise = part-own x []
  part_grows x (m ∷ ms) rise = by_place (λ below. part_grows x ms below) (either x m)
    where
      behind_own : m.actor ≡ x.actor → NotAfter m x → ⊥
      behind_own same behind =
          let first = subst (AllByRecursion (λ s. x.act.at < s.at)) (ap (λ b. if b then m.act ∷ part x.actor ms else part x.actor ms) (eq-eqb m.actor x.actor same)) rise in
          let less = first.0 in
          elim behind [ inl sooner ↦ absurd (omega (arith, sooner, less)) | inr at ↦ absurd (let is = at.0 in omega (arith, is, less)) ]

      by_place : (AllByRecursion (λ s. x.act.at < s.at) (part x.actor ms) → part x.actor (inserted x ms) ≡ x.act ∷ part x.actor ms) →
          (c : NotAfter x m ⊎ NotAfter m x) → part x.actor (placed x m ms (inserted x ms) c) ≡ x.act ∷ part x.actor (m ∷ ms)
      by_place later (inl before) = part-own x (m ∷ ms)
      by_place later (inr behind) = elim (cases_eq m.actor x.actor) [
        | inl same ↦ absurd (behind_own same behind)
        | inr ne ↦ (let none = part-other x.actor m ms ne in
            part-other x.actor m (inserted x ms) ne
            ∙ (later (subst (AllByRecursion (λ s. x.act.at < s.at)) none rise) ∙ ap (λ ps. x.act ∷ ps) (sym none)))
      ]

  -- a run takes its places, the last act first
  abbrev woven : ℕ → List (Stamped A) → List (Made A) → List (Made A)
  woven actor [] ms = ms
  woven actor (s ∷ ss) ms = inserted (record { actor = actor; act = s }) (woven actor ss ms)

  woven_ordered : (actor : ℕ) (ss : List (Stamped A)) (ms : List (Made A)) → IsOrdered ms → IsOrdered (woven actor ss ms)
  woven_ordered actor [] ms order = order
  woven_ordered actor (s ∷ ss) ms order = inserted_ordered (record { actor = actor; act = s }) (woven actor ss ms) (woven_ordered actor ss ms order)

  woven_other : (k actor : ℕ) (ss : List (Stamped A)) (ms : List (Made A)) → (actor ≡ k → ⊥) → part k (woven actor ss ms) ≡ part k ms
  woven_other k actor [] ms ne = refl
  woven_other k actor (s ∷ ss) ms ne = part_stays k (record { actor = actor; act = s }) (woven actor ss ms) ne ∙ woven_other k actor ss ms ne

  above : (low clock : ℕ) (ss : List (Stamped A)) → low ≤ clock → Rises clock ss → AllByRecursion (λ s. low < s.at) ss
  above low clock [] le rise = tt
  above low clock (s ∷ ss) le rise = let more = rise.0 in (omega (arith, le, more), above low s.at ss (omega (arith, le, more)) rise.1)

  rest_rises : (clock : ℕ) (ss : List (Stamped A)) → Rises clock ss → StampsRise ss
  rest_rises clock [] rise = tt
  rest_rises clock (s ∷ ss) rise = rise.1

  woven_own : (actor : ℕ) (ss : List (Stamped A)) (ms : List (Made A)) → part actor ms ≡ [] → StampsRise ss → part actor (woven actor ss ms) ≡ ss
  woven_own actor [] ms none rise = none
  woven_own actor (s ∷ ss) ms none rise =
      let rest = woven_own actor ss ms none (rest_rises s.at ss rise) in
      part_grows (record { actor = actor; act = s }) (woven actor ss ms) (subst (AllByRecursion (λ t. s.at < t.at)) (sym rest) (above s.at s.at ss (omega arith) rise))
      ∙ ap (λ ps. s ∷ ps) rest

  -- the runs but for one actor's
  abbrev others : (ℕ → List (Stamped A)) → ℕ → ℕ → List (Stamped A)
  others runs n k = if n == k then [] else runs k

  others_rise : (runs : ℕ → List (Stamped A)) (n k : ℕ) → StampsRise (runs k) → StampsRise (others runs n k)
  others_rise runs n k rise = by_test (n == k)
    where
      by_test : (b : Bool) → StampsRise (if b then [] else runs k)
      by_test true = tt
      by_test false = rise

  there : (runs : ℕ → List (Stamped A)) (n k : ℕ) → (n ≡ k → ⊥) → others runs n k ≡ runs k
  there runs n k ne = ap (λ b. if b then [] else runs k) (ne_eqb n k ne)

  here : (runs : ℕ → List (Stamped A)) (n k : ℕ) → n ≡ k → others runs n k ≡ []
  here runs n k same = ap (λ b. if b then [] else runs k) (eq-eqb n k same)

  pub merges : (runs : ℕ → List (Stamped A)) (n : ℕ) → ((k : ℕ) → StampsRise (runs k)) → ((k : ℕ) → n ≤ k → runs k ≡ []) → (merged : List (Made A)) × IsMerge runs merged
  merges runs zero rise none = ([], record { ordered = tt; parts = λ k. sym (none k (omega arith)) })
  merges runs (suc n) rise none =
      let m = merges (others runs n) n (λ k. others_rise runs n k (rise k)) (λ k past. elim (cases_eq n k) [
        | inl same ↦ here runs n k same
        | inr ne ↦ there runs n k ne ∙ none k (omega (arith, past, ne))
      ]) in (
        woven n (runs n) m.0,
        record {
          ordered = woven_ordered n (runs n) m.0 m.1.ordered;
          parts = λ k. elim (cases_eq n k) [
            | inl same ↦ subst (λ j. part j (woven n (runs n) m.0) ≡ runs j) same (woven_own n (runs n) m.0 (m.1.parts n ∙ here runs n n refl) (rise n))
            | inr ne ↦ woven_other k n (runs n) m.0 ne ∙ (m.1.parts k ∙ there runs n k ne)
          ];
        },
      )
