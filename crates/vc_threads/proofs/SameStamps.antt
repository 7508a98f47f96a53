-- Acts of one stamp are found one after another: what is known of the runs that were passed.
use Rattle.std.proofs.Common.{◌≡◌, ℕ, zero, suc, ◌+◌, ◌<◌, ◌≤◌, ◌⊎◌, inl, inr, Bool, IsTrue, List, [], ◌∷◌, length, map, drop, slice_get, Some, refl, sym, ap, subst, ◌∙◌, arith}
use Rattle.std.specs.List.{AllByRecursion}
use Rattle.std.proofs.Math.ListN.{set}
use Rattle.std.proofs.lemmas.Bool.{cases_eq, cases_order}
use Rattle.std.proofs.lemmas.Option.{slice_get_within}
use Rattle.vc_network.specs.Merge.{RunRises, StampsRise}
use Rattle.vc_actor.specs.declared.act.Act.{Act}
use Rattle.vc_threads.specs.MergedRuns.{of_pair}
use Rattle.vc_threads.specs.Private.MergedRuns.{front_of, id_at, IsNext, NotLater, FindsFirst, FindsWith, HavePassed, IdsRise}
use Rattle.vc_threads.specs.declared.merged_runs.Front.{Front}
use Rattle.vc_threads.specs.declared.act_log.ActorActs.{ActorActs}
use Rattle.vc_threads.proofs.Fronts.{Coming, left_of, left_in, stamped}
use Rattle.vc_switch.proofs.ListWrites.{all-at}

-- the first with the stamp that none is below comes first of all
pub found_with : (rs : List ActorActs) (fs : List Front) (in_order : Bool) (from at k : ℕ) → length fs ≡ length rs → IsTrue in_order → IdsRise rs → HavePassed fs in_order from at → FindsWith fs from at (Some k) → FindsFirst rs fs (Some k)
found_with rs fs in_order from at k count sure rise passed found = (at, found.1, not_later)
  where
    not_later : (j later : ℕ) → IsNext fs j later → NotLater rs at k later j
    not_later j later next = elim (cases_order at later) [
      | inl e ↦ inr (e, tied (subst (IsNext fs j) (sym e) next) e)
      | inr o ↦ elim o [ inl less ↦ inl less | inr more ↦ absurd (let least = (passed sure j later next).0 in omega (arith, least)) ]
    ]
      where
        tied : IsNext fs j at → at ≡ later → id_at rs k ≤ id_at rs j
        tied same e = elim (cases_order k j) [
          | inl here ↦ let ids : id_at rs k ≡ id_at rs j = ap (id_at rs) here in omega (arith, ids)
          | inr o ↦ elim o [
            | inl behind ↦ let within = slice_get_within fs j next.0 next.1 in let ids = rise k j behind (omega (arith, within, count)) in omega (arith, ids)
            | inr before ↦ elim (cases_order j from) [
              | inl at_from ↦ absurd (found.2 j (omega arith) before same)
              | inr p ↦ elim p [ inl earlier ↦ absurd (let above = (passed sure j later next).1 earlier in omega (arith, above, e)) | inr past ↦ absurd (found.2 j (omega arith) before same) ]
            ]
          ]
        ]

-- a run that has come one place further, or another one
after_set : (fs : List Front) (k : ℕ) (g : Front) (j later : ℕ) → IsNext (set fs k g) j later → ((j ≡ k) × (g.at ≡ Some later)) ⊎ ((j ≡ k → ⊥) × IsNext fs j later)
after_set [] k g j later (h, here, is) = absurd (cc)
after_set (f ∷ fs) zero g zero later (h, here, is) = let same : g ≡ h = cc in inl (refl, ap (λ (y : Front). y.at) same ∙ is)
after_set (f ∷ fs) zero g (suc j) later next = inr ((λ e. omega (arith, e)), next)
after_set (f ∷ fs) (suc k) g zero later next = inr ((λ e. omega (arith, e)), next)
after_set (f ∷ fs) (suc k) g (suc j) later next = elim (after_set fs k g j later next) [
  | inl e ↦ inl (ap suc e.0, e.1)
  | inr n ↦ inr ((λ e. n.0 (omega (arith, e))), n.1)
]

-- of a run whose stamps rise the act after the next one is later
later_on : (acts : List (ℕ × Act)) (p : ℕ) (x y : ℕ × Act) → slice_get acts p ≡ Some x → slice_get acts (suc p) ≡ Some y → StampsRise (map of_pair (drop p acts)) → x.0 < y.0
later_on [] p x y a b h = absurd (cc)
later_on (u ∷ []) zero x y a b h = absurd (cc)
later_on (u ∷ v ∷ vs) zero x y a b h =
    let one : u ≡ x = cc in
    let two : v ≡ y = cc in
    let e = ap (λ (z : ℕ × Act). z.0) one in
    let f = ap (λ (z : ℕ × Act). z.0) two in
    let less = h.0 in
    omega (arith, e, f, less)
later_on (u ∷ us) (suc p) x y a b h = later_on us p x y a b h

module _ (rs : List ActorActs) (fs : List Front) (k at : ℕ) (r : ActorActs) (f : Front) (c : Coming rs fs k at r f) (rising : AllByRecursion RunRises (left_of rs fs)) where
  own_later : (later : ℕ) → (front_of r (f.place + 1)).at ≡ Some later → at < later
  own_later later is =
      let x = stamped (slice_get r.acts.items (f.place + 1)) later is in
      let one : f.place + 1 ≡ suc f.place = omega arith in
      let there = sym (ap (slice_get r.acts.items) one) ∙ x.1 in
      let less = later_on r.acts.items f.place c.act x.0 c.act_is there (all-at RunRises (left_of rs fs) k (left_in r f.place) rising c.left) in
      let e = c.stamp in
      let d = x.2 in
      omega (arith, less, e, d)

  -- once the first act of all was taken, the runs up to its own are passed at its stamp
  pub still_passed : (in_order : Bool) → k < length rs → (IsTrue in_order → IdsRise rs) → ((j later : ℕ) → IsNext fs j later → NotLater rs at k later j) → HavePassed (set fs k (front_of r (f.place + 1))) in_order (k + 1) at
  still_passed in_order within rise least sure j later next = elim (after_set fs k (front_of r (f.place + 1)) j later next) [
    | inl e ↦ let less = own_later later e.1 in (omega (arith, less), λ up. less)
    | inr n ↦ by_order n.0 (least j later n.1)
  ]
    where
      by_order : (j ≡ k → ⊥) → NotLater rs at k later j → (at ≤ later) × (j < k + 1 → at < later)
      by_order other (inl less) = (omega (arith, less), λ up. less)
      by_order other (inr tie) = (
        let e = tie.0 in omega (arith, e),
        λ up. absurd (let ids = rise sure j k (below up) within in let not = tie.1 in omega (arith, ids, not)),
      )
        where
          below : j < k + 1 → j < k
          below up = elim (cases_eq j k) [ inl e ↦ absurd (other e) | inr ne ↦ omega arith ]
