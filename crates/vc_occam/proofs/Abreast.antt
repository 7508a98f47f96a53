-- What the parts of a PAR come to, side by side.
use Rattle.std.proofs.Common.{◌≡◌, ◌∙◌, ℕ, zero, suc, ◌<◌, ◌≤◌, Bool, true, false, refl, sym, ap, subst, List, [], ◌∷◌, map, drop, set, length, arith, Option, Some, None, ◌⊎◌, inl, inr, length-set}
use Rattle.std.specs.Prelude.{slice_get, nat_le, nat_lt, if◌then◌else◌}
use Rattle.std.proofs.lemmas.Bool.{and_from, and_parts}
use Rattle.std.proofs.lemmas.Bool.Decides.{nat_tests}
use Rattle.std.proofs.lemmas.List.{length-map, map-set}
use Rattle.std.proofs.lemmas.Option.{slice_get_within}
use Rattle.vc_process.specs.declared.datum.Datum.{Datum}
use Rattle.vc_process.specs.Syntax.{PAR}
use Rattle.vc_process.specs.Terms.{store}
use Rattle.vc_process.specs.Values.{Store}
use Rattle.vc_process.specs.Usage.{Set, changes}
use Rattle.vc_occam.specs.declared.frame.Frame.{Frame}
use Rattle.vc_occam.specs.declared.frame.Task.{Task}
use Rattle.vc_occam.specs.declared.outcome.Outcome.{Outcome}
use Rattle.vc_occam.specs.declared.outcome.Outcome.TheVariants as outcome
use Rattle.vc_occam.specs.SiteActions.{SiteAction}
use Rattle.vc_occam.specs.Private.SiteSteps.{Actions, StepAt, first_action, one, whole_output}
use Rattle.vc_occam.specs.Private.Sites.{PartsInPreorder}
use Rattle.vc_occam.specs.Sites.{site}
use Rattle.vc_occam.specs.Remains.{Rest, Done, Beside, beside_on, in_left, in_right}
use Rattle.vc_occam.specs.Frames.{View, all_sound, besides, is_sound, left_by, outcome_of, par, plans_of, task_view, view}
use Rattle.vc_occam.specs.Private.Frames.{Able, CanGo, Did, Went, assigned_at, has_ended, place_with, seen_task, shown, task_views, unstopped}
use Rattle.vc_occam.proofs.Doers.{able_site}
use Rattle.vc_occam.proofs.PartOfSite.{AllWithin, besides_sites, found_assigned, not_before, not_behind, part_at}
use Rattle.vc_occam.proofs.Endings.{goes_on, left_ended, left_same}
use Rattle.vc_occam.proofs.Lifting.{left_is, left_steps, right_is, right_steps}
use Rattle.vc_occam.proofs.Inside.{tasks_inside}
use Rattle.vc_occam.proofs.PartSteps.{part_changes, part_is_changed, part_is_in_preorder, part_is_sound, parts_still_sound, same_plans}
use Rattle.vc_occam.proofs.Outcomes.{task_outcome}
use Rattle.vc_occam.proofs.Sites.{clash}

-- where one part goes on, all do
pub besides_go : (vs : List View) (k : ℕ) (v : View) → slice_get vs k ≡ Some v → has_ended (outcome_of v.rest) ≡ false → outcome_of (besides vs) ≡ outcome.Other
besides_go [] k v h g = absurd (let z : None ≡ Some v = h in cc)
besides_go (u ∷ vs) zero v h g = let e : v ≡ u = cc in ap outcome_of (left_is (changes u.plan) u.rest (besides vs) (goes_on (ap (λ (x : View). has_ended (outcome_of x.rest)) (sym e) ∙ g)))
besides_go (u ∷ vs) (suc k) v h g = ap outcome_of (right_is (changes u.plan) u.rest (besides vs) (goes_on (ap has_ended (besides_go vs k v h g))))

pub besides_more : (vs : List View) (k : ℕ) (v : View) → slice_get vs k ≡ Some v → v.rest ≡ Done → besides (drop (suc k) vs) ≡ Done → besides (drop k vs) ≡ Done
besides_more [] k v h g e = absurd (let z : None ≡ Some v = h in cc)
besides_more (u ∷ vs) zero v h g e = let is : v ≡ u = cc in ap (λ r. beside_on (changes u.plan) r (besides vs)) (ap (λ (x : View). x.rest) (sym is) ∙ g) ∙ ap (beside_on (changes u.plan) Done) e
besides_more (u ∷ vs) (suc k) v h g e = besides_more vs k v h g e

-- a part that has ended, or goes on
pub task_ended : (t : Task View) → has_ended t.begins ≡ true → (task_view t).rest ≡ Done
task_ended t h = left_ended t.begins t.frame.rest h

pub task_goes : (t : Task View) → (task_view t).sound ≡ true → has_ended t.begins ≡ false → has_ended (outcome_of (task_view t).rest) ≡ false
task_goes t s h = ap has_ended (task_outcome t s) ∙ h

-- as many parts
pub task_count : (ts : List (Task Frame)) → length (task_views ts) ≡ length ts
task_count ts = length-map (map seen_task ts) task_view ∙ length-map ts seen_task

-- the part of a PAR that has a site can do what the PAR can
either_able : (mine : Set) (r q : Rest) (e : Store) (i : ℕ) (d : SiteAction) → Able (Beside mine r q) e i d → Able r e i d ⊎ Able q e i d
either_able mine r q e i d (ks, x, f, in_left {r' = r'} {e' = e'} st) = inl (ks, r', e', st)
either_able mine r q e i d (ks, x, f, in_right {q' = q'} {e' = e'} st) = inr (ks, q', e', st)

beside_able : (mine : Set) (r q : Rest) (e : Store) (i : ℕ) (d : SiteAction) → Able (beside_on mine r q) e i d → Able r e i d ⊎ Able q e i d
beside_able mine Done Done e i d a = inl a
beside_able mine r q e i d a = either_able mine r q e i d a

pub found_able : (i : ℕ) (vs : List View) (e : Store) (d : SiteAction) → PartsInPreorder (plans_of vs) → AllWithin vs → Able (besides vs) e i d → Able (part_at (slice_get vs (place_with i vs))) e i d
found_able i [] e d h w (ks, q, f, st) = elim st [ ]
found_able i (v ∷ []) e d h w a = elim (beside_able (changes v.plan) v.rest Done e i d a) [
  | inl b ↦ b
  | inr b ↦ absurd (clash (able_site Done e i d b) refl)
]
found_able i (v ∷ u ∷ vs) e d h w a = on (nat_le (site u.plan) i) refl (found_able i (u ∷ vs) e d h.2 w.1)
  where
    on : (b : Bool) → nat_le (site u.plan) i ≡ b → (Able (besides (u ∷ vs)) e i d → Able (part_at (slice_get (u ∷ vs) (place_with i (u ∷ vs)))) e i d) → Able (part_at (slice_get (v ∷ u ∷ vs) (if b then suc (place_with i (u ∷ vs)) else 0))) e i d
    on true q r =
        let l : site u.plan ≤ i = grind (arith, nat_tests) in
        elim (beside_able (changes v.plan) v.rest (besides (u ∷ vs)) e i d a) [
          | inl b ↦ absurd (clash (w.0 i (able_site v.rest e i d b)) (not_before v u vs i h l))
          | inr b ↦ r b
        ]
    on false q r =
        let l : i < site u.plan = grind (arith, nat_tests) in
        elim (beside_able (changes v.plan) v.rest (besides (u ∷ vs)) e i d a) [
          | inl b ↦ b
          | inr b ↦ absurd (clash (besides_sites (u ∷ vs) w.1 i (able_site (besides (u ∷ vs)) e i d b)) (not_behind v u vs i h l))
        ]

able_there : (o : Option View) (e : Store) (s : ℕ) (d : SiteAction) → Able (part_at o) e s d → (v : View) × (o ≡ Some v)
able_there None e s d (ks, q, f, st) = elim st [ ]
able_there (Some v) e s d a = (v, refl)

module _ (step : StepAt) (i : ℕ) (ts : List (Task Frame)) (vars : List Datum) (can : CanGo step (unstopped i (par (map seen_task ts))) vars) where
  pub par_preorder : PartsInPreorder (plans_of (task_views ts))
  par_preorder = can.in_preorder.1

  pub part_there : (k : ℕ) → k ≡ place_with step.site (task_views ts) → k < length ts
  part_there k at =
      let vs = task_views ts in
      let n = able_there (slice_get vs (place_with step.site vs)) (store vars) step.site (first_action step.actions) (found_able step.site vs (store vars) (first_action step.actions) can.in_preorder.1 (tasks_inside ts) can.able) in
      let l = slice_get_within vs (place_with step.site vs) n.0 n.1 in
      let z = task_count ts in
      omega arith

  pub par_part : (k : ℕ) (v : View) → k ≡ place_with step.site (task_views ts) → slice_get (task_views ts) k ≡ Some v → CanGo step v vars
  par_part k v at is =
      let vs = task_views ts in
      let e = store vars in
      let inside = tasks_inside ts in
      let there : slice_get vs (place_with step.site vs) ≡ Some v = ap (slice_get vs) (sym at) ∙ is in
      let sound : all_sound vs ≡ true = (and_parts (nat_lt 0 (length (map seen_task ts))) (all_sound vs) can.sound).1 in
      record {
        able = subst (λ o. Able (part_at o) e step.site (first_action step.actions)) there (found_able step.site vs e (first_action step.actions) can.in_preorder.1 inside can.able);
        brings = λ q. can.brings q ∙ found_assigned step.site vs e can.in_preorder.1 inside ∙ ap (λ o. assigned_at step.site (part_at o) e) there;
        variables = λ x h. can.variables x (part_changes vs k v x is h);
        in_preorder = part_is_in_preorder vs k v is can.in_preorder.1;
        sound = part_is_sound vs k v is sound;
      }

-- what one part does, all do
left_did : (mine : Set) (r s q : Rest) (e f : Store) (i : ℕ) (ds : Actions) → Did r e i ds s f → Did (beside_on mine r q) e i ds (beside_on mine s q) f
left_did mine r s q e f i (one d) (ks, st) = (ks, left_steps st mine q)
left_did mine r s q e f i (whole_output c) (ks, m, g, ls, begins, finishes) = (ks, beside_on mine m q, g, ls, left_steps begins mine q, left_steps finishes mine q)

right_did : (mine : Set) (r q s : Rest) (e f : Store) (i : ℕ) (ds : Actions) → Did q e i ds s f → Did (beside_on mine r q) e i ds (beside_on mine r s) f
right_did mine r q s e f i (one d) (ks, st) = (ks, right_steps st mine r)
right_did mine r q s e f i (whole_output c) (ks, m, g, ls, begins, finishes) = (ks, beside_on mine r m, g, ls, right_steps begins mine r, right_steps finishes mine r)

besides_did : (vs : List View) (k : ℕ) (v w : View) (e f : Store) (i : ℕ) (ds : Actions) → slice_get vs k ≡ Some v → w.plan ≡ v.plan → Did v.rest e i ds w.rest f → Did (besides vs) e i ds (besides (set vs k w)) f
besides_did [] k v w e f i ds is h a = absurd (let z : None ≡ Some v = is in cc)
besides_did (u ∷ vs) zero v w e f i ds is h a =
    let the : v ≡ u = cc in
    let same : changes w.plan ≡ changes u.plan = ap changes (h ∙ ap (λ (x : View). x.plan) the) in
    subst (λ m. Did (besides (u ∷ vs)) e i ds (beside_on m w.rest (besides vs)) f) (sym same) (left_did (changes u.plan) u.rest w.rest (besides vs) e f i ds (subst (λ (x : View). Did x.rest e i ds w.rest f) the a))
besides_did (u ∷ vs) (suc k) v w e f i ds is h a = right_did (changes u.plan) u.rest (besides vs) (besides (set vs k w)) e f i ds (besides_did vs k v w e f i ds is h a)

left_twice : (o : Outcome) (r : Rest) → left_by o (left_by o r) ≡ left_by o r
left_twice outcome.Ended r = refl
left_twice o r = refl

module _ (step : StepAt) (i : ℕ) (ts : List (Task Frame)) (k : ℕ) (v : View) (is : slice_get (task_views ts) k ≡ Some v) (sound : is_sound (par (map seen_task ts)) ≡ true) (e f : Store) (o : Outcome) (t : Task Frame) (begins : t.begins ≡ o) (went : Went step v e o (shown t) f) where
  changed : task_views (set ts k t) ≡ set (task_views ts) k (shown t)
  changed = ap (map task_view) (map-set seen_task ts k t) ∙ map-set task_view (map seen_task ts) k (seen_task t)

  kept : left_by o (shown t).rest ≡ (shown t).rest
  kept = ap (λ x. left_by o (left_by x (view t.frame).rest)) begins ∙ left_twice o (view t.frame).rest ∙ ap (λ x. left_by x (view t.frame).rest) (sym begins)

  pub tasks_still_sound : all_sound (task_views (set ts k t)) ≡ true
  tasks_still_sound = ap all_sound changed ∙ parts_still_sound (task_views ts) k (shown t) (and_parts (nat_lt 0 (length (map seen_task ts))) (all_sound (task_views ts)) sound).1 went.sound

  pub par_went : (p : Outcome) → p ≡ outcome_of (besides (task_views (set ts k t))) → Went step (unstopped i (par (map seen_task ts))) e p (unstopped i (par (map seen_task (set ts k t)))) f
  par_went p h =
      let ws = task_views (set ts k t) in
      let w = shown t in
      let did = besides_did (task_views ts) k v w e f step.site step.actions is went.plan (subst (λ (r : Rest). Did v.rest e step.site step.actions r f) kept went.did) in
      let whole : left_by p (besides ws) ≡ besides ws = ap (λ x. left_by x (besides ws)) h ∙ left_same (besides ws) in
      let some : nat_lt 0 (length (map seen_task (set ts k t))) ≡ true = ap (nat_lt 0) (length-map (set ts k t) seen_task ∙ length-set ts k t ∙ sym (length-map ts seen_task)) ∙ (and_parts (nat_lt 0 (length (map seen_task ts))) (all_sound (task_views ts)) sound).0 in
      record {
        did = subst (λ (r : Rest). Did (besides (task_views ts)) e step.site step.actions r f) (ap besides (sym changed) ∙ sym whole) did;
        plan = ap (λ us. PAR i (plans_of us)) changed ∙ ap (PAR i) (same_plans (task_views ts) k v w is went.plan);
        sound = and_from (nat_lt 0 (length (map seen_task (set ts k t)))) (all_sound ws) some tasks_still_sound;
        outcome = h ∙ ap outcome_of (sym whole);
      }

  -- where the part goes on
  pub par_goes : has_ended o ≡ false → Went step (unstopped i (par (map seen_task ts))) e outcome.Other (unstopped i (par (map seen_task (set ts k t)))) f
  par_goes n =
      let w = shown t in
      let goes : has_ended (outcome_of w.rest) ≡ false = ap (λ (r : Rest). has_ended (outcome_of r)) (sym kept) ∙ ap has_ended (sym went.outcome) ∙ n in
      let whole = besides_go (set (task_views ts) k w) k w (part_is_changed (task_views ts) k v w is) goes in
      par_went outcome.Other (sym whole ∙ ap (λ us. outcome_of (besides us)) (sym changed))
