-- What the body that goes on of an IF, an ALT or a loop can do and has done, the process around it can do and has done.
use Rattle.std.proofs.Common.{◌≡◌, ℕ, zero, suc, ℤ, pos, ◌+ℤ◌, true, false, ◌||◌, refl, ap, sym, ◌∙◌, subst, List, [], ◌∷◌, length, set, Option, Some, length-set}
use Rattle.std.proofs.lemmas.Bool.{and_from, and_parts}
use Rattle.std.proofs.lemmas.List.{map-set}
use Rattle.std.specs.Prelude.{slice_get, nat_lt}
use Rattle.vc_process.specs.declared.datum.Datum.{Datum}
use Rattle.vc_occam.specs.declared.frame.Branch.{Branch}
use Rattle.vc_occam.specs.declared.frame.Guard.{Guard}
use Rattle.vc_occam.specs.declared.frame.Turn.{Turn}
use Rattle.vc_occam.specs.declared.frame.Choice.TheVariants.{Within}
use Rattle.vc_occam.specs.declared.outcome.Outcome.{Outcome}
use Rattle.vc_occam.specs.declared.outcome.Outcome.TheVariants as outcome
use Rattle.vc_occam.specs.SiteActions.{SiteAction}
use Rattle.vc_occam.specs.Private.SiteSteps.{Actions, StepAt, first_action, one, whole_output}
use Rattle.vc_process.specs.Syntax.{Exp, Test, Proc, IF, WHILE, COUNT, ALT, no_parts, part, branch, guard}
use Rattle.vc_process.specs.Terms.{as_test, store}
use Rattle.vc_process.specs.Usage.{changes, changes_branches, changes_guards, just}
use Rattle.vc_process.specs.Values.{Store}
use Rattle.vc_occam.specs.Remains.{Rest, Done, Fresh, Then, Turns, in_turns, index_on, turns_on}
use Rattle.vc_occam.specs.Frames.{View, all_sound, bodies, branches_of, branching, counting, follow, guarded, guarding, guards_of, has_place, is_sound, left_by, looping, outcome_of, rest_of, turns_left}
use Rattle.vc_occam.specs.Private.Frames.{Able, CanGo, Did, HasTurned, Went, assigned_at, has_ended, turns_behind, unstopped}
use Rattle.vc_occam.specs.Private.Sites.{InPreorder, BranchesInPreorder, GuardsInPreorder}
use Rattle.vc_occam.proofs.Endings.{goes_on, left_goes, left_ended}
use Rattle.vc_occam.proofs.Lifting.{index_is, turns_is, turns_steps}
use Rattle.vc_occam.proofs.PartSteps.{part_is_changed, part_is_sound, parts_still_sound, then_able, then_did, then_ended, then_outcome}
use Rattle.vc_occam.proofs.Stores.{or_left, or_right}

-- the body in a list of branches
branch_changes : (bs : List (Branch View)) (k : ℕ) (v : View) (x : ℕ) → slice_get (bodies bs) k ≡ Some v → changes v.plan x ≡ true → changes_branches (branches_of bs) x ≡ true
branch_changes [] k v x h c = absurd cc
branch_changes (b ∷ bs) zero v x h c = let e : v ≡ b.body = cc in or_left (changes b.body.plan x) (changes_branches (branches_of bs) x) (ap (λ (u : View). changes u.plan x) (sym e) ∙ c)
branch_changes (b ∷ bs) (suc k) v x h c = or_right (changes b.body.plan x) (changes_branches (branches_of bs) x) (branch_changes bs k v x h c)

branch_in_preorder : (bs : List (Branch View)) (k : ℕ) (v : View) → slice_get (bodies bs) k ≡ Some v → BranchesInPreorder (branches_of bs) → InPreorder v.plan
branch_in_preorder [] k v h p = absurd cc
branch_in_preorder (b ∷ bs) zero v h p = let e : b.body ≡ v = cc in subst (λ (u : View). InPreorder u.plan) e p.1
branch_in_preorder (b ∷ bs) (suc k) v h p = branch_in_preorder bs k v h p.2

-- the branch at a place, with another body
abbrev pub with_body : Branch View → View → Branch View
with_body b w = record { cond = b.cond; body = w }

-- the processes that were written stay
pub same_branches : (bs : List (Branch View)) (k : ℕ) (b : Branch View) (w : View) → slice_get bs k ≡ Some b → w.plan ≡ b.body.plan → branches_of (set bs k (with_body b w)) ≡ branches_of bs
same_branches [] k b w h p = refl
same_branches (c ∷ bs) zero b w h p = let e : b ≡ c = cc in ap (λ q. branch (as_test b.cond) q (branches_of bs)) p ∙ ap (λ (x : Branch View). branch (as_test x.cond) x.body.plan (branches_of bs)) e
same_branches (c ∷ bs) (suc k) b w h p = ap (branch (as_test c.cond) c.body.plan) (same_branches bs k b w h p)

pub branch_body : (bs : List (Branch View)) (k : ℕ) (b : Branch View) → slice_get bs k ≡ Some b → slice_get (bodies bs) k ≡ Some b.body
branch_body [] k b h = absurd cc
branch_body (c ∷ bs) zero b h = let e : c ≡ b = cc in ap (λ (x : Branch View). Some x.body) e
branch_body (c ∷ bs) (suc k) b h = branch_body bs k b h

-- the body of an IF
module _ (step : StepAt) (i : ℕ) (bs : List (Branch View)) (k : ℕ) (b : Branch View) (is : slice_get bs k ≡ Some b) where
  pub branch_part : (vars : List Datum) → CanGo step (unstopped i (branching bs (Some k))) vars → CanGo step b.body vars
  branch_part vars c =
      let at = branch_body bs k b is in
      let rest : follow (slice_get (bodies bs) k) no_parts ≡ b.body.rest = ap (λ o. follow o no_parts) at in
      record {
        able = subst (λ (r : Rest). Able r (store vars) step.site (first_action step.actions)) rest c.able;
        brings = λ q. c.brings q ∙ ap (λ (r : Rest). assigned_at step.site r (store vars)) rest;
        variables = λ x h. c.variables x (branch_changes bs k b.body x at h);
        in_preorder = branch_in_preorder bs k b.body at c.in_preorder.1;
        sound = part_is_sound (bodies bs) k b.body at (and_parts (has_place (Some k) (length bs)) (all_sound (bodies bs)) c.sound).1;
      }

  pub branch_sound : (w : View) → nat_lt k (length bs) ≡ true → all_sound (bodies bs) ≡ true → w.sound ≡ true → is_sound (branching (set bs k (with_body b w)) (Some k)) ≡ true
  branch_sound w l s h =
      let cs = set bs k (with_body b w) in
      and_from (nat_lt k (length cs)) (all_sound (bodies cs)) (ap (nat_lt k) (length-set bs k (with_body b w)) ∙ l)
      (ap all_sound (map-set (λ (b : Branch View). b.body) bs k (with_body b w)) ∙ parts_still_sound (bodies bs) k w s h)

  pub branch_rest : (w : View) → rest_of i (branching (set bs k (with_body b w)) (Some k)) ≡ w.rest
  branch_rest w =
      ap (λ vs. follow (slice_get vs k) no_parts) (map-set (λ (b : Branch View). b.body) bs k (with_body b w)) ∙ ap (λ o. follow o no_parts) (part_is_changed (bodies bs) k b.body w (branch_body bs k b is))

  pub branch_went : (e : Store) (o : Outcome) (w : View) (f : Store) → is_sound (branching bs (Some k)) ≡ true → Went step b.body e o w f → Went step (unstopped i (branching bs (Some k))) e o (unstopped i (branching (set bs k (with_body b w)) (Some k))) f
  branch_went e o w f sound went =
      let at = branch_body bs k b is in
      let before : rest_of i (branching bs (Some k)) ≡ b.body.rest = ap (λ o. follow o no_parts) at in
      let after = branch_rest w in
      record {
        did = subst (λ (r : Rest). Did r e step.site step.actions (left_by o (rest_of i (branching (set bs k (with_body b w)) (Some k)))) f) (sym before) (subst (λ (r : Rest). Did b.body.rest e step.site step.actions (left_by o r) f) (sym after) went.did);
        plan = ap (IF i) (same_branches bs k b w is went.plan);
        sound = branch_sound w (and_parts (nat_lt k (length bs)) (all_sound (bodies bs)) sound).0 (and_parts (nat_lt k (length bs)) (all_sound (bodies bs)) sound).1 went.sound;
        outcome = went.outcome ∙ ap (λ (r : Rest). outcome_of (left_by o r)) (sym after);
      }

-- the body in a list of guards
guard_changes : (gs : List (Guard View)) (k : ℕ) (v : View) (x : ℕ) → slice_get (guarded gs) k ≡ Some v → changes v.plan x ≡ true → changes_guards (guards_of gs) x ≡ true
guard_changes [] k v x h c = absurd cc
guard_changes (g ∷ gs) zero v x h c =
    let e : v ≡ g.body = cc in
    or_left (just g.var x || changes g.body.plan x) (changes_guards (guards_of gs) x) (or_right (just g.var x) (changes g.body.plan x) (ap (λ (u : View). changes u.plan x) (sym e) ∙ c))
guard_changes (g ∷ gs) (suc k) v x h c = or_right (just g.var x || changes g.body.plan x) (changes_guards (guards_of gs) x) (guard_changes gs k v x h c)

guard_in_preorder : (gs : List (Guard View)) (k : ℕ) (v : View) → slice_get (guarded gs) k ≡ Some v → GuardsInPreorder (guards_of gs) → InPreorder v.plan
guard_in_preorder [] k v h p = absurd cc
guard_in_preorder (g ∷ gs) zero v h p = let e : g.body ≡ v = cc in subst (λ (u : View). InPreorder u.plan) e p.1
guard_in_preorder (g ∷ gs) (suc k) v h p = guard_in_preorder gs k v h p.2

-- the guard at a place, with another body
abbrev pub guarding_body : Guard View → View → Guard View
guarding_body g w = record { cond = g.cond; chan = g.chan; var = g.var; body = w }

-- the processes that were written stay
pub same_guards : (gs : List (Guard View)) (k : ℕ) (g : Guard View) (w : View) → slice_get gs k ≡ Some g → w.plan ≡ g.body.plan → guards_of (set gs k (guarding_body g w)) ≡ guards_of gs
same_guards [] k g w h p = refl
same_guards (c ∷ gs) zero g w h p =
    let e : g ≡ c = cc in
    ap (λ q. guard (as_test g.cond) g.chan g.var q (guards_of gs)) p ∙ ap (λ (x : Guard View). guard (as_test x.cond) x.chan x.var x.body.plan (guards_of gs)) e
same_guards (c ∷ gs) (suc k) g w h p = ap (guard (as_test c.cond) c.chan c.var c.body.plan) (same_guards gs k g w h p)

pub guard_body : (gs : List (Guard View)) (k : ℕ) (g : Guard View) → slice_get gs k ≡ Some g → slice_get (guarded gs) k ≡ Some g.body
guard_body [] k g h = absurd cc
guard_body (c ∷ gs) zero g h = let e : c ≡ g = cc in ap (λ (x : Guard View). Some x.body) e
guard_body (c ∷ gs) (suc k) g h = guard_body gs k g h

-- the body of an ALT
module _ (step : StepAt) (i : ℕ) (gs : List (Guard View)) (k : ℕ) (g : Guard View) (is : slice_get gs k ≡ Some g) where
  pub guard_part : (vars : List Datum) → CanGo step (unstopped i (guarding gs (Within k))) vars → CanGo step g.body vars
  guard_part vars c =
      let at = guard_body gs k g is in
      let rest : follow (slice_get (guarded gs) k) no_parts ≡ g.body.rest = ap (λ o. follow o no_parts) at in
      record {
        able = subst (λ (r : Rest). Able r (store vars) step.site (first_action step.actions)) rest c.able;
        brings = λ q. c.brings q ∙ ap (λ (r : Rest). assigned_at step.site r (store vars)) rest;
        variables = λ x h. c.variables x (guard_changes gs k g.body x at h);
        in_preorder = guard_in_preorder gs k g.body at c.in_preorder.1;
        sound = part_is_sound (guarded gs) k g.body at (and_parts (nat_lt k (length gs)) (all_sound (guarded gs)) (and_parts (nat_lt (length gs) 65536) _ c.sound).1).1;
      }

  pub guard_sound : (w : View) → nat_lt (length gs) 65536 ≡ true → nat_lt k (length gs) ≡ true → all_sound (guarded gs) ≡ true → w.sound ≡ true → is_sound (guarding (set gs k (guarding_body g w)) (Within k)) ≡ true
  guard_sound w m l s h =
      let cs = set gs k (guarding_body g w) in
      let same = length-set gs k (guarding_body g w) in
      and_from (nat_lt (length cs) 65536) _ (ap (λ n. nat_lt n 65536) same ∙ m)
      (and_from (nat_lt k (length cs)) (all_sound (guarded cs)) (ap (nat_lt k) same ∙ l) (ap all_sound (map-set (λ (g : Guard View). g.body) gs k (guarding_body g w)) ∙ parts_still_sound (guarded gs) k w s h))

  pub guard_rest : (w : View) → rest_of i (guarding (set gs k (guarding_body g w)) (Within k)) ≡ w.rest
  guard_rest w =
      ap (λ vs. follow (slice_get vs k) no_parts) (map-set (λ (g : Guard View). g.body) gs k (guarding_body g w)) ∙ ap (λ o. follow o no_parts) (part_is_changed (guarded gs) k g.body w (guard_body gs k g is))

  pub guard_went : (e : Store) (o : Outcome) (w : View) (f : Store) → is_sound (guarding gs (Within k)) ≡ true → Went step g.body e o w f → Went step (unstopped i (guarding gs (Within k))) e o (unstopped i (guarding (set gs k (guarding_body g w)) (Within k))) f
  guard_went e o w f sound went =
      let at = guard_body gs k g is in
      let before : rest_of i (guarding gs (Within k)) ≡ g.body.rest = ap (λ o. follow o no_parts) at in
      let after = guard_rest w in
      let behind = (and_parts (nat_lt (length gs) 65536) _ sound).1 in
      record {
        did = subst (λ (r : Rest). Did r e step.site step.actions (left_by o (rest_of i (guarding (set gs k (guarding_body g w)) (Within k)))) f) (sym before) (subst (λ (r : Rest). Did g.body.rest e step.site step.actions (left_by o r) f) (sym after) went.did);
        plan = ap (ALT i) (same_guards gs k g w is went.plan);
        sound = guard_sound w (and_parts (nat_lt (length gs) 65536) _ sound).0 (and_parts (nat_lt k (length gs)) (all_sound (guarded gs)) behind).0 (and_parts (nat_lt k (length gs)) (all_sound (guarded gs)) behind).1 went.sound;
        outcome = went.outcome ∙ ap (λ (r : Rest). outcome_of (left_by o r)) (sym after);
      }

-- the body of a WHILE
module _ (step : StepAt) (i : ℕ) (b : Test) (v : View) where
  pub turn_part : (vars : List Datum) → CanGo step (unstopped i (looping b v true)) vars → CanGo step v vars
  turn_part vars c =
      record {
        able = then_able v.rest (part (WHILE i b v.plan) no_parts) (store vars) step.site (first_action step.actions) c.able;
        brings = c.brings;
        variables = c.variables;
        in_preorder = c.in_preorder.1;
        sound = c.sound;
      }

  pub turn_goes : (e : Store) (o : Outcome) (w : View) (f : Store) → Went step v e o w f → has_ended o ≡ false → Went step (unstopped i (looping b v true)) e o (unstopped i (looping b w true)) f
  turn_goes e o w f went n =
      let ps = part (WHILE i b v.plan) no_parts in
      let same : part (WHILE i b w.plan) no_parts ≡ ps = ap (λ p. part (WHILE i b p) no_parts) went.plan in
      record {
        did = subst (λ qs. Did (Then v.rest ps) e step.site step.actions (left_by o (Then w.rest qs)) f) (sym same) (then_did v.rest w.rest ps o e f step.site step.actions went.did went.outcome n);
        plan = ap (WHILE i b) went.plan;
        sound = went.sound;
        outcome = then_outcome w.rest ps o went.outcome n ∙ ap (λ qs. outcome_of (left_by o (Then w.rest qs))) (sym same);
      }

  pub turn_ended : (e : Store) (o : Outcome) (w : View) (f : Store) → Went step v e o w f → has_ended o ≡ true → Went step (unstopped i (looping b v true)) e (outcome.Quiet i) (unstopped i (looping b w false)) f
  turn_ended e o w f went n =
      let ps = part (WHILE i b v.plan) no_parts in
      let did = then_ended v.rest ps e f step.site step.actions (subst (λ (r : Rest). Did v.rest e step.site step.actions r f) (left_ended o w.rest n) went.did) in
      record {
        did = subst (λ p. Did (Then v.rest ps) e step.site step.actions (Fresh (WHILE i b p)) f) (sym went.plan) did;
        plan = ap (WHILE i b) went.plan;
        sound = went.sound;
        outcome = refl;
      }

-- the body of a replicated SEQ
counted_able : (r : Rest) (v : ℕ) (b : ℤ) (n : ℕ) (p : _) (e : Store) (s : ℕ) (d : SiteAction) → Able (Turns r v b n p) e s d → Able r e s d
counted_able r v b n p e s d (ks, q, f, in_turns {r' = r'} {e' = e'} st) = (ks, r', e', st)

-- what it does, it does with the turns behind it
in_turns_did : (r q : Rest) (v : ℕ) (b : ℤ) (n : ℕ) (p : Proc) (e f : Store) (i : ℕ) (ds : Actions) → Did r e i ds q f → Did (Turns r v b n p) e i ds (turns_on q v b n p) (index_on q v b n f)
in_turns_did r q v b n p e f i (one d) (ks, st) = (ks, in_turns st)
in_turns_did r q v b n p e f i (whole_output c) (ks, m, g, ls, begins, finishes) = (ks, turns_on m v b n p, index_on m v b n g, ls, in_turns begins, turns_steps finishes v b n p)

module _ (step : StepAt) (i x : ℕ) (a n : Exp) (v : View) (t : Turn) where
  pub count_part : (vars : List Datum) → CanGo step (unstopped i (counting x a n v (Some t))) vars → CanGo step v vars
  count_part vars c =
      record {
        able = counted_able v.rest x (t.index +ℤ pos 1) (turns_left t.index t.last) v.plan (store vars) step.site (first_action step.actions) c.able;
        brings = c.brings;
        variables = λ y h. c.variables y (or_right (just x y) (changes v.plan y) h);
        in_preorder = c.in_preorder.1;
        sound = c.sound;
      }

  pub count_goes : (e : Store) (o : Outcome) (w : View) (f : Store) → Went step v e o w f → has_ended o ≡ false → Went step (unstopped i (counting x a n v (Some t))) e o (unstopped i (counting x a n w (Some t))) f
  count_goes e o w f went still =
      let b = t.index +ℤ pos 1 in
      let m = turns_left t.index t.last in
      let left = left_goes o w.rest still in
      let is : o ≡ outcome_of w.rest = went.outcome ∙ ap outcome_of left in
      let goes : has_ended (outcome_of w.rest) ≡ false = ap has_ended (sym is) ∙ still in
      let whole = in_turns_did v.rest w.rest x b m v.plan e f step.site step.actions (subst (λ (r : Rest). Did v.rest e step.site step.actions r f) left went.did) in
      let by_store = subst (λ (g : Store). Did (Turns v.rest x b m v.plan) e step.site step.actions (turns_on w.rest x b m v.plan) g) (index_is w.rest x b m f (goes_on goes)) whole in
      let after : left_by o (Turns w.rest x b m w.plan) ≡ turns_on w.rest x b m v.plan = left_goes o (Turns w.rest x b m w.plan) still ∙ ap (Turns w.rest x b m) went.plan ∙ sym (turns_is w.rest x b m v.plan (goes_on goes)) in
      record {
        did = subst (λ (r : Rest). Did (Turns v.rest x b m v.plan) e step.site step.actions r f) (sym after) by_store;
        plan = ap (COUNT i x a n) went.plan;
        sound = went.sound;
        outcome = then_outcome w.rest (part w.plan no_parts) o went.outcome still ∙ ap outcome_of (left_goes o (Then w.rest (part w.plan no_parts)) still) ∙ ap outcome_of (sym (left_goes o (Turns w.rest x b m w.plan) still));
      }

  pub count_went : (e : Store) (o : Outcome) (w : View) (f : Store) (p : Outcome) (y : ℕ) (c d : Exp) (u : View) (s : Option Turn) (g : Store) → Went step v e o w f → has_ended o ≡ true → HasTurned t (counting x a n w (Some t)) f p (counting y c d u s) g →
      Went step (unstopped i (counting x a n v (Some t))) e p (unstopped i (counting y c d u s)) g
  count_went e o w f p y c d u s g went ended turned =
      let b = t.index +ℤ pos 1 in
      let m = turns_behind t in
      let whole = in_turns_did v.rest Done x b m v.plan e f step.site step.actions (subst (λ (r : Rest). Did v.rest e step.site step.actions r f) (left_ended o w.rest ended) went.did) in
      let same : turns_on Done x b m w.plan ≡ turns_on Done x b m v.plan = ap (turns_on Done x b m) went.plan in
      let after : left_by p (rest_of i (counting y c d u s)) ≡ turns_on Done x b m v.plan = turned.rest i ∙ same in
      record {
        did = subst (λ (r : Rest). Did (Turns v.rest x b m v.plan) e step.site step.actions r g) (sym after) (subst (λ (h : Store). Did (Turns v.rest x b m v.plan) e step.site step.actions (turns_on Done x b m v.plan) h) (sym turned.value) whole);
        plan = turned.plan i ∙ ap (COUNT i x a n) went.plan;
        sound = turned.sound;
        outcome = turned.outcome ∙ ap outcome_of (same ∙ sym after);
      }
