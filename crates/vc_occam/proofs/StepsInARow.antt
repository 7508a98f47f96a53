-- What the part that goes on alone has done in a row, the process around it has done in a row.
use Rattle.std.proofs.Common.{◌≡◌, ◌∙◌, ◌+◌, ◌<◌, ◌≤◌, ℕ, zero, suc, true, false, ap, arith, drop, length, refl, set, subst, sym, List, [], ◌∷◌, None, Some}
use Rattle.std.specs.Prelude.{nat_lt, slice_get}
use Rattle.std.proofs.Common.{length-set}
use Rattle.std.proofs.lemmas.Bool.{and_from, and_parts}
use Rattle.std.specs.List.{Contains}
use Rattle.vc_process.specs.declared.datum.Datum.{Datum}
use Rattle.vc_occam.specs.declared.answer.Answer.TheVariants.{Nothing}
use Rattle.vc_occam.specs.declared.frame.Branch.{Branch}
use Rattle.vc_occam.specs.declared.frame.Construct.{Construct}
use Rattle.vc_occam.specs.declared.frame.Frame.{Frame}
use Rattle.vc_occam.specs.declared.frame.Frame.TheOpen.{Frame-F}
use Rattle.vc_occam.specs.declared.frame.Frame.TheViews.{out-Frame, roll-Frame}
use Rattle.vc_occam.specs.declared.frame.Task.{Task}
use Rattle.vc_occam.specs.declared.moves.Move.{Move}
use Rattle.vc_occam.specs.declared.moves.Move.TheVariants as move
use Rattle.vc_occam.specs.declared.outcome.Outcome.{Outcome}
use Rattle.vc_occam.specs.declared.outcome.Outcome.TheVariants as outcome
use Rattle.vc_occam.specs.First.{joined}
use Rattle.vc_occam.specs.InUse.{UsesLawfully}
use Rattle.vc_occam.specs.Private.MoveSites.{at}
use Rattle.vc_occam.specs.SiteActions as action
use Rattle.vc_occam.specs.Sites.{OwnSites}
use Rattle.vc_occam.specs.StepsInARow.{RestsOn, on, still}
use Rattle.vc_process.specs.Usage.{Set}
use Rattle.vc_occam.specs.Frames.{View, all_sound, branches_of, branching, follow, is_sound, left_by, looping, outcome_of, plan_of, plans_of, remains, rest_of, same_outcome, seq, unless_ended, view, view_of}
use Rattle.vc_occam.specs.Private.Frames.{CanGo, Did, HasNext, HasVariables, Went, has_ended, shape, shown, unstopped}
use Rattle.vc_occam.specs.Remains.{Rest, and_then}
use Rattle.vc_occam.specs.Private.SiteSteps.{one, quiet_at}
use Rattle.vc_occam.specs.Private.Sites.{InPreorder}
use Rattle.vc_occam.specs.Private.StepsInARow.{Stepped, once, more}
use Rattle.vc_process.specs.Syntax.{Proc, SEQ, PAR, IF, WHILE, COUNT, Procs, no_parts, part, Branches, no_branches, branch, Test}
use Rattle.vc_process.specs.Terms.{store}
use Rattle.vc_process.specs.Values.{Store}
use Rattle.vc_process.proofs.Lists.{at_front}
use Rattle.vc_occam.proofs.SiteActs.{frame_runs, running_view}
use Rattle.vc_occam.proofs.MoveActs.{acts}
use Rattle.vc_occam.proofs.Endings.{left_again}
use Rattle.vc_occam.proofs.Preservation.{step_uses}
use Rattle.vc_occam.proofs.Sites.{step_keeps}
use Rattle.vc_occam.proofs.Starts.{same_as_itself}
use Rattle.vc_occam.proofs.Bodies.{branch_body, branch_went, turn_ended, turn_goes, with_body}
use Rattle.vc_occam.proofs.PartSteps.{part_is_changed, parts_still_sound, seq_goes, seq_sound, seq_went}
use Rattle.vc_occam.proofs.Made.{able}
use Rattle.vc_occam.proofs.Outcomes.{quiet_assigned, quiet_own}
use Rattle.vc_occam.proofs.Views.{view_roll}

-- the processes that were written stay
pub stepped_plan : {i n k : ℕ} {v w : View} {e f : Store} {o : Outcome} → Stepped i n k v e o w f → w.plan ≡ v.plan
stepped_plan (once w) = w.plan
stepped_plan (more w s) = stepped_plan s ∙ w.plan

pub stepped_sound : {i n k : ℕ} {v w : View} {e f : Store} {o : Outcome} → Stepped i n k v e o w f → w.sound ≡ true
stepped_sound (once w) = w.sound
stepped_sound (more w s) = stepped_sound s

pub stepped_only : {i n k j : ℕ} {v w : View} {e f : Store} → Stepped i n k v e (outcome.Quiet j) w f → outcome_of w.rest ≡ outcome.Quiet j
stepped_only (once w) = sym w.outcome
stepped_only (more w s) = stepped_only s

-- where it comes to one step, that can be made
pub can_begin : (j : ℕ) (w : View) (vars : List Datum) → outcome_of w.rest ≡ outcome.Quiet j → HasVariables w.plan (length vars) → InPreorder w.plan → w.sound ≡ true → CanGo (quiet_at j None) w vars
can_begin j w vars is has in_preorder sound = record {
  able = able w.rest (store vars) (move.Quiet j) Nothing (subst (λ (ms : List Move). Contains ms (move.Quiet j)) (sym (quiet_own w.rest j (store vars) is)) (at_front (move.Quiet j) []));
  brings = λ q. sym (quiet_assigned j w.rest j (store vars) is);
  variables = has;
  in_preorder = in_preorder;
  sound = sound;
}

pub can_on : (i n k j : ℕ) (v w : View) (vars new : List Datum) → Stepped i n k v (store vars) (outcome.Quiet j) w (store new) → CanGo (quiet_at i None) v vars → length new ≡ length vars → CanGo (quiet_at j None) w new
can_on i n k j v w vars new s c l =
    let plan = stepped_plan s in
    can_begin j w new (stepped_only s) (subst (λ (p : Proc). HasVariables p (length new)) (sym plan) (subst (HasVariables v.plan) (sym l) c.variables))
    (subst InPreorder (sym plan) c.in_preorder) (stepped_sound s)

-- one row behind another
pub in_a_row : {i n l j m k : ℕ} {v u w : View} {e g f : Store} {o : Outcome} → Stepped i n l v e (outcome.Quiet j) u g → Stepped j m k u g o w f → Stepped i (n + m) k v e o w f
in_a_row {i = i} {m = m} {k = k} {v = v} {w = w} {e = e} {f = f} {o = o} (once went) t =
    let one : suc m ≡ 1 + m = omega arith in
    subst (λ x. Stepped i x k v e o w f) one (more went t)
in_a_row {i = i} {m = m} {k = k} {v = v} {w = w} {e = e} {f = f} {o = o} (more {n = n} went s) t =
    let one : suc (n + m) ≡ suc n + m = omega arith in
    subst (λ x. Stepped i x k v e o w f) one (more went (in_a_row s t))

-- a part that is changed twice
set_twice : {X : Type 0} (xs : List X) (k : ℕ) (x y : X) → set (set xs k x) k y ≡ set xs k y
set_twice [] k x y = refl
set_twice (z ∷ xs) zero x y = refl
set_twice (z ∷ xs) (suc k) x y = ap (λ ys. z ∷ ys) (set_twice xs k x y)

-- the part of a SEQ
pub seq_still_sound : (vs : List View) (k : ℕ) (w : View) → is_sound (seq vs k) ≡ true → w.sound ≡ true → is_sound (seq (set vs k w) k) ≡ true
seq_still_sound vs k w sound new =
    let both = and_parts (nat_lt k (length vs)) (all_sound vs) sound in
    and_from (nat_lt k (length (set vs k w))) (all_sound (set vs k w)) (ap (nat_lt k) (length-set vs k w) ∙ both.0) (parts_still_sound vs k w both.1 new)

pub seq_steps : {s n z : ℕ} {v w : View} {e f : Store} {o : Outcome} (i : ℕ) (vs : List View) (k : ℕ) → slice_get vs k ≡ Some v → is_sound (seq vs k) ≡ true → has_ended o ≡ false → Stepped s n z v e o w f →
    Stepped s n z (unstopped i (seq vs k)) e o (unstopped i (seq (set vs k w) k)) f
seq_steps {s = s} {v = v} {w = w} {e = e} {f = f} {o = o} i vs k is sound n (once went) = once (seq_goes (quiet_at s None) i vs k v is e o w f sound went n)
seq_steps {s = s} {z = z} {v = v} {w = w} {e = e} {f = f} {o = o} i vs k is sound n (more {n = l} {j = j} {u = u} {g = g} went rest) =
    let first = seq_goes (quiet_at s None) i vs k v is e (outcome.Quiet j) u g sound went refl in
    let then = seq_steps i (set vs k u) k (part_is_changed vs k v u is) (seq_sound (quiet_at s None) i vs k v is e (outcome.Quiet j) u g sound went) n rest in
    more first (subst (λ ws. Stepped j l z (unstopped i (seq (set vs k u) k)) g o (unstopped i (seq ws k)) f) (set_twice vs k u w) then)

pub seq_steps_on : {s n z : ℕ} {v w : View} {e f : Store} {o : Outcome} (i : ℕ) (vs : List View) (k : ℕ) (t : Outcome) (ws : List View) (m : ℕ) → slice_get vs k ≡ Some v → is_sound (seq vs k) ≡ true → has_ended o ≡ true → HasNext (set vs k w) k t ws m → Stepped s n z v e o w f →
    Stepped s n z (unstopped i (seq vs k)) e t (unstopped i (seq ws m)) f
seq_steps_on {s = s} {v = v} {w = w} {e = e} {f = f} {o = o} i vs k t ws m is sound n next (once went) = once (seq_went (quiet_at s None) i vs k v is e o w f sound went t ws m n next)
seq_steps_on {s = s} {v = v} {w = w} {e = e} {f = f} {o = o} i vs k t ws m is sound n next (more {n = l} {j = j} {u = u} {g = g} went rest) =
    let first = seq_goes (quiet_at s None) i vs k v is e (outcome.Quiet j) u g sound went refl in
    more first (seq_steps_on i (set vs k u) k t ws m (part_is_changed vs k v u is) (seq_sound (quiet_at s None) i vs k v is e (outcome.Quiet j) u g sound went) n
    (subst (λ xs. HasNext xs k t ws m) (sym (set_twice vs k u w)) next) rest)

-- the branch of an IF
pub branch_steps : {s n z : ℕ} {w : View} {e f : Store} {o : Outcome} (i : ℕ) (bs : List (Branch View)) (k : ℕ) (b : Branch View) → slice_get bs k ≡ Some b → is_sound (branching bs (Some k)) ≡ true → Stepped s n z b.body e o w f →
    Stepped s n z (unstopped i (branching bs (Some k))) e o (unstopped i (branching (set bs k (with_body b w)) (Some k))) f
branch_steps {s = s} {w = w} {e = e} {f = f} {o = o} i bs k b is sound (once went) = once (branch_went (quiet_at s None) i bs k b is e o w f sound went)
branch_steps {s = s} {z = z} {w = w} {e = e} {f = f} {o = o} i bs k b is sound (more {n = l} {j = j} {u = u} {g = g} went rest) =
    let first = branch_went (quiet_at s None) i bs k b is e (outcome.Quiet j) u g sound went in
    let then = branch_steps i (set bs k (with_body b u)) k (with_body b u) (changed bs k b (with_body b u) is) first.sound rest in
    more first (subst (λ cs. Stepped j l z (unstopped i (branching (set bs k (with_body b u)) (Some k))) g o (unstopped i (branching cs (Some k))) f) (set_twice bs k (with_body b u) (with_body b w)) then)
  where
    changed : {X : Type 0} (xs : List X) (k : ℕ) (x y : X) → slice_get xs k ≡ Some x → slice_get (set xs k y) k ≡ Some y
    changed [] k x y h = absurd cc
    changed (z ∷ xs) zero x y h = refl
    changed (z ∷ xs) (suc k) x y h = changed xs k x y h

-- a turn of a WHILE
pub turn_steps : {s n z : ℕ} {v w : View} {e f : Store} {o : Outcome} (i : ℕ) (b : Test) → has_ended o ≡ false → Stepped s n z v e o w f → Stepped s n z (unstopped i (looping b v true)) e o (unstopped i (looping b w true)) f
turn_steps {s = s} {v = v} {w = w} {e = e} {f = f} {o = o} i b n (once went) = once (turn_goes (quiet_at s None) i b v e o w f went n)
turn_steps {s = s} {v = v} {e = e} i b n (more {n = l} {j = j} {u = u} {g = g} went rest) = more (turn_goes (quiet_at s None) i b v e (outcome.Quiet j) u g went refl) (turn_steps i b n rest)

pub turn_steps_off : {s n z : ℕ} {v w : View} {e f : Store} {o : Outcome} (i : ℕ) (b : Test) → has_ended o ≡ true → Stepped s n z v e o w f → Stepped s n z (unstopped i (looping b v true)) e (outcome.Quiet i) (unstopped i (looping b w false)) f
turn_steps_off {s = s} {v = v} {w = w} {e = e} {f = f} {o = o} i b n (once went) = once (turn_ended (quiet_at s None) i b v e o w f went n)
turn_steps_off {s = s} {v = v} {e = e} i b n (more {n = l} {j = j} {u = u} {g = g} went rest) = more (turn_goes (quiet_at s None) i b v e (outcome.Quiet j) u g went refl) (turn_steps_off i b n rest)

-- how much is written in a process, by which the way down to a part ends
mutual
  pub weight : Proc → ℕ
  weight (SEQ i ps) = suc (weights ps)
  weight (PAR i ps) = suc (weights ps)
  weight (IF i bs) = suc (branch_weights bs)
  weight (WHILE i b p) = suc (weight p)
  weight (COUNT i v a n p) = suc (weight p)
  weight p = 1

  weights : Procs → ℕ
  weights no_parts = 0
  weights (part p ps) = weight p + weights ps

  branch_weights : Branches → ℕ
  branch_weights no_branches = 0
  branch_weights (branch b p bs) = weight p + branch_weights bs

part_within : (vs : List View) (k : ℕ) (v : View) → slice_get vs k ≡ Some v → weight v.plan ≤ weights (plans_of vs)
unfolding weight weights
part_within [] k v h = absurd cc
part_within (w ∷ vs) zero v h =
    let sum : weights (plans_of (w ∷ vs)) ≡ weight w.plan + weights (plans_of vs) = refl in
    let same : weight w.plan ≡ weight v.plan = (let z : w ≡ v = cc in ap (λ (u : View). weight u.plan) z) in
    omega arith
part_within (w ∷ vs) (suc k) v h =
    let sum : weights (plans_of (w ∷ vs)) ≡ weight w.plan + weights (plans_of vs) = refl in
    let l = part_within vs k v h in omega arith

pub part_lighter : (i : ℕ) (vs : List View) (k : ℕ) (v : View) → slice_get vs k ≡ Some v → weight v.plan < weight (SEQ i (plans_of vs))
unfolding weight weights
part_lighter i vs k v h =
    let one : weight (SEQ i (plans_of vs)) ≡ suc (weights (plans_of vs)) = refl in
    let l = part_within vs k v h in omega arith

body_within : (bs : List (Branch View)) (k : ℕ) (b : Branch View) → slice_get bs k ≡ Some b → weight b.body.plan ≤ branch_weights (branches_of bs)
unfolding weight branch_weights
body_within [] k b h = absurd cc
body_within (c ∷ bs) zero b h =
    let sum : branch_weights (branches_of (c ∷ bs)) ≡ weight c.body.plan + branch_weights (branches_of bs) = refl in
    let same : weight c.body.plan ≡ weight b.body.plan = (let z : c ≡ b = cc in ap (λ (x : Branch View). weight x.body.plan) z) in
    omega arith
body_within (c ∷ bs) (suc k) b h =
    let sum : branch_weights (branches_of (c ∷ bs)) ≡ weight c.body.plan + branch_weights (branches_of bs) = refl in
    let l = body_within bs k b h in omega arith

pub body_lighter : (i : ℕ) (bs : List (Branch View)) (k : ℕ) (b : Branch View) → slice_get bs k ≡ Some b → weight b.body.plan < weight (IF i (branches_of bs))
unfolding weight branch_weights
body_lighter i bs k b h =
    let one : weight (IF i (branches_of bs)) ≡ suc (branch_weights (branches_of bs)) = refl in
    let l = body_within bs k b h in omega arith

pub turn_lighter : (i : ℕ) (b : Test) (p : Proc) → weight p < weight (WHILE i b p)
unfolding weight
turn_lighter i b p = let one : weight (WHILE i b p) ≡ suc (weight p) = refl in omega arith

-- where what goes on comes to one step, so does the part
unless_only : (o : Outcome) (j : ℕ) → unless_ended o ≡ outcome.Quiet j → o ≡ outcome.Quiet j
unless_only outcome.Ended j h = absurd cc
unless_only o j h = h

then_only : (r : Rest) (ps : Procs) (j : ℕ) → outcome_of (and_then r ps) ≡ outcome.Quiet j → outcome_of r ≡ outcome.Quiet j
then_only r no_parts j h = h
then_only r (part p ps) j h = unless_only (outcome_of r) j h

pub seq_only : (i : ℕ) (vs : List View) (k : ℕ) (v : View) (j : ℕ) → slice_get vs k ≡ Some v → outcome_of (rest_of i (seq vs k)) ≡ outcome.Quiet j → outcome_of v.rest ≡ outcome.Quiet j
seq_only i vs k v j is h =
    let ps = plans_of (drop (suc k) vs) in
    then_only v.rest ps j (ap (λ o. outcome_of (follow o ps)) (sym is) ∙ h)

pub branch_only : (i : ℕ) (bs : List (Branch View)) (k : ℕ) (b : Branch View) (j : ℕ) → slice_get bs k ≡ Some b → outcome_of (rest_of i (branching bs (Some k))) ≡ outcome.Quiet j → outcome_of b.body.rest ≡ outcome.Quiet j
branch_only i bs k b j is h = ap (λ o. outcome_of (follow o no_parts)) (sym (branch_body bs k b is)) ∙ h

pub turn_only : (i : ℕ) (b : Test) (v : View) (j : ℕ) → outcome_of (rest_of i (looping b v true)) ≡ outcome.Quiet j → outcome_of v.rest ≡ outcome.Quiet j
turn_only i b v j h = unless_only (outcome_of v.rest) j h

-- of a frame, by its construct
module _ (s : ℕ) (f : Frame) (k : Construct Frame) (vars : List Datum) (can : CanGo (quiet_at s None) (view f) vars) (is : (out-Frame f).construct ≡ k) where
  same_view : view f ≡ view_of (out-Frame f).site false (shape k)
  same_view = running_view f k (frame_runs (quiet_at s None) f vars can) is

  pub frame_only : (j : ℕ) → outcome_of (view f).rest ≡ outcome.Quiet j → outcome_of (rest_of (out-Frame f).site (shape k)) ≡ outcome.Quiet j
  frame_only j h = ap (λ (v : View). outcome_of v.rest) (sym same_view) ∙ h

  pub frame_weight : weight (view f).plan ≡ weight (plan_of (out-Frame f).site (shape k))
  frame_weight = ap (λ (v : View). weight v.plan) same_view

  pub rolled_steps : (n z : ℕ) (l : Construct Frame) (o : Outcome) (h : Store) → Stepped s n z (unstopped (out-Frame f).site (shape k)) (store vars) o (unstopped (out-Frame f).site (shape l)) h →
      Stepped s n z (view f) (store vars) o (view (roll-Frame (record { site = (out-Frame f).site; stopped = (out-Frame f).stopped; construct = l }))) h
  rolled_steps n z l o h steps =
      let new : Frame-F Frame = record { site = (out-Frame f).site; stopped = (out-Frame f).stopped; construct = l } in
      let after = view_roll new ∙ ap (λ b. view_of (out-Frame f).site b (shape l)) (frame_runs (quiet_at s None) f vars can) in
      subst (λ (v : View). Stepped s n z v (store vars) o (view (roll-Frame new)) h) (sym same_view)
      (subst (λ (w : View). Stepped s n z (unstopped (out-Frame f).site (shape k)) (store vars) o w h) (sym after) steps)

-- what came to nothing at the end is left, and a first view stands for another that remains the same
pub left_steps : {i n k : ℕ} {v w : View} {e f : Store} {o : Outcome} (x : View) → x.plan ≡ w.plan → x.rest ≡ left_by o w.rest → x.sound ≡ true → Stepped i n k v e o w f → Stepped i n k v e o x f
left_steps {i = i} {v = v} {w = w} {e = e} {f = f} {o = o} x plan rest sound (once went) =
    let same : left_by o x.rest ≡ left_by o w.rest = ap (left_by o) rest ∙ left_again o w.rest in
    once (record {
      did = subst (λ (r : Rest). Did v.rest e i (one action.Quiet) r f) (sym same) went.did;
      plan = plan ∙ went.plan;
      sound = sound;
      outcome = went.outcome ∙ ap outcome_of (sym same);
    })
left_steps x plan rest sound (more went s) = more went (left_steps x plan rest sound s)

from_same : {i : ℕ} {v w : View} {e f : Store} {o : Outcome} (x : View) → x.plan ≡ v.plan → x.rest ≡ v.rest → Went (quiet_at i None) v e o w f → Went (quiet_at i None) x e o w f
from_same {i = i} {w = w} {e = e} {f = f} {o = o} x plan rest went = record {
  did = subst (λ (r : Rest). Did r e i (one action.Quiet) (left_by o w.rest) f) (sym rest) went.did;
  plan = went.plan ∙ sym plan;
  sound = went.sound;
  outcome = went.outcome;
}

pub same_steps : {i n k : ℕ} {v w : View} {e f : Store} {o : Outcome} (x : View) → x.plan ≡ v.plan → x.rest ≡ v.rest → Stepped i n k v e o w f → Stepped i n k x e o w f
same_steps x plan rest (once went) = once (from_same x plan rest went)
same_steps x plan rest (more went s) = more (from_same x plan rest went) s

pub stepped_outcome : {i n k : ℕ} {v w : View} {e f : Store} {o : Outcome} → Stepped i n k v e o w f → o ≡ outcome_of (left_by o w.rest)
stepped_outcome (once went) = went.outcome
stepped_outcome (more went s) = stepped_outcome s

-- they are steps of the process, each its only move at its time, and what is asked of what remains is kept
pub kept_on : {i n k : ℕ} {v w : View} {e f : Store} {o : Outcome} → Stepped i n k v e o w f → OwnSites v.rest → UsesLawfully v.rest → OwnSites (left_by o w.rest) × UsesLawfully (left_by o w.rest)
kept_on (once went) own uses = ((step_keeps went.did.1 own).1, step_uses went.did.1 uses)
kept_on (more went s) own uses = kept_on s (step_keeps went.did.1 own).1 (step_uses went.did.1 uses)

pub rests_on : {i n k : ℕ} {v w : View} {e f : Store} {o : Outcome} (inside : Set) (h : ℕ) → OwnSites v.rest → UsesLawfully v.rest → outcome_of v.rest ≡ outcome.Quiet i → Stepped i n k v e o w f →
    RestsOn inside n h (at v.rest e) k (at (left_by o w.rest) f)
rests_on {i = i} {v = v} {w = w} {e = e} {f = f} {o = o} inside h own uses only (once went) =
    on (ap (λ ms. joined inside ms ms) (quiet_own v.rest i e only))
    (acts (at v.rest e) (at (left_by o w.rest) f) (move.Quiet i) Nothing own uses tt went.did) still
rests_on {i = i} {v = v} {e = e} inside h own uses only (more {j = j} {u = u} {g = g} went s) =
    on (ap (λ ms. joined inside ms ms) (quiet_own v.rest i e only))
    (acts (at v.rest e) (at u.rest g) (move.Quiet i) Nothing own uses tt went.did)
    (rests_on inside i (step_keeps went.did.1 own).1 (step_uses went.did.1 uses) (sym went.outcome) s)

-- of a process that goes on by itself
pub left_as : (t : Task Frame) → left_by t.begins (shown t).rest ≡ remains t
left_as t = left_again t.begins (view t.frame).rest

pub outcome_itself : (o q : Outcome) → o ≡ q → same_outcome o q ≡ true
outcome_itself o q h = subst (λ (x : Outcome). same_outcome o x ≡ true) h (same_as_itself o)
