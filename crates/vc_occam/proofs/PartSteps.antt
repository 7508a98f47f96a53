-- What the part that goes on can do and has done, the process around it can do and has done.
use Rattle.std.proofs.Common.{◌≡◌, ℕ, zero, suc, Bool, true, false, refl, ap, sym, ◌∙◌, subst, List, [], ◌∷◌, length, set, drop, arith, Some, None, length-set}
use Rattle.std.specs.Prelude.{slice_get, nat_lt}
use Rattle.std.proofs.lemmas.Bool.{and_from, and_parts}
use Rattle.std.proofs.lemmas.Bool.Decides.{nat_tests}
use Rattle.std.proofs.lemmas.List.{drop-set-lt}
use Rattle.std.proofs.lemmas.Option.{slice_get_within}
use Rattle.vc_process.specs.declared.datum.Datum.{Datum}
use Rattle.vc_occam.specs.declared.outcome.Outcome.{Outcome}
use Rattle.vc_occam.specs.SiteActions.{SiteAction}
use Rattle.vc_occam.specs.Private.SiteSteps.{Actions, StepAt, first_action, one, whole_output}
use Rattle.vc_process.specs.Syntax.{SEQ, Procs, no_parts, part}
use Rattle.vc_process.specs.Usage.{changes, changes_all}
use Rattle.vc_process.specs.Terms.{store}
use Rattle.vc_process.specs.Values.{Store}
use Rattle.vc_occam.specs.Remains.{Rest, Done, Stopped, Then, and_then, begin, then_on, in_then}
use Rattle.vc_occam.specs.Frames.{Shape, View, all_sound, begun, follow, is_sound, left_by, outcome_of, plans_of, rest_of, seq, view_of}
use Rattle.vc_occam.specs.Private.Frames.{Able, CanGo, Did, HasNext, Went, assigned_at, has_ended, unstopped}
use Rattle.vc_occam.specs.Private.Sites.{InPreorder, PartsInPreorder}
use Rattle.vc_occam.proofs.Endings.{and_then_outcome, begin_goes, goes_on, left_goes, left_ended, left_same, unless_goes}
use Rattle.vc_occam.proofs.Lifting.{then_is, then_steps}
use Rattle.vc_occam.proofs.Stores.{or_left, or_right}

-- what can do something has not been stopped
pub runs_on : (step : StepAt) (i : ℕ) (b : Bool) (s : Shape) (vars : List Datum) → CanGo step (view_of i b s) vars → b ≡ false
runs_on step i false s vars c = refl
runs_on step i true s vars c = stuck c.able
  where
    stuck : Able (Stopped i) (store vars) step.site (first_action step.actions) → true ≡ false
    stuck (ks, q, f, st) = elim st [ ]

pub then_able : (r : Rest) (ps : Procs) (e : Store) (s : ℕ) (d : SiteAction) → Able (and_then r ps) e s d → Able r e s d
then_able r no_parts e s d a = a
then_able r (part p ps) e s d (ks, q, f, in_then {r' = r'} {e' = e'} st) = (ks, r', e', st)

pub then_assigned : (i : ℕ) (r : Rest) (ps : Procs) (e : Store) → assigned_at i (and_then r ps) e ≡ assigned_at i r e
then_assigned i r no_parts e = refl
then_assigned i r (part p ps) e = refl

-- what something does, it does with what comes behind it
in_then_did : (r q : Rest) (ps : Procs) (e f : Store) (i : ℕ) (ds : Actions) → Did r e i ds q f → Did (Then r ps) e i ds (then_on q ps) f
in_then_did r q ps e f i (one d) (ks, st) = (ks, in_then st)
in_then_did r q ps e f i (whole_output c) (ks, m, g, ls, begins, finishes) = (ks, then_on m ps, g, ls, in_then begins, then_steps finishes ps)

-- also where it goes on
pub then_did : (r q : Rest) (ps : Procs) (o : Outcome) (e f : Store) (i : ℕ) (ds : Actions) → Did r e i ds (left_by o q) f → o ≡ outcome_of (left_by o q) → has_ended o ≡ false → Did (and_then r ps) e i ds (left_by o (and_then q ps)) f
then_did r q no_parts o e f i ds h g n = h
then_did r q (part p ps) o e f i ds h g n =
    let is = left_goes o q n in
    let goes : has_ended (outcome_of q) ≡ false = ap has_ended (ap outcome_of (sym is) ∙ sym g) ∙ n in
    let did = in_then_did r q (part p ps) e f i ds (subst (λ (x : Rest). Did r e i ds x f) is h) in
    subst (λ (x : Rest). Did (Then r (part p ps)) e i ds x f) (then_is q (part p ps) (goes_on goes) ∙ sym (left_goes o (Then q (part p ps)) n)) did

pub then_outcome : (q : Rest) (ps : Procs) (o : Outcome) → o ≡ outcome_of (left_by o q) → has_ended o ≡ false → o ≡ outcome_of (left_by o (and_then q ps))
then_outcome q no_parts o g n = g
then_outcome q (part p ps) o g n =
    let is : o ≡ outcome_of q = g ∙ ap outcome_of (left_goes o q n) in
    let goes = unless_goes (outcome_of q) (ap has_ended (sym is) ∙ n) in
    is ∙ sym goes ∙ ap outcome_of (sym (left_goes o (Then q (part p ps)) n))

-- where it has ended, what comes behind it begins
pub then_ended : (r : Rest) (ps : Procs) (e f : Store) (i : ℕ) (ds : Actions) → Did r e i ds Done f → Did (and_then r ps) e i ds (then_on Done ps) f
then_ended r no_parts e f i ds h = h
then_ended r (part p ps) e f i ds h = in_then_did r Done (part p ps) e f i ds h

-- a part in a list
pub part_is_sound : (vs : List View) (k : ℕ) (v : View) → slice_get vs k ≡ Some v → all_sound vs ≡ true → v.sound ≡ true
part_is_sound [] k v h s = absurd cc
part_is_sound (w ∷ vs) zero v h s = let e : w ≡ v = cc in ap (λ (u : View). u.sound) (sym e) ∙ (and_parts w.sound (all_sound vs) s).0
part_is_sound (w ∷ vs) (suc k) v h s = part_is_sound vs k v h (and_parts w.sound (all_sound vs) s).1

pub parts_still_sound : (vs : List View) (k : ℕ) (w : View) → all_sound vs ≡ true → w.sound ≡ true → all_sound (set vs k w) ≡ true
parts_still_sound [] k w s h = refl
parts_still_sound (v ∷ vs) zero w s h = and_from w.sound (all_sound vs) h (and_parts v.sound (all_sound vs) s).1
parts_still_sound (v ∷ vs) (suc k) w s h = and_from v.sound (all_sound (set vs k w)) (and_parts v.sound (all_sound vs) s).0 (parts_still_sound vs k w (and_parts v.sound (all_sound vs) s).1 h)

-- the part at a place is changed, and the processes that were written stay
pub part_is_changed : (vs : List View) (k : ℕ) (v w : View) → slice_get vs k ≡ Some v → slice_get (set vs k w) k ≡ Some w
part_is_changed [] k v w h = absurd cc
part_is_changed (u ∷ vs) zero v w h = refl
part_is_changed (u ∷ vs) (suc k) v w h = part_is_changed vs k v w h

pub part_changes : (vs : List View) (k : ℕ) (v : View) (x : ℕ) → slice_get vs k ≡ Some v → changes v.plan x ≡ true → changes_all (plans_of vs) x ≡ true
part_changes [] k v x h c = absurd cc
part_changes (w ∷ vs) zero v x h c = let e : v ≡ w = cc in or_left (changes w.plan x) (changes_all (plans_of vs) x) (ap (λ (u : View). changes u.plan x) (sym e) ∙ c)
part_changes (w ∷ vs) (suc k) v x h c = or_right (changes w.plan x) (changes_all (plans_of vs) x) (part_changes vs k v x h c)

pub part_is_in_preorder : (vs : List View) (k : ℕ) (v : View) → slice_get vs k ≡ Some v → PartsInPreorder (plans_of vs) → InPreorder v.plan
part_is_in_preorder [] k v h p = absurd cc
part_is_in_preorder (w ∷ vs) zero v h p = let e : w ≡ v = cc in subst (λ (u : View). InPreorder u.plan) e p.1
part_is_in_preorder (w ∷ vs) (suc k) v h p = part_is_in_preorder vs k v h p.2

pub same_plans : (vs : List View) (k : ℕ) (v w : View) → slice_get vs k ≡ Some v → w.plan ≡ v.plan → plans_of (set vs k w) ≡ plans_of vs
same_plans [] k v w h p = refl
same_plans (u ∷ vs) zero v w h p = let e : v ≡ u = cc in ap (λ q. part q (plans_of vs)) (p ∙ ap (λ (x : View). x.plan) e)
same_plans (u ∷ vs) (suc k) v w h p = ap (part u.plan) (same_plans vs k v w h p)

-- the part of a SEQ
module _ (step : StepAt) (i : ℕ) (vs : List View) (k : ℕ) (v : View) (is : slice_get vs k ≡ Some v) where
  pub seq_part : (vars : List Datum) → CanGo step (unstopped i (seq vs k)) vars → CanGo step v vars
  seq_part vars c =
      let ps = plans_of (drop (suc k) vs) in
      let rest : follow (slice_get vs k) ps ≡ and_then v.rest ps = ap (λ o. follow o ps) is in
      record {
        able = then_able v.rest ps (store vars) step.site (first_action step.actions) (subst (λ (r : Rest). Able r (store vars) step.site (first_action step.actions)) rest c.able);
        brings = λ q. c.brings q ∙ ap (λ (r : Rest). assigned_at step.site r (store vars)) rest ∙ then_assigned step.site v.rest ps (store vars);
        variables = λ x h. c.variables x (part_changes vs k v x is h);
        in_preorder = part_is_in_preorder vs k v is c.in_preorder.1;
        sound = part_is_sound vs k v is (and_parts (nat_lt k (length vs)) (all_sound vs) c.sound).1;
      }

  module _ (e : Store) (o : Outcome) (w : View) (f : Store) (sound : is_sound (seq vs k) ≡ true) (went : Went step v e o w f) where
    behind : plans_of (drop (suc k) (set vs k w)) ≡ plans_of (drop (suc k) vs)
    behind = ap plans_of (drop-set-lt (suc k) vs k w (omega arith))

    pub seq_sound : is_sound (seq (set vs k w) k) ≡ true
    seq_sound =
        and_from (nat_lt k (length (set vs k w))) (all_sound (set vs k w)) (ap (nat_lt k) (length-set vs k w) ∙ (and_parts (nat_lt k (length vs)) (all_sound vs) sound).0)
        (parts_still_sound vs k w (and_parts (nat_lt k (length vs)) (all_sound vs) sound).1 went.sound)

    pub seq_goes : has_ended o ≡ false → Went step (unstopped i (seq vs k)) e o (unstopped i (seq (set vs k w) k)) f
    seq_goes n =
        let ps = plans_of (drop (suc k) vs) in
        let before : follow (slice_get vs k) ps ≡ and_then v.rest ps = ap (λ o. follow o ps) is in
        let after : rest_of i (seq (set vs k w) k) ≡ and_then w.rest ps = ap (λ o. follow o (plans_of (drop (suc k) (set vs k w)))) (part_is_changed vs k v w is) ∙ ap (and_then w.rest) behind in
        let st = then_did v.rest w.rest ps o e f step.site step.actions went.did went.outcome n in
        record {
          did = subst (λ (r : Rest). Did r e step.site step.actions (left_by o (rest_of i (seq (set vs k w) k))) f) (sym before) (subst (λ (r : Rest). Did (and_then v.rest ps) e step.site step.actions (left_by o r) f) (sym after) st);
          plan = ap (SEQ i) (same_plans vs k v w is went.plan);
          sound = seq_sound;
          outcome = then_outcome w.rest ps o went.outcome n ∙ ap (λ (r : Rest). outcome_of (left_by o r)) (sym after);
        }

    pub seq_went : (t : Outcome) (ws : List View) (m : ℕ) → has_ended o ≡ true → HasNext (set vs k w) k t ws m → Went step (unstopped i (seq vs k)) e t (unstopped i (seq ws m)) f
    seq_went t ws m n next =
        let ps = plans_of (drop (suc k) vs) in
        let before : follow (slice_get vs k) ps ≡ and_then v.rest ps = ap (λ o. follow o ps) is in
        let on : then_on Done (plans_of (drop (suc k) (set vs k w))) ≡ then_on Done ps = ap (then_on Done) behind in
        let after : left_by t (rest_of i (seq ws m)) ≡ then_on Done ps = next.rest i ∙ on in
        let st = then_ended v.rest ps e f step.site step.actions (subst (λ (r : Rest). Did v.rest e step.site step.actions r f) (left_ended o w.rest n) went.did) in
        record {
          did = subst (λ (r : Rest). Did r e step.site step.actions (left_by t (rest_of i (seq ws m))) f) (sym before) (subst (λ (r : Rest). Did (and_then v.rest ps) e step.site step.actions r f) (sym after) st);
          plan = ap (SEQ i) (next.plans ∙ same_plans vs k v w is went.plan);
          sound = next.sound;
          outcome = next.outcome ∙ ap outcome_of (on ∙ sym after);
        }

-- the next part of a SEQ begins
drop_part : (vs : List View) (k : ℕ) (v : View) → slice_get vs k ≡ Some v → drop k vs ≡ v ∷ drop (suc k) vs
drop_part [] k v h = absurd (let z : None ≡ Some v = h in cc)
drop_part (u ∷ vs) zero v h = let e : u ≡ v = cc in ap (λ (x : View). x ∷ vs) e
drop_part (u ∷ vs) (suc k) v h = drop_part vs k v h

pub seq_begun : (vs : List View) (k : ℕ) (v w : View) (o : Outcome) → slice_get vs (suc k) ≡ Some v → w ≡ begun v.plan → o ≡ outcome_of (begin v.plan) → is_sound (seq vs k) ≡ true → HasNext vs k o (set vs (suc k) w) (suc k)
seq_begun vs k v w o is h g sound =
    let m = suc k in
    let ps = plans_of (drop (suc m) vs) in
    let p = v.plan in
    let next : then_on Done (plans_of (drop m vs)) ≡ and_then (begin p) ps = ap (λ us. then_on Done (plans_of us)) (drop_part vs m v is) in
    let same : outcome_of (and_then (begin p) ps) ≡ outcome_of (begin p) = and_then_outcome (begin p) ps (begin_goes p) in
    let after : rest_of 0 (seq (set vs m w) m) ≡ and_then (begin p) ps = ap (λ o. follow o (plans_of (drop (suc m) (set vs m w)))) (part_is_changed vs m v w is) ∙ ap (λ us. and_then w.rest (plans_of us)) (drop-set-lt (suc m) vs m w (omega arith)) ∙ ap (λ (u : View). and_then u.rest ps) h in
    let kept : left_by o (and_then (begin p) ps) ≡ and_then (begin p) ps = ap (λ x. left_by x (and_then (begin p) ps)) (g ∙ sym same) ∙ left_same (and_then (begin p) ps) in
    let within : nat_lt m (length vs) ≡ true = let l = slice_get_within vs m v is in grind (arith, nat_tests) in
    record {
      rest = λ i. ap (left_by o) after ∙ kept ∙ sym next;
      plans = same_plans vs m v w is (ap (λ (u : View). u.plan) h);
      sound = and_from (nat_lt m (length (set vs m w))) (all_sound (set vs m w)) (ap (nat_lt m) (length-set vs m w) ∙ within) (parts_still_sound vs m w (and_parts (nat_lt k (length vs)) (all_sound vs) sound).1 (ap (λ (u : View). u.sound) h));
      outcome = g ∙ sym same ∙ ap outcome_of (sym next);
    }
