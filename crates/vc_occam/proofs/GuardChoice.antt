-- How an ALT takes one of its guards.
use Rattle.std.proofs.Common.{◌≡◌, ◌∙◌, ℕ, zero, suc, true, ◌||◌, refl, sym, ap, subst, List, [], ◌∷◌, length, set, arith, Option, Some, None}
use Rattle.std.specs.Prelude.{nat_lt, slice_get}
use Rattle.std.proofs.lemmas.Bool.{and_from, and_parts}
use Rattle.std.proofs.lemmas.Bool.Decides.{nat_tests}
use Rattle.std.proofs.lemmas.Option.{slice_get_within}
use Rattle.vc_process.specs.declared.datum.Datum.{Datum}
use Rattle.vc_process.specs.Messages.{received}
use Rattle.vc_process.specs.Syntax.{Test, Proc, ALT, no_parts, part}
use Rattle.vc_process.specs.Terms.{as_test, store}
use Rattle.vc_process.specs.Usage.{changes, changes_guards, just}
use Rattle.vc_process.specs.Values.{Store}
use Rattle.vc_occam.specs.declared.frame.Choice.{Choice}
use Rattle.vc_occam.specs.declared.frame.Choice.TheVariants.{Open, Taken, Within}
use Rattle.vc_occam.specs.declared.frame.Guard.{Guard}
use Rattle.vc_occam.specs.declared.outcome.Outcome.{Outcome}
use Rattle.vc_occam.specs.declared.outcome.Outcome.TheVariants as outcome
use Rattle.vc_occam.specs.SiteActions as action
use Rattle.vc_occam.specs.Private.SiteSteps.{Actions, StepAt, message_at, one, step_at}
use Rattle.vc_occam.specs.Traces.{set as set_to}
use Rattle.vc_occam.specs.Remains.{Rest, Fresh, Getting, Then, begin, GuardAt, first, later, does_choose, waits_choose, gets, in_then}
use Rattle.vc_occam.specs.Frames.{View, Shape, all_sound, begun, guarded, guarding, guards_of, has_guard, is_at_itself, is_sound, left_by, outcome_of, rest_of, taken_rest}
use Rattle.vc_occam.specs.Private.Frames.{Able, CanGo, Did, HasGot, HasGuard, Went, unstopped}
use Rattle.vc_occam.proofs.Bodies.{guard_rest, guard_sound, guarding_body, same_guards}
use Rattle.vc_occam.proofs.Places.{itself}
use Rattle.vc_occam.proofs.Stores.{or_left, or_right}
use Rattle.vc_occam.proofs.PartChoice.{begun_outcome}

-- a guard of those that were written is one of these
abbrev IsGuard : List (Guard View) → ℕ → Test → ℕ → ℕ → Proc → Type 0
IsGuard gs k b c v p = (g : Guard View) × (slice_get gs k ≡ Some g) × (b ≡ as_test g.cond) × (c ≡ g.chan) × (v ≡ g.var) × (p ≡ g.body.plan)

guard_found : (gs : List (Guard View)) (k : ℕ) (b : Test) (c v : ℕ) (p : Proc) → GuardAt (guards_of gs) k b c v p → IsGuard gs k b c v p
guard_found [] k b c v p h = elim h [ ]
guard_found (g ∷ gs) k b c v p first = (g, refl, refl, refl, refl, refl)
guard_found (g ∷ gs) k b c v p (later {k = j} h) = guard_found gs j b c v p h

-- an ALT changes the variables of its guards
guard_changed : (gs : List (Guard View)) (k : ℕ) (g : Guard View) → slice_get gs k ≡ Some g → changes_guards (guards_of gs) g.var ≡ true
guard_changed [] k g h = absurd (let z : None ≡ Some g = h in cc)
guard_changed (f ∷ gs) zero g h =
    let e : f ≡ g = cc in
    subst (λ (x : Guard View). changes_guards (guards_of (f ∷ gs)) x.var ≡ true) e (or_left (just f.var f.var || changes f.body.plan f.var) (changes_guards (guards_of gs) f.var) (or_left (just f.var f.var) (changes f.body.plan f.var) (itself f.var)))
guard_changed (f ∷ gs) (suc k) g h = or_right (just f.var g.var || changes f.body.plan g.var) (changes_guards (guards_of gs) g.var) (guard_changed gs k g h)

-- the guard is there that is taken, or that was taken
pub the_guard : (o : Option (Guard View)) (f g : Guard View) → o ≡ Some f → o ≡ Some g → f ≡ g
the_guard o f g h k = cc

taken_not_chosen : (i : ℕ) (o : Option (Guard View)) (e : Store) (s k d : ℕ) (m : Option (List ℕ)) → Able (taken_rest i o) e s (action.Choose k d m) → ⊥
taken_not_chosen i None e s k d m (ks, q, f, st) = elim st [ ]
taken_not_chosen i (Some g) e s k d m (ks, q, f, in_then st) = elim st [ ]

choice_there : (i : ℕ) (gs : List (Guard View)) (c : Choice) (e : Store) (s k d : ℕ) (m : Option (List ℕ)) → is_at_itself (guarding gs c) ≡ true → Able (rest_of i (guarding gs c)) e s (action.Choose k d m) → (g : Guard View) × (slice_get gs k ≡ Some g)
choice_there i gs Open e s k d m h (ks, q, f, does_choose {c = c} {v = v} {b = b} {p = p} dec at holds is) = let n = guard_found gs k b c v p at in (n.0, n.1)
choice_there i gs Open e s k d m h (ks, q, f, waits_choose {c = c} {v = v} {b = b} {p = p} dec at holds) = let n = guard_found gs k b c v p at in (n.0, n.1)
choice_there i gs (Taken j) e s k d m h can = absurd (taken_not_chosen i (slice_get gs j) e s k d m can)
choice_there i gs (Within j) e s k d m h can = absurd cc

taken_there : (i : ℕ) (o : Option (Guard View)) (e : Store) (s : ℕ) (m : List ℕ) → Able (taken_rest i o) e s (action.Message m) → (g : Guard View) × (o ≡ Some g)
taken_there i None e s m (ks, q, f, st) = elim st [ ]
taken_there i (Some g) e s m can = (g, refl)

message_there : (i : ℕ) (gs : List (Guard View)) (c : Choice) (k : ℕ) (e : Store) (s : ℕ) (m : List ℕ) → c ≡ Taken k → Able (rest_of i (guarding gs c)) e s (action.Message m) → (g : Guard View) × (slice_get gs k ≡ Some g)
message_there i gs c k e s m h can = taken_there i (slice_get gs k) e s m (subst (λ (x : Choice). Able (rest_of i (guarding gs x)) e s (action.Message m)) h can)

pub choice_has : (s k d : ℕ) (m : Option (List ℕ)) (i : ℕ) (gs : List (Guard View)) (c : Choice) (vars : List Datum) → is_at_itself (guarding gs c) ≡ true → CanGo (step_at s (one (action.Choose k d m))) (unstopped i (guarding gs c)) vars → HasGuard gs k (length vars)
choice_has s k d m i gs c vars at can = let n = choice_there i gs c (store vars) s k d m at can.able in (n.0, n.1, can.variables n.0.var (guard_changed gs k n.0 n.1))

pub message_has : (s : ℕ) (m : List ℕ) (i : ℕ) (gs : List (Guard View)) (c : Choice) (k : ℕ) (vars : List Datum) → c ≡ Taken k → CanGo (message_at s m) (unstopped i (guarding gs c)) vars → HasGuard gs k (length vars)
message_has s m i gs c k vars h can = let n = message_there i gs c k (store vars) s m h can.able in (n.0, n.1, can.variables n.0.var (guard_changed gs k n.0 n.1))

-- with its message, its body begins
choice_did : (i : ℕ) (gs : List (Guard View)) (c : Choice) (g : Guard View) (e : Store) (s k d : ℕ) (m : List ℕ) → is_at_itself (guarding gs c) ≡ true → slice_get gs k ≡ Some g → Able (rest_of i (guarding gs c)) e s (action.Choose k d (Some m)) →
    Did (rest_of i (guarding gs c)) e s (one (action.Choose k d (Some m))) (begin g.body.plan) (set_to e g.var (received (e g.var) m))
choice_did i gs (Taken j) g e s k d m h is can = absurd (taken_not_chosen i (slice_get gs j) e s k d (Some m) can)
choice_did i gs (Within j) g e s k d m h is can = absurd cc
choice_did i gs Open g e s k d m h is (ks, q, f, does_choose {c = c} {v = v} {b = b} {p = p} dec at holds x) =
    let n = guard_found gs k b c v p at in
    let the = the_guard (slice_get gs k) n.0 g n.1 is in
    let var : v ≡ g.var = n.4 ∙ ap (λ (y : Guard View). y.var) the in
    let plan : p ≡ g.body.plan = n.5 ∙ ap (λ (y : Guard View). y.body.plan) the in
    subst (λ u. Did (Fresh (ALT i (guards_of gs))) e s (one (action.Choose k c (Some m))) (begin g.body.plan) (set_to e u (received (e u) m))) var
    (subst (λ r. Did (Fresh (ALT i (guards_of gs))) e s (one (action.Choose k c (Some m))) (begin r) (set_to e v (received (e v) m))) plan (_, does_choose dec at holds refl))

got_did : (i : ℕ) (o : Option (Guard View)) (g : Guard View) (e : Store) (s : ℕ) (m : List ℕ) → o ≡ Some g → Able (taken_rest i o) e s (action.Message m) → Did (taken_rest i o) e s (one (action.Message m)) (begin g.body.plan) (set_to e g.var (received (e g.var) m))
got_did i None g e s m h (ks, q, f, st) = elim st [ ]
got_did i (Some f) g e s m h (ks, q, x, in_then (gets k)) =
    let the : f ≡ g = cc in
    subst (λ (y : Guard View). Did (taken_rest i (Some f)) e s (one (action.Message m)) (begin y.body.plan) (set_to e y.var (received (e y.var) m))) the (_, in_then (gets refl))

module _ (i : ℕ) (gs : List (Guard View)) (c : Choice) (k : ℕ) (g : Guard View) (sound : is_sound (guarding gs c) ≡ true) (is : slice_get gs k ≡ Some g) where
  within : nat_lt k (length gs) ≡ true
  within = let l = slice_get_within gs k g is in grind (arith, nat_tests)

  few : nat_lt (length gs) 65536 ≡ true
  few = (and_parts (nat_lt (length gs) 65536) _ sound).0

  pub bodies_sound : all_sound (guarded gs) ≡ true
  bodies_sound = (and_parts (has_guard c (length gs)) (all_sound (guarded gs)) (and_parts (nat_lt (length gs) 65536) _ sound).1).1

  pub guard_got : (w : View) (o : Outcome) (m : List ℕ) (e f : Store) → w ≡ begun g.body.plan → o ≡ outcome_of (begin g.body.plan) → f ≡ set_to e g.var (received (e g.var) m) → HasGot k m gs e o (guarding (set gs k (guarding_body g w)) (Within k)) f
  guard_got w o m e f q n z =
      let rest : w.rest ≡ begin g.body.plan = ap (λ (v : View). v.rest) q in
      let step : StepAt = step_at i (one action.Quiet) in
      record {
        guard = g;
        there = is;
        rest = λ j. ap (left_by o) (guard_rest step j gs k g is w ∙ rest) ∙ begun_outcome g.body.plan o n;
        plan = λ j. ap (ALT j) (same_guards gs k g w is (ap (λ (v : View). v.plan) q));
        sound = guard_sound step i gs k g is w few within bodies_sound (ap (λ (v : View). v.sound) q);
        outcome = n;
        value = z;
      }

  pub taken_sound : is_sound (guarding gs (Taken k)) ≡ true
  taken_sound = and_from (nat_lt (length gs) 65536) _ few (and_from (nat_lt k (length gs)) (all_sound (guarded gs)) within bodies_sound)

got_went : (s : ℕ) (d : Actions) (i k : ℕ) (m : List ℕ) (gs : List (Guard View)) (c : Choice) (e : Store) (o : Outcome) (t : Shape) (f : Store) (got : HasGot k m gs e o t f) →
    Did (rest_of i (guarding gs c)) e s d (begin got.guard.body.plan) (set_to e got.guard.var (received (e got.guard.var) m)) → Went (step_at s d) (unstopped i (guarding gs c)) e o (unstopped i t) f
got_went s d i k m gs c e o t f got did =
    let r = rest_of i (guarding gs c) in
    let g = got.guard in
    record {
      did = subst (λ (q : Rest). Did r e s d q f) (sym (got.rest i)) (subst (λ (x : Store). Did r e s d (begin g.body.plan) x) (sym got.value) did);
      plan = got.plan i;
      sound = got.sound;
      outcome = got.outcome ∙ ap outcome_of (sym (got.rest i));
    }

pub choice_got : (s k d : ℕ) (m : List ℕ) (i : ℕ) (gs : List (Guard View)) (c : Choice) (vars : List Datum) (o : Outcome) (t : Shape) (f : Store) → is_at_itself (guarding gs c) ≡ true → CanGo (step_at s (one (action.Choose k d (Some m)))) (unstopped i (guarding gs c)) vars → HasGot k m gs (store vars) o t f →
    Went (step_at s (one (action.Choose k d (Some m)))) (unstopped i (guarding gs c)) (store vars) o (unstopped i t) f
choice_got s k d m i gs c vars o t f at can got = got_went s (one (action.Choose k d (Some m))) i k m gs c (store vars) o t f got (choice_did i gs c got.guard (store vars) s k d m at got.there can.able)

pub message_got : (s : ℕ) (m : List ℕ) (i : ℕ) (gs : List (Guard View)) (c : Choice) (k : ℕ) (vars : List Datum) (o : Outcome) (t : Shape) (f : Store) → c ≡ Taken k → CanGo (message_at s m) (unstopped i (guarding gs c)) vars → HasGot k m gs (store vars) o t f →
    Went (message_at s m) (unstopped i (guarding gs c)) (store vars) o (unstopped i t) f
message_got s m i gs c k vars o t f h can got =
    let e = store vars in
    let able = subst (λ (x : Choice). Able (rest_of i (guarding gs x)) e s (action.Message m)) h can.able in
    let did = got_did i (slice_get gs k) got.guard e s m got.there able in
    got_went s (one (action.Message m)) i k m gs c e o t f got (subst (λ (x : Choice). Did (rest_of i (guarding gs x)) e s (one (action.Message m)) (begin got.guard.body.plan) (set_to e got.guard.var (received (e got.guard.var) m))) (sym h) did)

-- and else it waits
wait_did : (i : ℕ) (gs : List (Guard View)) (c : Choice) (g : Guard View) (e : Store) (s k d : ℕ) → is_at_itself (guarding gs c) ≡ true → slice_get gs k ≡ Some g → Able (rest_of i (guarding gs c)) e s (action.Choose k d None) →
    Did (rest_of i (guarding gs c)) e s (one (action.Choose k d None)) (taken_rest i (Some g)) e
wait_did i gs (Taken j) g e s k d h is can = absurd (taken_not_chosen i (slice_get gs j) e s k d None can)
wait_did i gs (Within j) g e s k d h is can = absurd cc
wait_did i gs Open g e s k d h is (ks, q, f, waits_choose {c = c} {v = v} {b = b} {p = p} dec at holds) =
    let n = guard_found gs k b c v p at in
    let the = the_guard (slice_get gs k) n.0 g n.1 is in
    let chan : c ≡ g.chan = n.3 ∙ ap (λ (y : Guard View). y.chan) the in
    let var : v ≡ g.var = n.4 ∙ ap (λ (y : Guard View). y.var) the in
    let plan : p ≡ g.body.plan = n.5 ∙ ap (λ (y : Guard View). y.body.plan) the in
    subst (λ y. Did (Fresh (ALT i (guards_of gs))) e s (one (action.Choose k c None)) (Then (Getting i y g.var) (part g.body.plan no_parts)) e) chan
    (subst (λ u. Did (Fresh (ALT i (guards_of gs))) e s (one (action.Choose k c None)) (Then (Getting i c u) (part g.body.plan no_parts)) e) var
    (subst (λ r. Did (Fresh (ALT i (guards_of gs))) e s (one (action.Choose k c None)) (Then (Getting i c v) (part r no_parts)) e) plan ([], waits_choose dec at holds)))

pub choice_waits : (s k d i : ℕ) (gs : List (Guard View)) (c : Choice) (vars : List Datum) → is_at_itself (guarding gs c) ≡ true → CanGo (step_at s (one (action.Choose k d None))) (unstopped i (guarding gs c)) vars →
    Went (step_at s (one (action.Choose k d None))) (unstopped i (guarding gs c)) (store vars) outcome.Nothing (unstopped i (guarding gs (Taken k))) (store vars)
choice_waits s k d i gs c vars at can =
    let e = store vars in
    let n = choice_there i gs c e s k d None at can.able in
    let after : taken_rest i (slice_get gs k) ≡ taken_rest i (Some n.0) = ap (taken_rest i) n.1 in
    record {
      did = subst (λ (r : Rest). Did (rest_of i (guarding gs c)) e s (one (action.Choose k d None)) r e) (sym after) (wait_did i gs c n.0 e s k d at n.1 can.able);
      plan = refl;
      sound = taken_sound i gs c k n.0 can.sound n.1;
      outcome = ap outcome_of (sym after);
    }
