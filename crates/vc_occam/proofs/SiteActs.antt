-- What a frame's own site did, by its construct.
use Rattle.std.proofs.Common.{◌≡◌, ◌∙◌, ℕ, Bool, true, false, refl, sym, ap, subst, List, Option, Some, None, length, ◌<◌}
use Rattle.std.specs.Prelude.{slice_get}
use Rattle.std.proofs.lemmas.Bool.{and_from}
use Rattle.vc_process.specs.declared.datum.Datum.{Datum}
use Rattle.vc_process.specs.Syntax.{Exp}
use Rattle.vc_process.specs.Terms.{store}
use Rattle.vc_process.specs.Usage.{changes, just}
use Rattle.vc_process.specs.Values.{Store}
use Rattle.vc_occam.specs.declared.frame.Choice.{Choice}
use Rattle.vc_occam.specs.declared.frame.Choice.TheVariants.{Open, Taken, Within}
use Rattle.vc_occam.specs.declared.frame.Construct.{Construct}
use Rattle.vc_occam.specs.declared.frame.Construct.TheVariants as run
use Rattle.vc_occam.specs.declared.frame.Frame.{Frame}
use Rattle.vc_occam.specs.declared.frame.Frame.TheOpen.{Frame-F}
use Rattle.vc_occam.specs.declared.frame.Frame.TheViews.{out-Frame, roll-Frame}
use Rattle.vc_occam.specs.declared.frame.Guard.{Guard}
use Rattle.vc_occam.specs.declared.frame.Turn.{Turn}
use Rattle.vc_occam.specs.declared.outcome.Outcome.{Outcome}
use Rattle.vc_occam.specs.declared.outcome.Outcome.TheVariants as outcome
use Rattle.vc_occam.specs.SiteActions as action
use Rattle.vc_occam.specs.Private.SiteSteps.{Actions, StepAt, first_action, one, quiet_at, step_at}
use Rattle.vc_occam.specs.Frames.{View, counting, guarding, is_at_itself, is_sound, left_by, receive, rest_of, taken_rest, view, view_of}
use Rattle.vc_occam.specs.Remains.{Done, Stopped, does_skip, does_empty_seq, does_empty_par, in_then}
use Rattle.vc_occam.specs.Private.Frames.{Able, Acted, CanGo, Did, IsAtItself, Went, seen_guards, shape, unstopped}
use Rattle.vc_occam.proofs.PartSteps.{runs_on}
use Rattle.vc_occam.proofs.OwnSite.{frame_is_own, own_does}
use Rattle.vc_occam.proofs.Places.{itself}
use Rattle.vc_occam.proofs.Stores.{or_left}
use Rattle.vc_occam.proofs.Views.{view_out, view_roll}

-- a frame that can do something has not been stopped
pub frame_runs : (step : StepAt) (f : Frame) (vars : List Datum) → CanGo step (view f) vars → (out-Frame f).stopped ≡ false
frame_runs step f vars c = let o = out-Frame f in runs_on step o.site o.stopped (shape o.construct) vars (subst (λ (v : View). CanGo step v vars) (view_out f) c)

pub running_view : (f : Frame) (k : Construct Frame) → (out-Frame f).stopped ≡ false → (out-Frame f).construct ≡ k → view f ≡ view_of (out-Frame f).site false (shape k)
running_view f k h g = let o = out-Frame f in view_out f ∙ ap (λ b. view_of o.site b (shape o.construct)) h ∙ ap (λ (c : Construct Frame). view_of o.site false (shape c)) g

pub frame_can : (step : StepAt) (f : Frame) (k : Construct Frame) (vars : List Datum) → CanGo step (view f) vars → (out-Frame f).construct ≡ k → CanGo step (view_of (out-Frame f).site false (shape k)) vars
frame_can step f k vars c h = subst (λ (v : View). CanGo step v vars) (running_view f k (frame_runs step f vars c) h) c

pub sound_as : (step : StepAt) (f : Frame) (k : Construct Frame) (vars : List Datum) → CanGo step (view f) vars → (out-Frame f).construct ≡ k → is_sound (shape k) ≡ true
sound_as step f k vars c h = (frame_can step f k vars c h).sound

pub index_there : (step : StepAt) (i x : ℕ) (a n : Exp) (v : View) (t : Option Turn) (vars : List Datum) → CanGo step (view_of i false (counting x a n v t)) vars → x < length vars
index_there step i x a n v t vars c = c.variables x (or_left (just x x) (changes v.plan x) (itself x))

-- the construct, by what an arm says of it
pub can_as : (step : StepAt) (i : ℕ) (k l : Construct Frame) (vars : List Datum) → k ≡ l → CanGo step (unstopped i (shape k)) vars → CanGo step (unstopped i (shape l)) vars
can_as step i k l vars h = subst (λ (c : Construct Frame). CanGo step (unstopped i (shape c)) vars) h

pub went_as : (step : StepAt) (i : ℕ) (k l : Construct Frame) (e : Store) (o : Outcome) (w : View) (f : Store) → k ≡ l → Went step (unstopped i (shape l)) e o w f → Went step (unstopped i (shape k)) e o w f
went_as step i k l e o w f h = subst (λ (c : Construct Frame). Went step (unstopped i (shape c)) e o w f) (sym h)

-- a frame is made anew with another construct
pub rolled_went : (step : StepAt) (f : Frame) (k l : Construct Frame) (vars : List Datum) (o : Outcome) (h : Store) → CanGo step (view f) vars → (out-Frame f).construct ≡ k → Went step (view_of (out-Frame f).site false (shape k)) (store vars) o (view_of (out-Frame f).site false (shape l)) h →
    Went step (view f) (store vars) o (view (roll-Frame (record { site = (out-Frame f).site; stopped = (out-Frame f).stopped; construct = l }))) h
rolled_went step f k l vars o h c is went =
    let runs = frame_runs step f vars c in
    let new : Frame-F Frame = record { site = (out-Frame f).site; stopped = (out-Frame f).stopped; construct = l } in
    let after = view_roll new ∙ ap (λ b. view_of (out-Frame f).site b (shape l)) runs in
    subst (λ (v : View). Went step v (store vars) o (view (roll-Frame new)) h) (sym (running_view f k runs is))
    (subst (λ (w : View). Went step (view_of (out-Frame f).site false (shape k)) (store vars) o w h) (sym after) went)

-- a frame that has ended stays as it was
pub ended_went : (step : StepAt) (f : Frame) (vars : List Datum) → CanGo step (view f) vars → Did (view f).rest (store vars) step.site step.actions Done (store vars) → Went step (view f) (store vars) outcome.Ended (view f) (store vars)
ended_went step f vars c did = record { did = did; plan = refl; sound = c.sound; outcome = refl }

-- a frame that is at itself does what its own site does
module _ (s : ℕ) (d : Actions) (x : Option Datum) (f : Frame) (vars : List Datum) (at : IsAtItself f) (can : CanGo (record { site = s; actions = d; assigned = x }) (view f) vars) where
  here : s ≡ (out-Frame f).site
  here = own_does (out-Frame f).site (view f).rest (store vars) s (first_action d) (frame_is_own f at) can.able

  pub can_here : CanGo (record { site = (out-Frame f).site; actions = d; assigned = x }) (unstopped (out-Frame f).site (shape (out-Frame f).construct)) vars
  can_here =
      let o = out-Frame f in
      subst (λ i. CanGo (record { site = i; actions = d; assigned = x }) (unstopped o.site (shape o.construct)) vars) here (frame_can (record { site = s; actions = d; assigned = x }) f o.construct vars can refl)

  pub went_here : (l : Construct Frame) (o : Outcome) (h : Store) → Went (step_at (out-Frame f).site d) (unstopped (out-Frame f).site (shape (out-Frame f).construct)) (store vars) o (unstopped (out-Frame f).site (shape l)) h →
      Went (record { site = s; actions = d; assigned = x }) (view f) (store vars) o (view (roll-Frame (record { site = (out-Frame f).site; stopped = (out-Frame f).stopped; construct = l }))) h
  went_here l o h went =
      let k = (out-Frame f).construct in
      let i = (out-Frame f).site in
      let did = subst (λ j. Did (rest_of i (shape k)) (store vars) j d (left_by o (rest_of i (shape l))) h) (sym here) went.did in
      rolled_went (record { site = s; actions = d; assigned = x }) f k l vars o h can refl (record { did = did; plan = went.plan; sound = went.sound; outcome = went.outcome })

-- a fault stops the frame
pub stopped_went : (s : ℕ) (x : Option Datum) (f : Frame) (l : Construct Frame) (vars : List Datum) (h : Store) → IsAtItself f → CanGo (quiet_at s x) (view f) vars → Acted (out-Frame f).site (shape (out-Frame f).construct) (store vars) None (shape l) h →
    Went (quiet_at s x) (view f) (store vars) outcome.Nothing (view (roll-Frame (record { site = (out-Frame f).site; stopped = true; construct = l }))) h
stopped_went s x f l vars h at can (same, value, did) =
    let i = (out-Frame f).site in
    let t = shape (out-Frame f).construct in
    let step = quiet_at s x in
    let can_do = frame_can step f (out-Frame f).construct vars can refl in
    let after = view_roll (record { site = i; stopped = true; construct = l }) ∙ ap (view_of i true) same in
    let here_did = subst (λ j. Did (rest_of i t) (store vars) j (one action.Quiet) (Stopped i) (store vars)) (sym (here s (one action.Quiet) x f vars at can)) did in
    let went : Went step (unstopped i t) (store vars) outcome.Nothing (view_of i true t) (store vars) = record { did = here_did; plan = refl; sound = and_from (is_at_itself t) (is_sound t) at can_do.sound; outcome = refl } in
    subst (λ (v : View). Went step v (store vars) outcome.Nothing (view (roll-Frame (record { site = i; stopped = true; construct = l }))) h) (sym (running_view f (out-Frame f).construct (frame_runs step f vars can) refl))
    (subst (λ (w : View). Went step (unstopped i t) (store vars) outcome.Nothing w h) (sym after)
    (subst (λ (g : Store). Went step (unstopped i t) (store vars) outcome.Nothing (view_of i true t) g) (sym value) went))

-- an input or an ALT makes no step without a communication
receive_not_quiet : (i c v : ℕ) (b : Bool) (e : Store) (s : ℕ) → Able (rest_of i (receive c v b)) e s action.Quiet → ⊥
receive_not_quiet i c v true e s (ks, q, f, st) = elim st [ ]
receive_not_quiet i c v false e s (ks, q, f, st) = elim st [ ]

taken_not_quiet : (i : ℕ) (o : Option (Guard View)) (e : Store) (s : ℕ) → Able (taken_rest i o) e s action.Quiet → ⊥
taken_not_quiet i None e s (ks, q, f, st) = elim st [ ]
taken_not_quiet i (Some g) e s (ks, q, f, in_then st) = elim st [ ]

alt_not_quiet : (i : ℕ) (gs : List (Guard View)) (c : Choice) (e : Store) (s : ℕ) → is_at_itself (guarding gs c) ≡ true → Able (rest_of i (guarding gs c)) e s action.Quiet → ⊥
alt_not_quiet i gs Open e s h (ks, q, f, st) = elim st [ ]
alt_not_quiet i gs (Taken k) e s h can = taken_not_quiet i (slice_get gs k) e s can
alt_not_quiet i gs (Within k) e s h can = absurd cc

-- SKIP, and SEQ and PAR without parts, end
leaf_did : (i : ℕ) (k : Construct Frame) (e : Store) (s : ℕ) → is_at_itself (shape k) ≡ true → Able (rest_of i (shape k)) e s action.Quiet → ((x : _) → k ≡ run.Set x → ⊥) → ((x : _) → k ≡ run.Send x → ⊥) → ((x : _) → k ≡ run.If x → ⊥) → ((x : _) → k ≡ run.While x → ⊥) → ((x : _) → k ≡ run.Count x → ⊥) →
    Did (rest_of i (shape k)) e s (one action.Quiet) Done e
leaf_did i run.Skip e s h (ks, q, f, does_skip) a b c d g = (ks, does_skip)
leaf_did i run.EmptySeq e s h (ks, q, f, does_empty_seq) a b c d g = (ks, does_empty_seq)
leaf_did i run.EmptyPar e s h (ks, q, f, does_empty_par) a b c d g = (ks, does_empty_par)
leaf_did i run.Stop e s h (ks, q, f, st) a b c d g = elim st [ ]
leaf_did i (run.Stopch n) e s h (ks, q, f, st) a b c d g = elim st [ ]
leaf_did i (run.Receive n) e s h can a b c d g = absurd (receive_not_quiet i n.chan n.var n.begun e s can)
leaf_did i (run.Alt x) e s h can a b c d g = absurd (alt_not_quiet i (seen_guards x) x.choice e s h can)
leaf_did i (run.Seq x) e s h can a b c d g = absurd cc
leaf_did i (run.Par x) e s h can a b c d g = absurd cc
leaf_did i (run.Set x) e s h can a b c d g = absurd (a x refl)
leaf_did i (run.Send x) e s h can a b c d g = absurd (b x refl)
leaf_did i (run.If x) e s h can a b c d g = absurd (c x refl)
leaf_did i (run.While x) e s h can a b c d g = absurd (d x refl)
leaf_did i (run.Count x) e s h can a b c d g = absurd (g x refl)

pub leaf_acted : (i : ℕ) (x : Option Datum) (k : Construct Frame) (vars : List Datum) → is_at_itself (shape k) ≡ true → CanGo (quiet_at i x) (unstopped i (shape k)) vars → ((x : _) → k ≡ run.Set x → ⊥) → ((x : _) → k ≡ run.Send x → ⊥) → ((x : _) → k ≡ run.If x → ⊥) → ((x : _) → k ≡ run.While x → ⊥) → ((x : _) → k ≡ run.Count x → ⊥) →
    Acted i (shape k) (store vars) (Some outcome.Ended) (shape k) (store vars)
leaf_acted i x k vars h can a b c d g = record { did = leaf_did i k (store vars) i h can.able a b c d g; plan = refl; sound = can.sound; outcome = refl }
