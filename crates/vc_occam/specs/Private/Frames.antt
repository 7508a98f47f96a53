-- How frames go on, and what is asked of them on the way.
use Rattle.std.specs.Prelude.{◌≡◌, ℕ, zero, suc, ℤ, pos, negsuc, ◌+ℤ◌, Bool, true, false, not, ◌==◌, List, [], ◌∷◌, ◌<◌, ◌↔◌, nat_le, map, drop, length, slice_get, Option, Some, None, if◌then◌else◌}
use Rattle.std.specs.List.{Contains}
use Rattle.std.specs.Option.{option_or}
use Rattle.vc_occam.specs.declared.frame.Frame.{Frame}
use Rattle.vc_occam.specs.declared.frame.Frame.TheViews.{out-Frame, size-Frame}
use Rattle.vc_occam.specs.declared.frame.Construct.{Construct}
use Rattle.vc_occam.specs.declared.frame.Construct.TheVariants as run
use Rattle.vc_occam.specs.declared.frame.Assignment.{Assignment}
use Rattle.vc_occam.specs.declared.frame.Output.{Output}
use Rattle.vc_occam.specs.declared.frame.Input.{Input}
use Rattle.vc_occam.specs.declared.frame.Seq.{Seq}
use Rattle.vc_occam.specs.declared.frame.Par.{Par}
use Rattle.vc_occam.specs.declared.frame.If.{If}
use Rattle.vc_occam.specs.declared.frame.While.{While}
use Rattle.vc_occam.specs.declared.frame.Count.{Count}
use Rattle.vc_occam.specs.declared.frame.Alt.{Alt}
use Rattle.vc_occam.specs.declared.frame.Task.{Task}
use Rattle.vc_occam.specs.declared.frame.Branch.{Branch}
use Rattle.vc_occam.specs.declared.frame.Guard.{Guard}
use Rattle.vc_occam.specs.declared.frame.Turn.{Turn}
use Rattle.vc_occam.specs.declared.outcome.Outcome.{Outcome}
use Rattle.vc_occam.specs.declared.outcome.Outcome.TheVariants as outcome
use Rattle.vc_occam.specs.declared.moves.Move.{Move}
use Rattle.vc_occam.specs.declared.moves.Move.TheVariants as move
use Rattle.vc_process.specs.declared.datum.Datum.{Datum}
use Rattle.vc_occam.specs.SiteActions.{SiteAction}
use Rattle.vc_occam.specs.SiteActions as action
use Rattle.vc_occam.specs.Private.SiteSteps.{Actions, StepAt, first_action, one, step_at, whole_output}
use Rattle.vc_occam.specs.declared.waits.Waits.{Waits}
use Rattle.vc_occam.specs.declared.waits.Waits.TheVariants as waits
use Rattle.vc_process.specs.Values.{Store, assigned_bytes, holds, within}
use Rattle.vc_occam.specs.Traces.{Comm, set}
use Rattle.vc_process.specs.Messages.{received}
use Rattle.vc_process.specs.Usage.{changes}
use Rattle.vc_process.specs.Syntax.{Test, Proc, Assign, ALT}
use Rattle.vc_process.specs.Terms.{as_test, exp, given, store}
use Rattle.vc_occam.specs.Remains.{Rest, Done, Stopped, Fresh, Then, Turns, Beside, begin, then_on, turns_on, index_on, Step}
use Rattle.vc_occam.specs.Private.Sites.{InPreorder}
use Rattle.vc_occam.specs.Sites.{site}
use Rattle.vc_occam.specs.States.{Waiting, output, input, waiting, output_at}
use Rattle.vc_occam.specs.First.{all_decided, choices, is_true, own}
use Rattle.vc_occam.specs.MoveSites.{site_of}
use Rattle.vc_occam.specs.declared.frame.Choice.TheVariants.{Within}
use Rattle.vc_occam.specs.Frames.{View, Shape, skip, empty_seq, empty_par, stop, assign, send, receive, stop_chan, seq, par, branching, looping, counting, guarding, bodies, guarded, guards_of, is_at_itself, is_sound, left_by, outcome_of, plan_of, plans_of, rest_of, task_view, turns_left, view, view_of}

-- nothing remains
abbrev pub has_ended : Outcome → Bool
has_ended outcome.Ended = true
has_ended o = false

-- what a process comes to as it begins
abbrev pub first_outcome : Proc → Outcome
first_outcome p = outcome_of (begin p)

-- the moves that the sites of what remains can begin with
abbrev pub own_moves : View → List Datum → List Move
own_moves v vars = own v.rest (store vars)

-- frames, each with what it stands for
abbrev pub views : List Frame → List View
views = map view

abbrev pub seen_task : Task Frame → Task View
seen_task t = record { frame = view t.frame; begins = t.begins }

-- a task that goes on by itself
abbrev pub shown : Task Frame → View
shown t = task_view (seen_task t)

-- the process that its frames came of
abbrev pub whole : Task Frame → Proc
whole t = (view t.frame).plan

abbrev pub task_views : List (Task Frame) → List View
task_views ts = map task_view (map seen_task ts)

-- a frame with this site that no fault has stopped
abbrev pub unstopped : ℕ → Shape → View
unstopped i s = view_of i false s

abbrev pub seen_branch : Branch Frame → Branch View
seen_branch b = record { cond = b.cond; body = view b.body }

abbrev pub seen_guard : Guard Frame → Guard View
seen_guard g = record { cond = g.cond; chan = g.chan; var = g.var; body = view g.body }

abbrev pub seen_guards : Alt Frame → List (Guard View)
seen_guards a = map seen_guard a.guards.items

-- what each construct is, with what its frames stand for
abbrev pub assigned_shape : Assignment → Shape
assigned_shape a = assign a.var (given a.value)

abbrev pub output_shape : Output → Shape
output_shape o = send o.chan (given o.value) o.begun

abbrev pub input_shape : Input → Shape
input_shape i = receive i.chan i.var i.begun

abbrev pub seq_shape : Seq Frame → Shape
seq_shape s = seq (views s.parts.items) s.at

abbrev pub par_shape : Par Frame → Shape
par_shape p = par (map seen_task p.tasks.items)

abbrev pub branching_shape : If Frame → Shape
branching_shape b = branching (map seen_branch b.branches.items) b.taken

abbrev pub looping_shape : While Frame → Shape
looping_shape w = looping (as_test w.cond) (view w.body.value) w.turning

abbrev pub counting_shape : Count Frame → Shape
counting_shape c = counting c.var (exp c.base) (exp c.count) (view c.body.value) c.turn

abbrev pub alt_shape : Alt Frame → Shape
alt_shape a = guarding (seen_guards a) a.choice

abbrev pub shape : Construct Frame → Shape
shape run.Skip = skip
shape run.EmptySeq = empty_seq
shape run.EmptyPar = empty_par
shape run.Stop = stop
shape (run.Set a) = assigned_shape a
shape (run.Send o) = output_shape o
shape (run.Receive i) = input_shape i
shape (run.Stopch c) = stop_chan c
shape (run.Seq s) = seq_shape s
shape (run.Par p) = par_shape p
shape (run.If b) = branching_shape b
shape (run.While w) = looping_shape w
shape (run.Count c) = counting_shape c
shape (run.Alt a) = alt_shape a

-- the bytes that the assignment at a site is about to assign
abbrev pub assigned_at : ℕ → Rest → Store → Option Datum
assigned_at i (Fresh (Assign j v a)) e = if i == j then assigned_bytes a e else None
assigned_at i (Then r ps) e = assigned_at i r e
assigned_at i (Turns r v b n p) e = assigned_at i r e
assigned_at i (Beside mine r q) e = option_or (assigned_at i r e) (assigned_at i q e)
assigned_at i r e = None

abbrev pub listed : Option Move → List Move
listed None = []
listed (Some m) = m ∷ []

-- it needs no channel inside the node
abbrev pub is_outside : (ℕ → Bool) → Move → Bool
is_outside inside (move.Offer i c) = not (inside c)
is_outside inside (move.Want i c) = not (inside c)
is_outside inside (move.Choose i k c) = not (inside c)
is_outside inside (move.Stopch i c) = true
is_outside inside (move.Inner i j k c) = true
is_outside inside (move.Quiet i) = true

-- the site, if it waits for this
abbrev pub waits_there : Waits → Waiting → Option ℕ
waits_there (waits.Output c) (output i d) = if c == d then Some i else None
waits_there (waits.Input c) (input i d) = if c == d then Some i else None
waits_there w x = None

-- the first site of these that waits for this
abbrev pub first_waits : Waits → List Waiting → Option ℕ
first_waits w [] = None
first_waits w (x ∷ xs) = option_or (waits_there w x) (first_waits w xs)

-- a site that waits for this
abbrev pub waits_at : Waits → ℕ → Waiting
waits_at (waits.Output c) i = output i c
waits_at (waits.Input c) i = input i c

-- what a site waits for that waits for at most this
abbrev pub waits_of : ℕ → Option Waits → List Waiting
waits_of i None = []
waits_of i (Some w) = waits_at w i ∷ []

-- a site can do this
abbrev pub Able : Rest → Store → ℕ → SiteAction → Type 0
Able r e i d = (ks : List Comm) × (q : Rest) × (f : Store) × Step r e i d ks q f

-- a site did this
abbrev pub Did : Rest → Store → ℕ → Actions → Rest → Store → Type 0
Did r e i (one d) q f = (ks : List Comm) × Step r e i d ks q f
Did r e i (whole_output c) q f =
    (ks : List Comm) × (m : Rest) × (g : Store) × (ls : List Comm) × Step r e i (action.Offer c) ks m g × Step m g i action.Finish ls q f

-- the variables that a process changes are among so many
abbrev pub HasVariables : Proc → ℕ → Type 0
HasVariables p n = (v : ℕ) → changes p v ≡ true → v < n

-- the step of a site can be made, and where it assigns bytes it brings them
pub record CanGo (step : StepAt) (v : View) (vars : List Datum) : Type 0 where
  pub able : Able v.rest (store vars) step.site (first_action step.actions)
  pub brings : step.actions ≡ one action.Quiet → step.assigned ≡ assigned_at step.site v.rest (store vars)
  pub variables : HasVariables v.plan (length vars)
  pub in_preorder : InPreorder v.plan
  pub sound : v.sound ≡ true

-- it was made, and came to this; of what has ended nothing remains
pub record Went (step : StepAt) (v : View) (e : Store) (o : Outcome) (w : View) (f : Store) : Type 0 where
  pub did : Did v.rest e step.site step.actions (left_by o w.rest) f
  pub plan : w.plan ≡ v.plan
  pub sound : w.sound ≡ true
  pub outcome : o ≡ outcome_of (left_by o w.rest)

-- the own site of a construct made a step without a communication and came to this, or it is a fault, and nothing has changed
abbrev pub Acted : ℕ → Shape → Store → Option Outcome → Shape → Store → Type 0
Acted i s e (Some o) t f = Went (step_at i (one action.Quiet)) (unstopped i s) e o (unstopped i t) f
Acted i s e None t f = (t ≡ s) × (f ≡ e) × Did (rest_of i s) e i (one action.Quiet) (Stopped i) e

-- the part of a SEQ has ended, and the next one has begun, if there is one
pub record HasNext (vs : List View) (k : ℕ) (o : Outcome) (ws : List View) (m : ℕ) : Type 0 where
  pub rest : (i : ℕ) → left_by o (rest_of i (seq ws m)) ≡ then_on Done (plans_of (drop (suc k) vs))
  pub plans : plans_of ws ≡ plans_of vs
  pub sound : is_sound (seq ws m) ≡ true
  pub outcome : o ≡ outcome_of (then_on Done (plans_of (drop (suc k) vs)))

-- the turn of a replicated SEQ has ended, and the next one has begun, if there is one
abbrev pub turns_behind : Turn → ℕ
turns_behind t = turns_left t.index t.last

abbrev pub turned_rest : Turn → Shape → Rest
turned_rest t (counting x a n v u) = turns_on Done x (t.index +ℤ pos 1) (turns_behind t) v.plan
turned_rest t s = Done

abbrev pub turned_store : Turn → Shape → Store → Store
turned_store t (counting x a n v u) e = index_on Done x (t.index +ℤ pos 1) (turns_behind t) e
turned_store t s e = e

pub record HasTurned (t : Turn) (s : Shape) (e : Store) (o : Outcome) (u : Shape) (f : Store) : Type 0 where
  pub rest : (i : ℕ) → left_by o (rest_of i u) ≡ turned_rest t s
  pub plan : (i : ℕ) → plan_of i u ≡ plan_of i s
  pub sound : is_sound u ≡ true
  pub outcome : o ≡ outcome_of (turned_rest t s)
  pub value : f ≡ turned_store t s e

-- an ALT has a guard at this place, whose variable is among so many
abbrev pub HasGuard : List (Guard View) → ℕ → ℕ → Type 0
HasGuard gs k n = (g : Guard View) × (slice_get gs k ≡ Some g) × (g.var < n)

-- the message of that guard has come, and its body has begun
pub record HasGot (k : ℕ) (m : List ℕ) (gs : List (Guard View)) (e : Store) (o : Outcome) (t : Shape) (f : Store) : Type 0 where
  pub guard : Guard View
  pub there : slice_get gs k ≡ Some guard
  pub rest : (i : ℕ) → left_by o (rest_of i t) ≡ begin guard.body.plan
  pub plan : (i : ℕ) → plan_of i t ≡ ALT i (guards_of gs)
  pub sound : is_sound t ≡ true
  pub outcome : o ≡ outcome_of (begin guard.body.plan)
  pub value : f ≡ set e guard.var (received (e guard.var) m)

-- what goes on, without what comes behind it
abbrev pub innermost : Rest → Rest
innermost (Then r ps) = innermost r
innermost (Turns r v b n p) = innermost r
innermost r = r

-- its own site is at work, and none of its parts
abbrev pub IsAtItself : Frame → Type 0
IsAtItself f = is_at_itself (shape (out-Frame f).construct) ≡ true

-- it is at no part alone: it is at itself, or a PAR
abbrev pub goes_alone : Shape → Bool
goes_alone (par ts) = true
goes_alone s = is_at_itself s

abbrev pub GoesAlone : Frame → Type 0
GoesAlone f = goes_alone (shape (out-Frame f).construct) ≡ true

-- the part that goes on alone, if one does
abbrev pub goes_on_at : Shape → Option View
goes_on_at (seq vs k) = slice_get vs k
goes_on_at (branching bs (Some k)) = slice_get (bodies bs) k
goes_on_at (looping b v true) = Some v
goes_on_at (counting x a n v (Some t)) = Some v
goes_on_at (guarding gs (Within k)) = slice_get (guarded gs) k
goes_on_at s = None

-- a part of a frame goes on alone
pub record IsPart (part whole : Frame) : Type 0 where
  pub goes_on : goes_on_at (shape (out-Frame whole).construct) ≡ Some (view part)
  pub smaller : size-Frame part < size-Frame whole
  pub rest : innermost (view whole).rest ≡ innermost (view part).rest
  pub in_preorder : InPreorder (view whole).plan → InPreorder (view part).plan
  pub sound : (view part).sound ≡ true

-- an ALT that has taken no guard
abbrev pub is_open_alt : Rest → Bool
is_open_alt (Fresh (ALT i gs)) = true
is_open_alt r = false

-- with these guards
pub record IsOpenAlt (i : ℕ) (gs : List (Guard Frame)) (r : Rest) : Type 0 where
  pub few : length gs < 65536
  pub rest : r ≡ Fresh (ALT i (guards_of (map seen_guard gs)))

-- the move that takes a guard, where its condition is true
abbrev pub choice_of : ℕ → ℕ → Guard View → Store → List Move
choice_of i k g e = if is_true (holds (as_test g.cond) e) then (move.Choose i k g.chan ∷ []) else []

-- the moves of such an ALT
abbrev pub moves_of : ℕ → List (Guard View) → Store → List Move
moves_of i gs e = if all_decided (guards_of gs) e then choices i 0 (guards_of gs) e else []

-- the place of the first branch whose condition is true, before a condition that is a fault; the first of them has place k
abbrev pub place_on : Option Bool → ℕ → Option ℕ → Option ℕ
place_on (Some true) k o = Some k
place_on (Some false) k o = o
place_on None k o = None

abbrev pub chosen_from : ℕ → List Test → Store → Option ℕ
chosen_from k [] e = None
chosen_from k (b ∷ bs) e = place_on (holds b e) k (chosen_from (suc k) bs e)

-- the first turn of a replicated SEQ whose base and count are worth this, if it has one; None of both is a fault
abbrev pub turn_to : ℤ → Option ℤ → Option (Option Turn)
turn_to x None = None
turn_to x (Some y) = Some (Some (record { index = x; last = y }))

abbrev pub count_turn : Option ℤ → Option ℤ → Option (Option Turn)
count_turn None n = None
count_turn (Some x) None = None
count_turn (Some x) (Some (negsuc n)) = None
count_turn (Some x) (Some (pos zero)) = Some None
count_turn (Some x) (Some (pos (suc n))) = turn_to x (within (x +ℤ pos n))

-- the place of the part that has a site: the last that begins at this site or before it
abbrev pub place_with : ℕ → List View → ℕ
place_with i [] = 0
place_with i (v ∷ []) = 0
place_with i (v ∷ w ∷ vs) = if nat_le (site w.plan) i then suc (place_with i (w ∷ vs)) else 0

-- nothing begins or waits at a site
pub record HasNothingAt (i : ℕ) (r : Rest) : Type 0 where
  pub output : (e : Store) → output_at i r e ≡ None
  pub assigned : (e : Store) → assigned_at i r e ≡ None
  pub moves : (e : Store) (m : Move) → site_of m ≡ i → Contains (own r e) m → ⊥

-- what begins at a site begins in this frame, whose own site is at work; and what this frame waits for is waited for
pub record StandsAt (i : ℕ) (f : Frame) (r : Rest) : Type 0 where
  pub itself : IsAtItself f
  pub sound : (view f).sound ≡ true
  pub output : (e : Store) → output_at i r e ≡ output_at i (view f).rest e
  pub assigned : (e : Store) → assigned_at i r e ≡ assigned_at i (view f).rest e
  pub moves : (e : Store) (m : Move) → site_of m ≡ i → Contains (own r e) m ↔ Contains (own (view f).rest e) m
  pub waits : (w : Waiting) → Contains (waiting (view f).rest) w → Contains (waiting r) w
