-- What the running code stands for: a tree of frames, each with the process that was written and what remains of it.
use Rattle.std.specs.Prelude.{ℕ, suc, ℤ, pos, ◌+ℤ◌, ◌-ℤ◌, int_lt, Bool, true, false, ◌&&◌, List, [], ◌∷◌, map, drop, length, nat_lt, ◌==◌, slice_get, Option, Some, None, if◌then◌else◌}
use lib.Signed.{mag}
use Rattle.vc_occam.specs.declared.frame.Frame.{Frame}
use Rattle.vc_occam.specs.declared.frame.Frame.TheOpen.{Frame-F}
use Rattle.vc_occam.specs.declared.frame.Frame.TheFolds.{fold-Frame}
use Rattle.vc_occam.specs.declared.frame.Construct.{Construct}
use Rattle.vc_occam.specs.declared.frame.Construct.TheVariants as run
use Rattle.vc_occam.specs.declared.frame.Task.{Task}
use Rattle.vc_occam.specs.declared.frame.Branch.{Branch}
use Rattle.vc_occam.specs.declared.frame.Guard.{Guard}
use Rattle.vc_occam.specs.declared.frame.Turn.{Turn}
use Rattle.vc_occam.specs.declared.frame.Choice.{Choice}
use Rattle.vc_occam.specs.declared.frame.Choice.TheVariants.{Open, Taken, Within}
use Rattle.vc_occam.specs.declared.outcome.Outcome.{Outcome}
use Rattle.vc_occam.specs.declared.outcome.Outcome.TheVariants as outcome
use Rattle.vc_process.specs.Usage.{changes}
use Rattle.vc_process.specs.Syntax.{Exp, Test, Given, Whole, Proc, SKIP, STOP, Assign, Output, Input, StopChan, SEQ, PAR, IF, WHILE, COUNT, ALT, Procs, no_parts, part, Branches, no_branches, branch, Guards, no_guards, guard}
use Rattle.vc_process.specs.Terms.{exp, given, as_test}
use Rattle.vc_occam.specs.Remains.{Rest, Done, Stopped, Fresh, Finishing, Getting, Then, Turns, Beside, and_then, beside_on, begin}

-- a process that was written, what remains of it, and whether its frames are ones that can be
pub record View : Type 0 where
  pub plan : Proc
  pub rest : Rest
  pub sound : Bool

-- what a frame runs and how far it is, with what its parts stand for
pub data Shape : Type 0 where
  skip : Shape
  empty_seq : Shape
  empty_par : Shape
  stop : Shape
  assign : (var : ℕ) → Given → Shape
  send : (chan : ℕ) → Given → (begun : Bool) → Shape
  receive : (chan var : ℕ) → (begun : Bool) → Shape
  stop_chan : (chan : ℕ) → Shape
  seq : List View → (at : ℕ) → Shape
  par : List (Task View) → Shape
  branching : List (Branch View) → (taken : Option ℕ) → Shape
  looping : Test → View → (turning : Bool) → Shape
  counting : (var : ℕ) → (base count : Exp) → View → Option Turn → Shape
  guarding : List (Guard View) → Choice → Shape

-- the processes that were written
abbrev pub plans_of : List View → Procs
plans_of [] = no_parts
plans_of (v ∷ vs) = part v.plan (plans_of vs)

abbrev pub branches_of : List (Branch View) → Branches
branches_of [] = no_branches
branches_of (b ∷ bs) = branch (as_test b.cond) b.body.plan (branches_of bs)

abbrev pub guards_of : List (Guard View) → Guards
guards_of [] = no_guards
guards_of (g ∷ gs) = guard (as_test g.cond) g.chan g.var g.body.plan (guards_of gs)

-- what a process comes to by what remains of it: it ends, or begins with nothing, or with one quiet step that assigns no bytes
abbrev pub fresh_outcome : Proc → Outcome
fresh_outcome (SKIP i) = outcome.Quiet i
fresh_outcome (STOP i) = outcome.Nothing
fresh_outcome (Assign i v (Whole a)) = outcome.Quiet i
fresh_outcome (SEQ i no_parts) = outcome.Quiet i
fresh_outcome (PAR i no_parts) = outcome.Quiet i
fresh_outcome (IF i bs) = outcome.Quiet i
fresh_outcome (WHILE i b p) = outcome.Quiet i
fresh_outcome (COUNT i v a n p) = outcome.Quiet i
fresh_outcome p = outcome.Other

abbrev pub unless_ended : Outcome → Outcome
unless_ended outcome.Ended = outcome.Other
unless_ended o = o

abbrev pub outcome_of : Rest → Outcome
outcome_of Done = outcome.Ended
outcome_of (Stopped i) = outcome.Nothing
outcome_of (Fresh p) = fresh_outcome p
outcome_of (Finishing i c) = outcome.Nothing
outcome_of (Getting i c v) = outcome.Nothing
outcome_of (Then r ps) = unless_ended (outcome_of r)
outcome_of (Turns r v b n p) = unless_ended (outcome_of r)
outcome_of (Beside mine r q) = outcome.Other

-- nothing remains of a frame that has ended
abbrev pub left_by : Outcome → Rest → Rest
left_by outcome.Ended r = Done
left_by o r = r

abbrev pub same_outcome : Outcome → Outcome → Bool
same_outcome outcome.Ended outcome.Ended = true
same_outcome outcome.Nothing outcome.Nothing = true
same_outcome (outcome.Quiet i) (outcome.Quiet j) = i == j
same_outcome outcome.Other outcome.Other = true
same_outcome o q = false

-- a process that has begun
abbrev pub begun : Proc → View
begun p = record { plan = p; rest = begin p; sound = true }

-- a process that goes on by itself; what it comes to is kept, and is true of what remains
abbrev pub task_view : Task View → View
task_view t =
    let r = left_by t.begins t.frame.rest in
    record { plan = t.frame.plan; rest = r; sound = t.frame.sound && same_outcome t.begins (outcome_of r) }

-- the part that goes on, and what comes behind it; a part that isn't there never goes on
abbrev pub follow : Option View → Procs → Rest
follow None ps = Fresh (STOP 0)
follow (Some v) ps = and_then v.rest ps

-- parts that go on side by side
abbrev pub besides : List View → Rest
besides [] = Done
besides (v ∷ vs) = beside_on (changes v.plan) v.rest (besides vs)

-- the turns behind the one with index x, where y is the last index
abbrev pub turns_left : ℤ → ℤ → ℕ
turns_left x y = if int_lt x y then mag (y -ℤ x) else 0

abbrev pub bodies : List (Branch View) → List View
bodies = map (λ b. b.body)

abbrev pub guarded : List (Guard View) → List View
guarded = map (λ g. g.body)

abbrev pub plan_of : ℕ → Shape → Proc
plan_of i skip = SKIP i
plan_of i empty_seq = SEQ i no_parts
plan_of i empty_par = PAR i no_parts
plan_of i stop = STOP i
plan_of i (assign v a) = Assign i v a
plan_of i (send c a b) = Output i c a
plan_of i (receive c v b) = Input i c v
plan_of i (stop_chan c) = StopChan i c
plan_of i (seq vs k) = SEQ i (plans_of vs)
plan_of i (par ts) = PAR i (plans_of (map task_view ts))
plan_of i (branching bs t) = IF i (branches_of bs)
plan_of i (looping b v t) = WHILE i b v.plan
plan_of i (counting x a n v t) = COUNT i x a n v.plan
plan_of i (guarding gs c) = ALT i (guards_of gs)

-- the guard that an ALT took, which waits for its message; then its body begins
abbrev pub taken_rest : ℕ → Option (Guard View) → Rest
taken_rest i None = Fresh (STOP 0)
taken_rest i (Some g) = Then (Getting i g.chan g.var) (part g.body.plan no_parts)

abbrev pub rest_of : ℕ → Shape → Rest
rest_of i (send c a true) = Finishing i c
rest_of i (receive c v true) = Getting i c v
rest_of i (seq vs k) = follow (slice_get vs k) (plans_of (drop (suc k) vs))
rest_of i (par ts) = besides (map task_view ts)
rest_of i (branching bs (Some k)) = follow (slice_get (bodies bs) k) no_parts
rest_of i (looping b v true) = Then v.rest (part (WHILE i b v.plan) no_parts)
rest_of i (counting x a n v (Some t)) = Turns v.rest x (t.index +ℤ pos 1) (turns_left t.index t.last) v.plan
rest_of i (guarding gs (Taken k)) = taken_rest i (slice_get gs k)
rest_of i (guarding gs (Within k)) = follow (slice_get (guarded gs) k) no_parts
rest_of i s = Fresh (plan_of i s)

-- its own site is at work, and none of its parts
abbrev pub is_at_itself : Shape → Bool
is_at_itself (seq vs k) = false
is_at_itself (par ts) = false
is_at_itself (branching bs (Some k)) = false
is_at_itself (looping b v true) = false
is_at_itself (counting x a n v (Some t)) = false
is_at_itself (guarding gs (Within k)) = false
is_at_itself s = true

-- the place that is kept is among so many
abbrev pub has_place : Option ℕ → ℕ → Bool
has_place None n = true
has_place (Some k) n = nat_lt k n

abbrev pub has_guard : Choice → ℕ → Bool
has_guard Open n = true
has_guard (Taken k) n = nat_lt k n
has_guard (Within k) n = nat_lt k n

abbrev pub all_sound : List View → Bool
all_sound [] = true
all_sound (v ∷ vs) = v.sound && all_sound vs

abbrev pub is_sound : Shape → Bool
is_sound (seq vs k) = nat_lt k (length vs) && all_sound vs
is_sound (par ts) = nat_lt 0 (length ts) && all_sound (map task_view ts)
is_sound (branching bs t) = has_place t (length bs) && all_sound (bodies bs)
is_sound (looping b v t) = v.sound
is_sound (counting x a n v t) = v.sound
is_sound (guarding gs c) = nat_lt (length gs) 65536 && (has_guard c (length gs) && all_sound (guarded gs))
is_sound s = true

-- a frame with this site, which a fault has stopped or has not
abbrev pub view_of : ℕ → Bool → Shape → View
view_of i true s = record { plan = plan_of i s; rest = Stopped i; sound = is_at_itself s && is_sound s }
view_of i false s = record { plan = plan_of i s; rest = rest_of i s; sound = is_sound s }

-- what a construct is whose parts stand for these
abbrev pub shape_of : Construct View → Shape
shape_of run.Skip = skip
shape_of run.EmptySeq = empty_seq
shape_of run.EmptyPar = empty_par
shape_of run.Stop = stop
shape_of (run.Set a) = assign a.var (given a.value)
shape_of (run.Send o) = send o.chan (given o.value) o.begun
shape_of (run.Receive i) = receive i.chan i.var i.begun
shape_of (run.Stopch c) = stop_chan c
shape_of (run.Seq s) = seq s.parts.items s.at
shape_of (run.Par p) = par p.tasks.items
shape_of (run.If b) = branching b.branches.items b.taken
shape_of (run.While w) = looping (as_test w.cond) w.body.value w.turning
shape_of (run.Count c) = counting c.var (exp c.base) (exp c.count) c.body.value c.turn
shape_of (run.Alt a) = guarding a.guards.items a.choice

-- one frame, with what its parts stand for in their place
unfoldable pub view_step : Frame-F View → View
view_step f = view_of f.site f.stopped (shape_of f.construct)

unfoldable pub view : Frame → View
view = fold-Frame View view_step

-- what remains of a process that goes on by itself
abbrev pub remains : Task Frame → Rest
remains t = left_by t.begins (view t.frame).rest
