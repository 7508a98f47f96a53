-- What may do something in a frame is one of its process's sites.
use Rattle.std.proofs.Common.{ℕ, zero, suc, Bool, true, false, sym, subst, List, [], ◌∷◌, map, drop, Option, Some, None}
use Rattle.std.specs.Prelude.{slice_get}
use Rattle.vc_occam.specs.declared.frame.Branch.{Branch}
use Rattle.vc_occam.specs.declared.frame.Choice.TheVariants.{Taken, Within as In}
use Rattle.vc_occam.specs.declared.frame.Construct.{Construct}
use Rattle.vc_occam.specs.declared.frame.Construct.TheVariants as run
use Rattle.vc_occam.specs.declared.frame.Frame.{Frame}
use Rattle.vc_occam.specs.declared.frame.Frame.TheOpen.{Frame-F}
use Rattle.vc_occam.specs.declared.frame.Frame.TheFolds.{ind-Frame, map-Frame}
use Rattle.vc_occam.specs.declared.frame.Guard.{Guard}
use Rattle.vc_occam.specs.declared.frame.Task.{Task}
use Rattle.vc_occam.specs.declared.outcome.Outcome.{Outcome}
use Rattle.vc_occam.specs.declared.outcome.Outcome.TheVariants as outcome
use Rattle.vc_process.specs.Syntax.{Proc, STOP, Procs, no_parts, part}
use Rattle.vc_process.specs.Usage.{Set, just, nothing, ◌∪◌}
use Rattle.vc_occam.specs.Frames.{View, Shape, send, receive, stop, seq, par, branching, looping, counting, guarding, bodies, branches_of, follow, guarded, guards_of, left_by, plan_of, plans_of, rest_of, taken_rest, task_view, view, view_of}
use Rattle.vc_occam.specs.Private.Frames.{seen_branch, seen_guard, shape, task_views, views, whole}
use Rattle.vc_occam.specs.Remains.{Rest, Fresh, and_then}
use Rattle.vc_occam.specs.Sites.{sites, sites_all, sites_branches, sites_guards}
use Rattle.vc_occam.proofs.Doers.{doers}
use Rattle.vc_occam.proofs.PartOfSite.{AllWithin, besides_sites}
use Rattle.vc_occam.proofs.Sites.{Within, within_left, within_none, within_right}
use Rattle.vc_occam.proofs.Views.{view_roll}

later : (a b c : Set) → Within a c → Within a (b ∪ c)
later a b c h k e = within_right b c k (h k e)

sooner : (a b c : Set) → Within a b → Within a (b ∪ c)
sooner a b c h k e = within_left b c k (h k e)

then_doers : (r : Rest) (ps : Procs) (a : Set) → Within (doers r) a → Within (doers (and_then r ps)) a
then_doers r no_parts a h = h
then_doers r (part p ps) a h = h

seq_inside : (vs : List View) (k : ℕ) (qs : Procs) → AllWithin vs → Within (doers (follow (slice_get vs k) qs)) (sites_all (plans_of vs))
seq_inside [] k qs w = within_none nothing
seq_inside (v ∷ vs) zero qs w = then_doers v.rest qs (sites_all (plans_of (v ∷ vs))) (sooner (doers v.rest) (sites v.plan) (sites_all (plans_of vs)) w.0)
seq_inside (v ∷ vs) (suc k) qs w = later (doers (follow (slice_get vs k) qs)) (sites v.plan) (sites_all (plans_of vs)) (seq_inside vs k qs w.1)

branch_inside : (bs : List (Branch View)) (k : ℕ) → AllWithin (bodies bs) → Within (doers (follow (slice_get (bodies bs) k) no_parts)) (sites_branches (branches_of bs))
branch_inside [] k w = within_none nothing
branch_inside (b ∷ bs) zero w = sooner (doers b.body.rest) (sites b.body.plan) (sites_branches (branches_of bs)) w.0
branch_inside (b ∷ bs) (suc k) w = later (doers (follow (slice_get (bodies bs) k) no_parts)) (sites b.body.plan) (sites_branches (branches_of bs)) (branch_inside bs k w.1)

guard_inside : (gs : List (Guard View)) (k : ℕ) → AllWithin (guarded gs) → Within (doers (follow (slice_get (guarded gs) k) no_parts)) (sites_guards (guards_of gs))
guard_inside [] k w = within_none nothing
guard_inside (g ∷ gs) zero w = sooner (doers g.body.rest) (sites g.body.plan) (sites_guards (guards_of gs)) w.0
guard_inside (g ∷ gs) (suc k) w = later (doers (follow (slice_get (guarded gs) k) no_parts)) (sites g.body.plan) (sites_guards (guards_of gs)) (guard_inside gs k w.1)

taken_inside : (i : ℕ) (o : Option (Guard View)) (a : Set) → Within (doers (taken_rest i o)) (just i ∪ a)
taken_inside i None a = within_none (just i ∪ a)
taken_inside i (Some g) a = within_left (just i) a

fresh_inside : (p : Proc) → Within (doers (Fresh p)) (sites p)
fresh_inside (STOP i) = within_none (just i)
fresh_inside p = λ k e. e

-- what is known of the parts of a shape
abbrev PartsWithin : Shape → Type 0
PartsWithin (seq vs k) = AllWithin vs
PartsWithin (par ts) = AllWithin (map task_view ts)
PartsWithin (branching bs t) = AllWithin (bodies bs)
PartsWithin (looping b v t) = Within (doers v.rest) (sites v.plan)
PartsWithin (counting x a n v t) = Within (doers v.rest) (sites v.plan)
PartsWithin (guarding gs c) = AllWithin (guarded gs)
PartsWithin s = Unit {0}

rest_inside : (i : ℕ) (s : Shape) → PartsWithin s → Within (doers (rest_of i s)) (sites (plan_of i s))
rest_inside i stop w = fresh_inside (plan_of i stop)
rest_inside i (send c a true) w = λ k e. e
rest_inside i (receive c v true) w = λ k e. e
rest_inside i (seq vs k) w = later (doers (rest_of i (seq vs k))) (just i) (sites_all (plans_of vs)) (seq_inside vs k (plans_of (drop (suc k) vs)) w)
rest_inside i (par ts) w = later (doers (rest_of i (par ts))) (just i) (sites_all (plans_of (map task_view ts))) (besides_sites (map task_view ts) w)
rest_inside i (branching bs (Some k)) w = later (doers (rest_of i (branching bs (Some k)))) (just i) (sites_branches (branches_of bs)) (branch_inside bs k w)
rest_inside i (looping b v true) w = later (doers v.rest) (just i) (sites v.plan) w
rest_inside i (counting x a n v (Some t)) w = later (doers v.rest) (just i) (sites v.plan) w
rest_inside i (guarding gs (Taken k)) w = taken_inside i (slice_get gs k) (sites_guards (guards_of gs))
rest_inside i (guarding gs (In k)) w = later (doers (rest_of i (guarding gs (In k)))) (just i) (sites_guards (guards_of gs)) (guard_inside gs k w)
rest_inside i s w = λ k e. e

shape_inside : (i : ℕ) (stopped : Bool) (s : Shape) → PartsWithin s → Within (doers (view_of i stopped s).rest) (sites (view_of i stopped s).plan)
shape_inside i true s w = within_none (sites (plan_of i s))
shape_inside i false s w = rest_inside i s w

abbrev IsInside : Frame → Type 0
IsInside f = Within (doers (view f).rest) (sites (view f).plan)

left_inside : (o : Outcome) (r : Rest) (a : Set) → Within (doers r) a → Within (doers (left_by o r)) a
left_inside outcome.Ended r a h = within_none a
left_inside o r a h = h

-- a frame with this proof beside it
abbrev Inside : Type 0
Inside = (f : Frame) × IsInside f

all_inside : (fs : List Inside) → AllWithin (views (map (λ e. e.0) fs))
all_inside [] = tt
all_inside (f ∷ fs) = (f.1, all_inside fs)

abbrev bare : Frame-F Inside → Frame-F Frame
bare = map-Frame Inside Frame (λ e. e.0)

all_tasks : (ts : List (Task Inside)) → AllWithin (task_views (map (λ t. record { frame = t.frame.0; begins = t.begins }) ts))
all_tasks [] = tt
all_tasks (t ∷ ts) = (left_inside t.begins (view t.frame.0).rest (sites (view t.frame.0).plan) t.frame.1, all_tasks ts)

all_branches : (bs : List (Branch Inside)) → AllWithin (bodies (map seen_branch (map (λ b. record { cond = b.cond; body = b.body.0 }) bs)))
all_branches [] = tt
all_branches (b ∷ bs) = (b.body.1, all_branches bs)

all_guards : (gs : List (Guard Inside)) → AllWithin (guarded (map seen_guard (map (λ g. record { cond = g.cond; chan = g.chan; var = g.var; body = g.body.0 }) gs)))
all_guards [] = tt
all_guards (g ∷ gs) = (g.body.1, all_guards gs)

parts_inside : (i : ℕ) (stopped : Bool) (c : Construct Inside) → PartsWithin (shape (bare (record { site = i; stopped = stopped; construct = c })).construct)
parts_inside i st (run.Seq s) = all_inside s.parts.items
parts_inside i st (run.Par p) = all_tasks p.tasks.items
parts_inside i st (run.If b) = all_branches b.branches.items
parts_inside i st (run.While w) = w.body.value.1
parts_inside i st (run.Count c) = c.body.value.1
parts_inside i st (run.Alt a) = all_guards a.guards.items
parts_inside i st c = tt

-- y is x with a proof beside each part
frame_inside : (f : Frame) → IsInside f
frame_inside = ind-Frame IsInside (λ x y is.
    let parts = subst (λ (z : Frame-F Frame). PartsWithin (shape z.construct)) is (parts_inside y.site y.stopped y.construct) in
    subst (λ (v : View). Within (doers v.rest) (sites v.plan)) (sym (view_roll x)) (shape_inside x.site x.stopped (shape x.construct) parts))

pub tasks_inside : (ts : List (Task Frame)) → AllWithin (task_views ts)
tasks_inside [] = tt
tasks_inside (t ∷ ts) = (left_inside t.begins (view t.frame).rest (sites (whole t)) (frame_inside t.frame), tasks_inside ts)
