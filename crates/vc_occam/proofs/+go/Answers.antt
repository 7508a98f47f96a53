use Rattle.std.proofs.Common.{◌≡◌, ◌∙◌, ◌<◌, ℕ, List, Bool, true, false, Option, Some, length, map, set, sym, subst, rules, arith}
use Rattle.std.specs.Prelude.{IfSome, nat_lt}
use Rattle.std.proofs.lemmas.Bool.{and_parts}
use Rattle.std.proofs.lemmas.Bool.Decides.{nat_tests}
use Rattle.std.proofs.lemmas.List.{length-map, map-set}
use Rattle.std.specs.Box.{with_value}
use Rattle.std.specs.Vec.{with_item}
use Rattle.vc_occam.specs.declared.frame.Branch.{Branch}
use Rattle.vc_occam.specs.declared.frame.Choice.{Choice}
use Rattle.vc_occam.specs.declared.frame.Choice.TheVariants.{Within}
use Rattle.vc_occam.specs.declared.frame.Construct.TheVariants as run
use Rattle.vc_occam.specs.declared.frame.Frame.{Frame}
use Rattle.vc_occam.specs.declared.frame.Frame.TheOpen.{Frame-F}
use Rattle.vc_occam.specs.declared.frame.Frame.TheViews.{the_lemmas, out-Frame, out-roll-Frame, roll-Frame}
use Rattle.vc_occam.specs.declared.frame.Guard.{Guard}
use Rattle.vc_occam.specs.declared.frame.While.{While}
use Rattle.vc_occam.specs.declared.frame.Count.{Count}
use Rattle.vc_occam.specs.declared.frame.Task.{Task}
use Rattle.vc_occam.specs.declared.frame.Turn.{Turn}
use Rattle.vc_occam.specs.declared.outcome.Outcome.TheVariants.{Quiet}
use Rattle.vc_process.specs.Terms.{as_test, exp, store}
use Rattle.vc_occam.specs.Frames.{all_sound, bodies, branching, counting, guarded, guarding, is_sound, looping, seq, view}
use Rattle.vc_occam.specs.Private.Frames.{CanGo, HasNext, HasTurned, Went, counting_shape, place_with, seen_branch, seen_guard, shown, task_views, unstopped, views}
use Rattle.vc_occam.proofs.Abreast.{par_goes, par_part, par_went, part_there, tasks_still_sound}
use Rattle.vc_occam.proofs.SiteActs.{frame_can, index_there, rolled_went, sound_as}
use Rattle.vc_occam.proofs.Bodies.{branch_part, branch_went, count_goes, count_part, count_went, guard_part, guard_went, turn_ended, turn_goes, turn_part}
use Rattle.vc_occam.proofs.PartSteps.{seq_goes, seq_part, seq_sound, seq_went}
use Rattle.vc_occam.proofs.Pars.{task_at}
use Rattle.vc_occam.proofs.Views.{map_get}
use Rattle.vc_occam.proofs.+go.Goals as goal

-- a test of a place in a list, and what it says
among : (k n m : ℕ) → nat_lt k n ≡ true → n ≡ m → k < m
among k n m h e = let l : k < n = grind (arith, nat_tests) in omega arith

-- the place of the part with a site
placed : (ts us : List (Task Frame)) (i j k : ℕ) → us ≡ ts → i ≡ j → k ≡ place_with i (task_views us) → k ≡ place_with j (task_views ts)
placed ts us i j k h e g = cc

pub frame::Frame::go-index_mut-requires : goal.frame::Frame::go-index_mut-requires
frame::Frame::go-index_mut-requires g t c =
    let step = g.S.SiteStep.stands_for c.args.step.now in
    let s = c.in-Seq.seq in
    let sound = sound_as step c.args.self.now (run.Seq s) c.args.vars.now.items c.requires.can c.in-Seq.is in
    let l = among s.at (length (views s.parts.items)) (length s.parts.items) (and_parts (nat_lt s.at (length (views s.parts.items))) (all_sound (views s.parts.items)) sound).0 (length-map s.parts.items view) in
    let o = s.parts.ok.0 in
    omega arith

pub frame::Frame::go-go-outcome-requires : goal.frame::Frame::go-go-outcome-requires
frame::Frame::go-go-outcome-requires g t c κs within =
    let step = g.S.SiteStep.stands_for c.args.step.now in
    let s = c.in-Seq.seq in
    let can = frame_can step c.args.self.now (run.Seq s) c.args.vars.now.items c.requires.can c.in-Seq.is in
    let l = among s.at (length (views s.parts.items)) (length s.parts.items) (and_parts (nat_lt s.at (length (views s.parts.items))) (all_sound (views s.parts.items)) can.sound).0 (length-map s.parts.items view) in
    let is = map_get view s.parts.items s.at c.index_mut.result.now l c.index_mut.ensures.value in
    (search (rules, the_lemmas), (within, seq_part step (out-Frame c.args.self.now).site (views s.parts.items) s.at (view c.index_mut.result.now) is c.args.vars.now.items can))

pub frame::Frame::go-next-requires : goal.frame::Frame::go-next-requires
frame::Frame::go-next-requires g t c =
    let step = g.S.SiteStep.stands_for c.args.step.now in
    let s = c.in-Seq.seq in
    let vs = views s.parts.items in
    let sound = sound_as step c.args.self.now (run.Seq s) c.args.vars.now.items c.requires.can c.in-Seq.is in
    let l = among s.at (length vs) (length s.parts.items) (and_parts (nat_lt s.at (length vs)) (all_sound vs) sound).0 (length-map s.parts.items view) in
    let is = map_get view s.parts.items s.at c.index_mut.result.now l c.index_mut.ensures.value in
    record {
      sound = subst (λ ws. is_sound (seq ws s.at) ≡ true) (sym (map-set view s.parts.items s.at c.go-outcome.new.self))
          (seq_sound step (out-Frame c.args.self.now).site vs s.at (view c.index_mut.result.now) is (store c.args.vars.now.items) c.go-outcome.result (view c.go-outcome.new.self) (store c.go-outcome.new.vars.items) sound c.go-outcome.ensures.went);
    }

pub frame::Frame::go-returns-then-has_ended-clause-went : goal.frame::Frame::go-returns-then-has_ended-clause-went
frame::Frame::go-returns-then-has_ended-clause-went g t c =
    let step = g.S.SiteStep.stands_for c.args.step.now in
    let s = c.in-Seq.seq in
    let f = c.args.self.now in
    let i = (out-Frame f).site in
    let fs = s.parts.items in
    let vs = views fs in
    let e = store c.args.vars.now.items in
    let h = store c.go-outcome.new.vars.items in
    let can = frame_can step f (run.Seq s) c.args.vars.now.items c.requires.can c.in-Seq.is in
    let l = among s.at (length vs) (length fs) (and_parts (nat_lt s.at (length vs)) (all_sound vs) can.sound).0 (length-map fs view) in
    let is = map_get view fs s.at c.index_mut.result.now l c.index_mut.ensures.value in
    let w = view c.go-outcome.new.self in
    let changed = map-set view fs s.at c.go-outcome.new.self in
    let new = c.next.new.self in
    let next = subst (λ ws. HasNext ws s.at c.next.result (views new.parts.items) new.at) changed c.next.ensures in
    rolled_went step f (run.Seq s) (run.Seq new) c.args.vars.now.items c.next.result h c.requires.can c.in-Seq.is
    (seq_went step i vs s.at (view c.index_mut.result.now) is e c.go-outcome.result w h can.sound c.go-outcome.ensures.went c.next.result (views new.parts.items) new.at (sym c.has_ended.ensures ∙ c.if-has_ended.true) next)

pub frame::Frame::go-index_mut-requires-in-Some : goal.frame::Frame::go-index_mut-requires-in-Some
frame::Frame::go-index_mut-requires-in-Some g t c =
    let step = g.S.SiteStep.stands_for c.args.step.now in
    let s = c.in-If.branching in
    let bs = map seen_branch s.branches.items in
    let sound = subst (λ (p : Option ℕ). is_sound (branching bs p) ≡ true) c.in-Some.is (sound_as step c.args.self.now (run.If s) c.args.vars.now.items c.requires.can c.in-If.is) in
    let l = among c.in-Some.at (length bs) (length s.branches.items) (and_parts (nat_lt c.in-Some.at (length bs)) (all_sound (bodies bs)) sound).0 (length-map s.branches.items seen_branch) in
    let o = s.branches.ok.0 in
    omega arith

pub frame::Frame::go-go-requires-in-Some : goal.frame::Frame::go-go-requires-in-Some
frame::Frame::go-go-requires-in-Some g t c κs within =
    let step = g.S.SiteStep.stands_for c.args.step.now in
    let s = c.in-If.branching in
    let bs = map seen_branch s.branches.items in
    let i = (out-Frame c.args.self.now).site in
    let can = subst (λ (p : Option ℕ). CanGo step (unstopped i (branching bs p)) c.args.vars.now.items) c.in-Some.is (frame_can step c.args.self.now (run.If s) c.args.vars.now.items c.requires.can c.in-If.is) in
    let l = among c.in-Some.at (length bs) (length s.branches.items) (and_parts (nat_lt c.in-Some.at (length bs)) (all_sound (bodies bs)) can.sound).0 (length-map s.branches.items seen_branch) in
    let is = map_get seen_branch s.branches.items c.in-Some.at c.index_mut-in-Some.result.now l c.index_mut-in-Some.ensures.value in
    (search (rules, the_lemmas), (within, branch_part step i bs c.in-Some.at (seen_branch c.index_mut-in-Some.result.now) is c.args.vars.now.items can))

pub frame::Frame::go-go-outcome-requires-in-While : goal.frame::Frame::go-go-outcome-requires-in-While
frame::Frame::go-go-outcome-requires-in-While g t c κs within =
    let step = g.S.SiteStep.stands_for c.args.step.now in
    let s = c.in-While.looping in
    let i = (out-Frame c.args.self.now).site in
    let can = subst (λ (b : Bool). CanGo step (unstopped i (looping (as_test s.cond) (view s.body.value) b)) c.args.vars.now.items) c.if-looping.true (frame_can step c.args.self.now (run.While s) c.args.vars.now.items c.requires.can c.in-While.is) in
    (search (rules, the_lemmas), (within, subst (λ (f : Frame). CanGo step (view f) c.args.vars.now.items) (sym c.deref_mut.ensures.value) (turn_part step i (as_test s.cond) (view s.body.value) c.args.vars.now.items can)))

pub frame::Frame::go-returns-then-has_ended-2-clause-went : goal.frame::Frame::go-returns-then-has_ended-2-clause-went
frame::Frame::go-returns-then-has_ended-2-clause-went g t c =
    let step = g.S.SiteStep.stands_for c.args.step.now in
    let s = c.in-While.looping in
    let f = c.args.self.now in
    let i = (out-Frame f).site in
    let b = as_test s.cond in
    let v = view s.body.value in
    let w = view c.go-outcome-in-While.new.self in
    let e = store c.args.vars.now.items in
    let o = c.go-outcome-in-While.result in
    let h = store c.go-outcome-in-While.new.vars.items in
    let inside = subst (λ (g : Frame). Went step (view g) e o w h) c.deref_mut.ensures.value c.go-outcome-in-While.ensures.went in
    let new : While Frame = record { cond = s.cond; body = with_value s.body c.go-outcome-in-While.new.self; turning = false } in
    let whole : Frame-F Frame = record { site = i; stopped = (out-Frame f).stopped; construct = run.While new } in
    let went = turn_ended step i b v e o w h inside (sym c.has_ended-in-While.ensures ∙ c.if-has_ended-2.true) in
    subst (λ (x : Frame-F Frame). Went step (view f) e (Quiet x.site) (view (roll-Frame whole)) h) (sym (out-roll-Frame whole))
    (rolled_went step f (run.While s) (run.While new) c.args.vars.now.items (Quiet i) h c.requires.can c.in-While.is
    (subst (λ (p : Bool). Went step (unstopped i (looping b v p)) e (Quiet i) (unstopped i (looping b w false)) h) (sym c.if-looping.true) went))

pub frame::Frame::go-go-outcome-requires-in-Some-turn : goal.frame::Frame::go-go-outcome-requires-in-Some-turn
frame::Frame::go-go-outcome-requires-in-Some-turn g t c κs within =
    let step = g.S.SiteStep.stands_for c.args.step.now in
    let s = c.in-Count.counting in
    let i = (out-Frame c.args.self.now).site in
    let can = subst (λ (u : Option Turn). CanGo step (unstopped i (counting s.var (exp s.base) (exp s.count) (view s.body.value) u)) c.args.vars.now.items) c.in-Some-turn.is (frame_can step c.args.self.now (run.Count s) c.args.vars.now.items c.requires.can c.in-Count.is) in
    (search (rules, the_lemmas), (within, subst (λ (f : Frame). CanGo step (view f) c.args.vars.now.items) (sym c.deref_mut-in-Some-turn.ensures.value) (count_part step i s.var (exp s.base) (exp s.count) (view s.body.value) c.in-Some-turn.field-0 c.args.vars.now.items can)))

pub frame::Frame::go-next-requires-then-has_ended-3-clause-variable : goal.frame::Frame::go-next-requires-then-has_ended-3-clause-variable
frame::Frame::go-next-requires-then-has_ended-3-clause-variable g t c =
    let step = g.S.SiteStep.stands_for c.args.step.now in
    let s = c.in-Count.counting in
    let can = frame_can step c.args.self.now (run.Count s) c.args.vars.now.items c.requires.can c.in-Count.is in
    let l = index_there step (out-Frame c.args.self.now).site s.var (exp s.base) (exp s.count) (view s.body.value) s.turn c.args.vars.now.items can in
    let n = c.go-outcome-in-Some-turn.ensures.length in
    omega arith

pub frame::Frame::go-returns-then-has_ended-3-clause-went : goal.frame::Frame::go-returns-then-has_ended-3-clause-went
frame::Frame::go-returns-then-has_ended-3-clause-went g t c =
    let step = g.S.SiteStep.stands_for c.args.step.now in
    let s = c.in-Count.counting in
    let f = c.args.self.now in
    let i = (out-Frame f).site in
    let a = exp s.base in
    let n = exp s.count in
    let v = view s.body.value in
    let w = view c.go-outcome-in-Some-turn.new.self in
    let e = store c.args.vars.now.items in
    let o = c.go-outcome-in-Some-turn.result in
    let h = store c.go-outcome-in-Some-turn.new.vars.items in
    let turn = c.in-Some-turn.field-0 in
    let inside = subst (λ (g : Frame). Went step (view g) e o w h) c.deref_mut-in-Some-turn.ensures.value c.go-outcome-in-Some-turn.ensures.went in
    let new = c.next-then-has_ended-3.new.self in
    let p = c.next-then-has_ended-3.result in
    let k = store c.next-then-has_ended-3.new.vars.items in
    let turned = subst (λ (u : Option Turn). IfSome u (λ t. HasTurned t (counting s.var a n w u) h p (counting_shape new) k)) c.in-Some-turn.is c.next-then-has_ended-3.ensures.turned in
    let went = count_went step i s.var a n v turn e o w h p new.var (exp new.base) (exp new.count) (view new.body.value) new.turn k inside (sym c.has_ended-in-Some-turn.ensures ∙ c.if-has_ended-3.true) turned in
    rolled_went step f (run.Count s) (run.Count new) c.args.vars.now.items p k c.requires.can c.in-Count.is
    (subst (λ (u : Option Turn). Went step (unstopped i (counting s.var a n v u)) e p (unstopped i (counting_shape new)) k) (sym c.in-Some-turn.is) went)

pub frame::Frame::go-index_mut-requires-in-Within : goal.frame::Frame::go-index_mut-requires-in-Within
frame::Frame::go-index_mut-requires-in-Within g t c =
    let step = g.S.SiteStep.stands_for c.args.step.now in
    let s = c.in-Alt.alt in
    let gs = map seen_guard s.guards.items in
    let sound = subst (λ (p : Choice). is_sound (guarding gs p) ≡ true) c.in-Within.is (sound_as step c.args.self.now (run.Alt s) c.args.vars.now.items c.requires.can c.in-Alt.is) in
    let l = among c.in-Within.at (length gs) (length s.guards.items) (and_parts (nat_lt c.in-Within.at (length gs)) (all_sound (guarded gs)) (and_parts (nat_lt (length gs) 65536) _ sound).1).0 (length-map s.guards.items seen_guard) in
    let o = s.guards.ok.0 in
    omega arith

pub frame::Frame::go-go-requires-in-Within : goal.frame::Frame::go-go-requires-in-Within
frame::Frame::go-go-requires-in-Within g t c κs within =
    let step = g.S.SiteStep.stands_for c.args.step.now in
    let s = c.in-Alt.alt in
    let gs = map seen_guard s.guards.items in
    let i = (out-Frame c.args.self.now).site in
    let can = subst (λ (p : Choice). CanGo step (unstopped i (guarding gs p)) c.args.vars.now.items) c.in-Within.is (frame_can step c.args.self.now (run.Alt s) c.args.vars.now.items c.requires.can c.in-Alt.is) in
    let l = among c.in-Within.at (length gs) (length s.guards.items) (and_parts (nat_lt c.in-Within.at (length gs)) (all_sound (guarded gs)) (and_parts (nat_lt (length gs) 65536) _ can.sound).1).0 (length-map s.guards.items seen_guard) in
    let is = map_get seen_guard s.guards.items c.in-Within.at c.index_mut-in-Within.result.now l c.index_mut-in-Within.ensures.value in
    (search (rules, the_lemmas), (within, guard_part step i gs c.in-Within.at (seen_guard c.index_mut-in-Within.result.now) is c.args.vars.now.items can))

pub frame::Frame::go-returns-else-has_ended-clause-went : goal.frame::Frame::go-returns-else-has_ended-clause-went
frame::Frame::go-returns-else-has_ended-clause-went g t c =
    let step = g.S.SiteStep.stands_for c.args.step.now in
    let s = c.in-Seq.seq in
    let f = c.args.self.now in
    let i = (out-Frame f).site in
    let fs = s.parts.items in
    let vs = views fs in
    let e = store c.args.vars.now.items in
    let h = store c.go-outcome.new.vars.items in
    let can = frame_can step f (run.Seq s) c.args.vars.now.items c.requires.can c.in-Seq.is in
    let l = among s.at (length vs) (length fs) (and_parts (nat_lt s.at (length vs)) (all_sound vs) can.sound).0 (length-map fs view) in
    let is = map_get view fs s.at c.index_mut.result.now l c.index_mut.ensures.value in
    let w = view c.go-outcome.new.self in
    let changed = map-set view fs s.at c.go-outcome.new.self in
    let went = seq_goes step i vs s.at (view c.index_mut.result.now) is e c.go-outcome.result w h can.sound c.go-outcome.ensures.went (sym c.has_ended.ensures ∙ c.if-has_ended.false) in
    rolled_went step f (run.Seq s) (run.Seq (record { parts = with_item s.parts s.at c.go-outcome.new.self; at = s.at })) c.args.vars.now.items c.go-outcome.result h c.requires.can c.in-Seq.is
    (subst (λ ws. Went step (unstopped i (seq vs s.at)) e c.go-outcome.result (unstopped i (seq ws s.at)) h) (sym changed) went)

pub frame::Frame::go-returns-in-Some-clause-went : goal.frame::Frame::go-returns-in-Some-clause-went
frame::Frame::go-returns-in-Some-clause-went g t c =
    let step = g.S.SiteStep.stands_for c.args.step.now in
    let s = c.in-If.branching in
    let f = c.args.self.now in
    let i = (out-Frame f).site in
    let fs = s.branches.items in
    let bs = map seen_branch fs in
    let k = c.in-Some.at in
    let e = store c.args.vars.now.items in
    let h = store c.go-in-Some.new.vars.items in
    let can = subst (λ (p : Option ℕ). CanGo step (unstopped i (branching bs p)) c.args.vars.now.items) c.in-Some.is (frame_can step f (run.If s) c.args.vars.now.items c.requires.can c.in-If.is) in
    let l = among k (length bs) (length fs) (and_parts (nat_lt k (length bs)) (all_sound (bodies bs)) can.sound).0 (length-map fs seen_branch) in
    let b = c.index_mut-in-Some.result.now in
    let is = map_get seen_branch fs k b l c.index_mut-in-Some.ensures.value in
    let new : Branch Frame = record { cond = b.cond; body = c.go-in-Some.new.self } in
    let went = branch_went step i bs k (seen_branch b) is e c.go-in-Some.result (view c.go-in-Some.new.self) h can.sound c.go-in-Some.ensures.went in
    let seen = subst (λ cs. Went step (unstopped i (branching bs (Some k))) e c.go-in-Some.result (unstopped i (branching cs (Some k))) h) (sym (map-set seen_branch fs k new)) went in
    rolled_went step f (run.If s) (run.If (record { branches = with_item s.branches k new; taken = s.taken })) c.args.vars.now.items c.go-in-Some.result h c.requires.can c.in-If.is
    (subst (λ (p : Option ℕ). Went step (unstopped i (branching bs p)) e c.go-in-Some.result (unstopped i (branching (map seen_branch (set fs k new)) p)) h) (sym c.in-Some.is) seen)

pub frame::Frame::go-returns-else-has_ended-2-clause-went : goal.frame::Frame::go-returns-else-has_ended-2-clause-went
frame::Frame::go-returns-else-has_ended-2-clause-went g t c =
    let step = g.S.SiteStep.stands_for c.args.step.now in
    let s = c.in-While.looping in
    let f = c.args.self.now in
    let i = (out-Frame f).site in
    let b = as_test s.cond in
    let v = view s.body.value in
    let w = view c.go-outcome-in-While.new.self in
    let e = store c.args.vars.now.items in
    let o = c.go-outcome-in-While.result in
    let h = store c.go-outcome-in-While.new.vars.items in
    let inside = subst (λ (g : Frame). Went step (view g) e o w h) c.deref_mut.ensures.value c.go-outcome-in-While.ensures.went in
    let new : While Frame = record { cond = s.cond; body = with_value s.body c.go-outcome-in-While.new.self; turning = s.turning } in
    let went = turn_goes step i b v e o w h inside (sym c.has_ended-in-While.ensures ∙ c.if-has_ended-2.false) in
    rolled_went step f (run.While s) (run.While new) c.args.vars.now.items o h c.requires.can c.in-While.is
    (subst (λ (p : Bool). Went step (unstopped i (looping b v p)) e o (unstopped i (looping b w p)) h) (sym c.if-looping.true) went)

pub frame::Frame::go-returns-else-has_ended-3-clause-went : goal.frame::Frame::go-returns-else-has_ended-3-clause-went
frame::Frame::go-returns-else-has_ended-3-clause-went g t c =
    let step = g.S.SiteStep.stands_for c.args.step.now in
    let s = c.in-Count.counting in
    let f = c.args.self.now in
    let i = (out-Frame f).site in
    let a = exp s.base in
    let n = exp s.count in
    let v = view s.body.value in
    let w = view c.go-outcome-in-Some-turn.new.self in
    let e = store c.args.vars.now.items in
    let o = c.go-outcome-in-Some-turn.result in
    let h = store c.go-outcome-in-Some-turn.new.vars.items in
    let turn = c.in-Some-turn.field-0 in
    let inside = subst (λ (g : Frame). Went step (view g) e o w h) c.deref_mut-in-Some-turn.ensures.value c.go-outcome-in-Some-turn.ensures.went in
    let new : Count Frame = record { var = s.var; base = s.base; count = s.count; body = with_value s.body c.go-outcome-in-Some-turn.new.self; turn = s.turn } in
    let went = count_goes step i s.var a n v turn e o w h inside (sym c.has_ended-in-Some-turn.ensures ∙ c.if-has_ended-3.false) in
    rolled_went step f (run.Count s) (run.Count new) c.args.vars.now.items o h c.requires.can c.in-Count.is
    (subst (λ (u : Option Turn). Went step (unstopped i (counting s.var a n v u)) e o (unstopped i (counting s.var a n w u)) h) (sym c.in-Some-turn.is) went)

pub frame::Frame::go-returns-in-Within-clause-went : goal.frame::Frame::go-returns-in-Within-clause-went
frame::Frame::go-returns-in-Within-clause-went g t c =
    let step = g.S.SiteStep.stands_for c.args.step.now in
    let s = c.in-Alt.alt in
    let f = c.args.self.now in
    let i = (out-Frame f).site in
    let fs = s.guards.items in
    let gs = map seen_guard fs in
    let k = c.in-Within.at in
    let e = store c.args.vars.now.items in
    let o = c.go-in-Within.result in
    let h = store c.go-in-Within.new.vars.items in
    let can = subst (λ (p : Choice). CanGo step (unstopped i (guarding gs p)) c.args.vars.now.items) c.in-Within.is (frame_can step f (run.Alt s) c.args.vars.now.items c.requires.can c.in-Alt.is) in
    let l = among k (length gs) (length fs) (and_parts (nat_lt k (length gs)) (all_sound (guarded gs)) (and_parts (nat_lt (length gs) 65536) _ can.sound).1).0 (length-map fs seen_guard) in
    let old = c.index_mut-in-Within.result.now in
    let is = map_get seen_guard fs k old l c.index_mut-in-Within.ensures.value in
    let new : Guard Frame = record { cond = old.cond; chan = old.chan; var = old.var; body = c.go-in-Within.new.self } in
    let went = guard_went step i gs k (seen_guard old) is e o (view c.go-in-Within.new.self) h can.sound c.go-in-Within.ensures.went in
    let seen = subst (λ cs. Went step (unstopped i (guarding gs (Within k))) e o (unstopped i (guarding cs (Within k))) h) (sym (map-set seen_guard fs k new)) went in
    rolled_went step f (run.Alt s) (run.Alt (record { guards = with_item s.guards k new; choice = s.choice })) c.args.vars.now.items o h c.requires.can c.in-Alt.is
    (subst (λ (p : Choice). Went step (unstopped i (guarding gs p)) e o (unstopped i (guarding (map seen_guard (set fs k new)) p)) h) (sym c.in-Within.is) seen)

pub frame::Frame::go-go-requires : goal.frame::Frame::go-go-requires
frame::Frame::go-go-requires g t c κs within =
    let step = g.S.SiteStep.stands_for c.args.step.now in
    let f = c.args.self.now in
    (search (rules, the_lemmas), (within, ((out-Frame f).site, frame_can step f (run.Par c.in-Par.par) c.args.vars.now.items c.requires.can c.in-Par.is)))

pub frame::Frame::go-returns-in-Par-clause-went : goal.frame::Frame::go-returns-in-Par-clause-went
frame::Frame::go-returns-in-Par-clause-went g t c =
    let step = g.S.SiteStep.stands_for c.args.step.now in
    let f = c.args.self.now in
    let i = (out-Frame f).site in
    let can = frame_can step f (run.Par c.in-Par.par) c.args.vars.now.items c.requires.can c.in-Par.is in
    rolled_went step f (run.Par c.in-Par.par) (run.Par c.go.new.self) c.args.vars.now.items c.go.result (store c.go.new.vars.items) c.requires.can c.in-Par.is (c.go.ensures.went i can)

pub go::Par+Frame::go-index_mut-requires : goal.go::Par+Frame::go-index_mut-requires
go::Par+Frame::go-index_mut-requires g t c =
    let step = g.S.SiteStep.stands_for c.args.step.now in
    let ts = c.args.self.now.tasks.items in
    let i = c.requires.can.0 in
    let can = c.requires.can.1 in
    let k = c.part_with-place.result in
    let at = placed ts _ c.site.result step.site k c.as_slice.ensures.value c.site.ensures c.part_with-place.ensures in
    let l = part_there step i ts c.args.vars.now.items can k at in
    let o = c.args.self.now.tasks.ok.0 in
    omega arith

pub go::Par+Frame::go-go-outcome-requires : goal.go::Par+Frame::go-go-outcome-requires
go::Par+Frame::go-go-outcome-requires g t c κs within =
    let step = g.S.SiteStep.stands_for c.args.step.now in
    let ts = c.args.self.now.tasks.items in
    let i = c.requires.can.0 in
    let can = c.requires.can.1 in
    let k = c.part_with-place.result in
    let at = placed ts _ c.site.result step.site k c.as_slice.ensures.value c.site.ensures c.part_with-place.ensures in
    let l = part_there step i ts c.args.vars.now.items can k at in
    let old = c.index_mut.result.now in
    let is = task_at ts k old l c.index_mut.ensures.value in
    (search (rules, the_lemmas), (within, par_part step i ts c.args.vars.now.items can k (shown old) at is))

pub go::Par+Frame::go-outcome-requires : goal.go::Par+Frame::go-outcome-requires
go::Par+Frame::go-outcome-requires g t c =
    let step = g.S.SiteStep.stands_for c.args.step.now in
    let ts = c.args.self.now.tasks.items in
    let i = c.requires.can.0 in
    let can = c.requires.can.1 in
    let k = c.part_with-place.result in
    let at = placed ts _ c.site.result step.site k c.as_slice.ensures.value c.site.ensures c.part_with-place.ensures in
    let l = part_there step i ts c.args.vars.now.items can k at in
    let old = c.index_mut.result.now in
    let is = task_at ts k old l c.index_mut.ensures.value in
    let e = store c.args.vars.now.items in
    let h = store c.go-outcome.new.vars.items in
    let o = c.go-outcome.result in
    let new = c.go-outcome.new.self in
    let went = c.go-outcome.ensures.went in
    let begins = c.go-outcome.ensures.begins in
    record { sound = tasks_still_sound step i ts k (shown old) is can.sound e h o new begins went }

pub go::Par+Frame::go-returns-then-has_ended-clause-went : goal.go::Par+Frame::go-returns-then-has_ended-clause-went
go::Par+Frame::go-returns-then-has_ended-clause-went g t c i can =
    let step = g.S.SiteStep.stands_for c.args.step.now in
    let ts = c.args.self.now.tasks.items in
    let k = c.part_with-place.result in
    let at = placed ts _ c.site.result step.site k c.as_slice.ensures.value c.site.ensures c.part_with-place.ensures in
    let l = part_there step i ts c.args.vars.now.items can k at in
    let old = c.index_mut.result.now in
    let is = task_at ts k old l c.index_mut.ensures.value in
    let e = store c.args.vars.now.items in
    let h = store c.go-outcome.new.vars.items in
    let o = c.go-outcome.result in
    let new = c.go-outcome.new.self in
    let went = c.go-outcome.ensures.went in
    let begins = c.go-outcome.ensures.begins in
    par_went step i ts k (shown old) is can.sound e h o new begins went c.outcome.result c.outcome.ensures

pub go::Par+Frame::go-returns-clause-went : goal.go::Par+Frame::go-returns-clause-went
go::Par+Frame::go-returns-clause-went g t c i can =
    let step = g.S.SiteStep.stands_for c.args.step.now in
    let ts = c.args.self.now.tasks.items in
    let k = c.part_with-place.result in
    let at = placed ts _ c.site.result step.site k c.as_slice.ensures.value c.site.ensures c.part_with-place.ensures in
    let l = part_there step i ts c.args.vars.now.items can k at in
    let old = c.index_mut.result.now in
    let is = task_at ts k old l c.index_mut.ensures.value in
    let e = store c.args.vars.now.items in
    let h = store c.go-outcome.new.vars.items in
    let o = c.go-outcome.result in
    let new = c.go-outcome.new.self in
    let went = c.go-outcome.ensures.went in
    let begins = c.go-outcome.ensures.begins in
    par_goes step i ts k (shown old) is can.sound e h o new begins went (sym c.has_ended.ensures ∙ c.if-has_ended.false)
