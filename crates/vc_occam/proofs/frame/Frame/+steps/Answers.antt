use Rattle.std.proofs.Common.{◌≡◌, ◌∙◌, ◌<◌, ◌+◌, ◌-◌, ℕ, Bool, Option, Some, None, ap, arith, length, map, set, subst, sym, true, false}
use Rattle.std.specs.Prelude.{nat_lt}
use Rattle.std.proofs.lemmas.Bool.{and_parts}
use Rattle.std.proofs.lemmas.Bool.Decides.{nat_tests}
use Rattle.std.proofs.lemmas.List.{length-map, map-set}
use Rattle.std.specs.Box.{with_value}
use Rattle.std.specs.Vec.{with_item}
use Rattle.vc_occam.specs.declared.frame.Branch.{Branch}
use Rattle.vc_occam.specs.declared.frame.Construct.TheVariants as run
use Rattle.vc_occam.specs.declared.frame.Frame.{Frame}
use Rattle.vc_occam.specs.declared.frame.Frame.TheOpen.{Frame-F}
use Rattle.vc_occam.specs.declared.frame.Frame.TheViews.{out-Frame, out-roll-Frame, roll-Frame}
use Rattle.vc_occam.specs.declared.frame.While.{While}
use Rattle.vc_occam.specs.declared.outcome.Outcome.{Outcome}
use Rattle.vc_occam.specs.declared.outcome.Outcome.TheVariants.{Quiet}
use Rattle.vc_occam.specs.Frames.{View, all_sound, bodies, branching, is_sound, looping, outcome_of, rest_of, seq, view}
use Rattle.vc_occam.specs.Private.Frames.{CanGo, HasNext, seen_branch, unstopped, views}
use Rattle.vc_occam.specs.Private.SiteSteps.{quiet_at}
use Rattle.vc_occam.specs.Private.StepsInARow.{Stepped}
use Rattle.vc_process.specs.Terms.{as_test, store}
use Rattle.vc_occam.proofs.SiteActs.{frame_can, sound_as}
use Rattle.vc_occam.proofs.Bodies.{branch_part, turn_part}
use Rattle.vc_occam.proofs.PartSteps.{seq_part}
use Rattle.vc_occam.proofs.StepsInARow.{body_lighter, branch_only, branch_steps, can_on, frame_only, frame_weight, in_a_row, part_lighter, rolled_steps, seq_only, seq_steps, seq_still_sound, seq_steps_on, stepped_only, stepped_plan, stepped_sound, turn_lighter, turn_only, turn_steps, turn_steps_off, weight}
use Rattle.vc_occam.proofs.Views.{map_get}
use Rattle.vc_occam.proofs.frame.Frame.+steps.Goals as goal

-- a test of a place in a list, and what it says
among : (k n m : ℕ) → nat_lt k n ≡ true → n ≡ m → k < m
among k n m h e = let l : k < n = grind (arith, nat_tests) in omega arith

pub make_steps-make_steps_within-outcome-requires-in-Quiet : goal.make_steps-make_steps_within-outcome-requires-in-Quiet
make_steps-make_steps_within-outcome-requires-in-Quiet t c =
    let l = c.loop-outcome in
    let before = view c.args.self.now in
    let done = subst (λ (o : Outcome). Stepped c.args.site (c.args.steps.now.left - l.steps.left) l.steps.last before (store c.args.vars.now.items) o (view l.self) (store l.vars.items)) c.in-Quiet.is l.invariant.1 in
    let same : weight (view l.self).plan ≡ weight before.plan = ap weight (stepped_plan done) in
    let measure = c.decreases in
    (omega arith, (can_on c.args.site (c.args.steps.now.left - l.steps.left) l.steps.last c.in-Quiet.site before (view l.self) c.args.vars.now.items l.vars.items done c.requires.can l.invariant.2, (stepped_only done, c.if-steps-gt0.true)))

pub make_steps-loop-outcome-preserved : goal.make_steps-loop-outcome-preserved
make_steps-loop-outcome-preserved t c =
    let l = c.loop-outcome in
    let before = view c.args.self.now in
    let e = store c.args.vars.now.items in
    let done = subst (λ (o : Outcome). Stepped c.args.site (c.args.steps.now.left - l.steps.left) l.steps.last before e o (view l.self) (store l.vars.items)) c.in-Quiet.is l.invariant.1 in
    let w = c.make_steps_within-outcome-in-Quiet in
    let all = in_a_row done w.ensures.stepped in
    let a = l.invariant.0 in
    let b = w.ensures.fewer in
    let fewer : w.new.steps.left < c.args.steps.now.left = omega arith in
    let many : (c.args.steps.now.left - l.steps.left) + (l.steps.left - w.new.steps.left) ≡ c.args.steps.now.left - w.new.steps.left = omega arith in
    (fewer, subst (λ n. Stepped c.args.site n w.new.steps.last before e w.result (view w.new.self) (store w.new.vars.items)) many all, w.ensures.length ∙ l.invariant.2)

pub make_steps_within-index_mut-requires : goal.make_steps_within-index_mut-requires
make_steps_within-index_mut-requires t c =
    let s = c.in-Seq.seq in
    let vs = views s.parts.items in
    let sound = sound_as (quiet_at c.args.site None) c.args.self.now (run.Seq s) c.args.vars.now.items c.requires.can c.in-Seq.is in
    let l = among s.at (length vs) (length s.parts.items) (and_parts (nat_lt s.at (length vs)) (all_sound vs) sound).0 (length-map s.parts.items view) in
    let o = s.parts.ok.0 in
    omega arith

pub make_steps_within-make_steps-outcome-requires : goal.make_steps_within-make_steps-outcome-requires
make_steps_within-make_steps-outcome-requires t c =
    let step = quiet_at c.args.site None in
    let s = c.in-Seq.seq in
    let f = c.args.self.now in
    let i = (out-Frame f).site in
    let vs = views s.parts.items in
    let v = view c.index_mut.result.now in
    let vars = c.args.vars.now.items in
    let can = frame_can step f (run.Seq s) vars c.requires.can c.in-Seq.is in
    let l = among s.at (length vs) (length s.parts.items) (and_parts (nat_lt s.at (length vs)) (all_sound vs) can.sound).0 (length-map s.parts.items view) in
    let is = map_get view s.parts.items s.at c.index_mut.result.now l c.index_mut.ensures.value in
    let whole = frame_weight c.args.site f (run.Seq s) vars c.requires.can c.in-Seq.is in
    let lighter = part_lighter i vs s.at v is in
    let measure = c.decreases in
    let only = seq_only i vs s.at v c.args.site is (frame_only c.args.site f (run.Seq s) vars c.requires.can c.in-Seq.is c.args.site c.requires.only) in
    (omega arith, (seq_part step i vs s.at v is vars can, (only, c.requires.some)))

pub make_steps_within-next-requires : goal.make_steps_within-next-requires
make_steps_within-next-requires t c =
    let s = c.in-Seq.seq in
    let vs = views s.parts.items in
    let sound = sound_as (quiet_at c.args.site None) c.args.self.now (run.Seq s) c.args.vars.now.items c.requires.can c.in-Seq.is in
    let new = c.make_steps-outcome.new.self in
    record {
      sound = subst (λ ws. is_sound (seq ws s.at) ≡ true) (sym (map-set view s.parts.items s.at new))
          (seq_still_sound vs s.at (view new) sound (stepped_sound c.make_steps-outcome.ensures.stepped));
    }

pub make_steps_within-returns-then-has_ended-clause-stepped : goal.make_steps_within-returns-then-has_ended-clause-stepped
make_steps_within-returns-then-has_ended-clause-stepped t c =
    let site = c.args.site in
    let s = c.in-Seq.seq in
    let f = c.args.self.now in
    let i = (out-Frame f).site in
    let fs = s.parts.items in
    let vs = views fs in
    let vars = c.args.vars.now.items in
    let h = store c.make_steps-outcome.new.vars.items in
    let n = c.args.steps.now.left - c.make_steps-outcome.new.steps.left in
    let can = frame_can (quiet_at site None) f (run.Seq s) vars c.requires.can c.in-Seq.is in
    let l = among s.at (length vs) (length fs) (and_parts (nat_lt s.at (length vs)) (all_sound vs) can.sound).0 (length-map fs view) in
    let is = map_get view fs s.at c.index_mut.result.now l c.index_mut.ensures.value in
    let new = c.next.new.self in
    let next = subst (λ ws. HasNext ws s.at c.next.result (views new.parts.items) new.at) (map-set view fs s.at c.make_steps-outcome.new.self) c.next.ensures in
    rolled_steps site f (run.Seq s) vars c.requires.can c.in-Seq.is n c.make_steps-outcome.new.steps.last (run.Seq new) c.next.result h
    (seq_steps_on i vs s.at c.next.result (views new.parts.items) new.at is can.sound (sym c.has_ended.ensures ∙ c.if-has_ended.true) next c.make_steps-outcome.ensures.stepped)

pub make_steps_within-returns-else-has_ended-clause-stepped : goal.make_steps_within-returns-else-has_ended-clause-stepped
make_steps_within-returns-else-has_ended-clause-stepped t c =
    let site = c.args.site in
    let s = c.in-Seq.seq in
    let f = c.args.self.now in
    let i = (out-Frame f).site in
    let fs = s.parts.items in
    let vs = views fs in
    let vars = c.args.vars.now.items in
    let o = c.make_steps-outcome.result in
    let h = store c.make_steps-outcome.new.vars.items in
    let n = c.args.steps.now.left - c.make_steps-outcome.new.steps.left in
    let can = frame_can (quiet_at site None) f (run.Seq s) vars c.requires.can c.in-Seq.is in
    let l = among s.at (length vs) (length fs) (and_parts (nat_lt s.at (length vs)) (all_sound vs) can.sound).0 (length-map fs view) in
    let is = map_get view fs s.at c.index_mut.result.now l c.index_mut.ensures.value in
    let steps = seq_steps i vs s.at is can.sound (sym c.has_ended.ensures ∙ c.if-has_ended.false) c.make_steps-outcome.ensures.stepped in
    let seen = subst (λ ws. Stepped site n c.make_steps-outcome.new.steps.last (unstopped i (seq vs s.at)) (store vars) o (unstopped i (seq ws s.at)) h) (sym (map-set view fs s.at c.make_steps-outcome.new.self)) steps in
    rolled_steps site f (run.Seq s) vars c.requires.can c.in-Seq.is n c.make_steps-outcome.new.steps.last (run.Seq (record { parts = with_item s.parts s.at c.make_steps-outcome.new.self; at = s.at })) o h seen

pub make_steps_within-index_mut-requires-in-Some : goal.make_steps_within-index_mut-requires-in-Some
make_steps_within-index_mut-requires-in-Some t c =
    let s = c.in-If.branching in
    let bs = map seen_branch s.branches.items in
    let sound = subst (λ (p : Option ℕ). is_sound (branching bs p) ≡ true) c.in-Some.is (sound_as (quiet_at c.args.site None) c.args.self.now (run.If s) c.args.vars.now.items c.requires.can c.in-If.is) in
    let l = among c.in-Some.at (length bs) (length s.branches.items) (and_parts (nat_lt c.in-Some.at (length bs)) (all_sound (bodies bs)) sound).0 (length-map s.branches.items seen_branch) in
    let o = s.branches.ok.0 in
    omega arith

pub make_steps_within-make_steps-requires : goal.make_steps_within-make_steps-requires
make_steps_within-make_steps-requires t c =
    let site = c.args.site in
    let step = quiet_at site None in
    let s = c.in-If.branching in
    let f = c.args.self.now in
    let i = (out-Frame f).site in
    let bs = map seen_branch s.branches.items in
    let k = c.in-Some.at in
    let vars = c.args.vars.now.items in
    let can = subst (λ (p : Option ℕ). CanGo step (unstopped i (branching bs p)) vars) c.in-Some.is (frame_can step f (run.If s) vars c.requires.can c.in-If.is) in
    let l = among k (length bs) (length s.branches.items) (and_parts (nat_lt k (length bs)) (all_sound (bodies bs)) can.sound).0 (length-map s.branches.items seen_branch) in
    let b = seen_branch c.index_mut-in-Some.result.now in
    let is = map_get seen_branch s.branches.items k c.index_mut-in-Some.result.now l c.index_mut-in-Some.ensures.value in
    let whole = frame_weight site f (run.If s) vars c.requires.can c.in-If.is in
    let lighter = body_lighter i bs k b is in
    let measure = c.decreases in
    let here = subst (λ (p : Option ℕ). outcome_of (rest_of i (branching bs p)) ≡ Quiet site) c.in-Some.is (frame_only site f (run.If s) vars c.requires.can c.in-If.is site c.requires.only) in
    (omega arith, (branch_part step i bs k b is vars can, (branch_only i bs k b site is here, c.requires.some)))

pub make_steps_within-returns-in-Some-clause-stepped : goal.make_steps_within-returns-in-Some-clause-stepped
make_steps_within-returns-in-Some-clause-stepped t c =
    let site = c.args.site in
    let step = quiet_at site None in
    let s = c.in-If.branching in
    let f = c.args.self.now in
    let i = (out-Frame f).site in
    let fs = s.branches.items in
    let bs = map seen_branch fs in
    let k = c.in-Some.at in
    let vars = c.args.vars.now.items in
    let e = store vars in
    let r = c.make_steps in
    let h = store r.new.vars.items in
    let n = c.args.steps.now.left - r.new.steps.left in
    let can = subst (λ (p : Option ℕ). CanGo step (unstopped i (branching bs p)) vars) c.in-Some.is (frame_can step f (run.If s) vars c.requires.can c.in-If.is) in
    let l = among k (length bs) (length fs) (and_parts (nat_lt k (length bs)) (all_sound (bodies bs)) can.sound).0 (length-map fs seen_branch) in
    let b = c.index_mut-in-Some.result.now in
    let is = map_get seen_branch fs k b l c.index_mut-in-Some.ensures.value in
    let new : Branch Frame = record { cond = b.cond; body = r.new.self } in
    let steps = branch_steps i bs k (seen_branch b) is can.sound r.ensures.stepped in
    let seen = subst (λ cs. Stepped site n r.new.steps.last (unstopped i (branching bs (Some k))) e r.result (unstopped i (branching cs (Some k))) h) (sym (map-set seen_branch fs k new)) steps in
    rolled_steps site f (run.If s) vars c.requires.can c.in-If.is n r.new.steps.last (run.If (record { branches = with_item s.branches k new; taken = s.taken })) r.result h
    (subst (λ (p : Option ℕ). Stepped site n r.new.steps.last (unstopped i (branching bs p)) e r.result (unstopped i (branching (map seen_branch (set fs k new)) p)) h) (sym c.in-Some.is) seen)

pub make_steps_within-make_steps-outcome-requires-in-While : goal.make_steps_within-make_steps-outcome-requires-in-While
make_steps_within-make_steps-outcome-requires-in-While t c =
    let site = c.args.site in
    let step = quiet_at site None in
    let s = c.in-While.looping in
    let f = c.args.self.now in
    let i = (out-Frame f).site in
    let b = as_test s.cond in
    let v = view s.body.value in
    let vars = c.args.vars.now.items in
    let can = subst (λ (p : Bool). CanGo step (unstopped i (looping b v p)) vars) c.if-looping.true (frame_can step f (run.While s) vars c.requires.can c.in-While.is) in
    let same = ap view (sym c.deref_mut.ensures.value) in
    let whole = frame_weight site f (run.While s) vars c.requires.can c.in-While.is in
    let lighter = turn_lighter i b v.plan in
    let part : weight (view c.deref_mut.result.now).plan ≡ weight v.plan = ap (λ (u : View). weight u.plan) (sym same) in
    let measure = c.decreases in
    let here = subst (λ (p : Bool). outcome_of (rest_of i (looping b v p)) ≡ Quiet site) c.if-looping.true (frame_only site f (run.While s) vars c.requires.can c.in-While.is site c.requires.only) in
    (omega arith, (subst (λ (u : View). CanGo step u vars) same (turn_part step i b v vars can), (subst (λ (u : View). outcome_of u.rest ≡ Quiet site) same (turn_only i b v site here), c.requires.some)))

pub make_steps_within-returns-then-has_ended-2-clause-stepped : goal.make_steps_within-returns-then-has_ended-2-clause-stepped
make_steps_within-returns-then-has_ended-2-clause-stepped t c =
    let site = c.args.site in
    let s = c.in-While.looping in
    let f = c.args.self.now in
    let i = (out-Frame f).site in
    let b = as_test s.cond in
    let v = view s.body.value in
    let r = c.make_steps-outcome-in-While in
    let w = view r.new.self in
    let vars = c.args.vars.now.items in
    let e = store vars in
    let h = store r.new.vars.items in
    let n = c.args.steps.now.left - r.new.steps.left in
    let inside = subst (λ (g : Frame). Stepped site n r.new.steps.last (view g) e r.result w h) c.deref_mut.ensures.value r.ensures.stepped in
    let new : While Frame = record { cond = s.cond; body = with_value s.body r.new.self; turning = false } in
    let whole : Frame-F Frame = record { site = i; stopped = (out-Frame f).stopped; construct = run.While new } in
    let steps = turn_steps_off i b (sym c.has_ended-in-While.ensures ∙ c.if-has_ended-2.true) inside in
    subst (λ (x : Frame-F Frame). Stepped site n r.new.steps.last (view f) e (Quiet x.site) (view (roll-Frame whole)) h) (sym (out-roll-Frame whole))
    (rolled_steps site f (run.While s) vars c.requires.can c.in-While.is n r.new.steps.last (run.While new) (Quiet i) h
    (subst (λ (p : Bool). Stepped site n r.new.steps.last (unstopped i (looping b v p)) e (Quiet i) (unstopped i (looping b w false)) h) (sym c.if-looping.true) steps))

pub make_steps_within-returns-else-has_ended-2-clause-stepped : goal.make_steps_within-returns-else-has_ended-2-clause-stepped
make_steps_within-returns-else-has_ended-2-clause-stepped t c =
    let site = c.args.site in
    let s = c.in-While.looping in
    let f = c.args.self.now in
    let i = (out-Frame f).site in
    let b = as_test s.cond in
    let v = view s.body.value in
    let r = c.make_steps-outcome-in-While in
    let w = view r.new.self in
    let vars = c.args.vars.now.items in
    let e = store vars in
    let h = store r.new.vars.items in
    let n = c.args.steps.now.left - r.new.steps.left in
    let inside = subst (λ (g : Frame). Stepped site n r.new.steps.last (view g) e r.result w h) c.deref_mut.ensures.value r.ensures.stepped in
    let new : While Frame = record { cond = s.cond; body = with_value s.body r.new.self; turning = s.turning } in
    let steps = turn_steps i b (sym c.has_ended-in-While.ensures ∙ c.if-has_ended-2.false) inside in
    rolled_steps site f (run.While s) vars c.requires.can c.in-While.is n r.new.steps.last (run.While new) r.result h
    (subst (λ (p : Bool). Stepped site n r.new.steps.last (unstopped i (looping b v p)) e r.result (unstopped i (looping b w p)) h) (sym c.if-looping.true) steps)
