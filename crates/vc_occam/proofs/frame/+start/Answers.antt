use Rattle.std.proofs.Common.{◌≡◌, ◌∙◌, ◌<◌, ap, sym, add-one, arith, length, map, rules, ◌≤◌, false, get_or, vec_len}
use Rattle.std.proofs.lemmas.Bool.{and_parts}
use Rattle.std.proofs.lemmas.List.{length-map}
use Rattle.vc_occam.specs.Frames.{begun, outcome_of, plan_of, view_of}
use Rattle.vc_occam.specs.Private.Frames.{seen_task, shape, task_views, unstopped}
use Rattle.vc_occam.specs.declared.frame.Frame.TheViews.{the_lemmas, out-Frame, out-roll-Frame}
use Rattle.vc_occam.specs.declared.frame.Frame.TheOpen.{Frame-F}
use Rattle.vc_occam.specs.declared.frame.Frame.{Frame}
use Rattle.vc_occam.specs.Remains.{begin}
use Rattle.vc_occam.proofs.Views.{view_roll}
use Rattle.vc_occam.proofs.AtItself.{frame_sound}
use Rattle.vc_occam.proofs.Starts.{begun_more, begun_to, begun_whole, par_begins, plan_out, seq_begins_with, task_begun, task_sound}
use Rattle.vc_occam.proofs.frame.+start.Goals as goal

pub Frame::start-start-requires : goal.Frame::start-start-requires
Frame::start-start-requires t c = (search (rules, the_lemmas), simp the_lemmas (frame_sound c.args.self.now c.requires.sound))

pub Frame::start-returns-clause-begun : goal.Frame::start-returns-clause-begun
Frame::start-returns-clause-begun t c =
    let o = out-Frame c.args.self.now in
    let b : unstopped o.site (shape c.start.new.self) ≡ begun (plan_of o.site (shape o.construct)) = simp the_lemmas at c.start.ensures.begun in
    let opened = out-roll-Frame (record { site = o.site; stopped = false; construct = o.construct }) in
    view_roll _ ∙ ap (λ (x : Frame-F Frame). view_of x.site x.stopped (shape c.start.new.self)) opened ∙ b ∙ ap begun (sym (plan_out c.args.self.now))

pub Frame::start-returns-clause-outcome : goal.Frame::start-returns-clause-outcome
Frame::start-returns-clause-outcome t c =
    let o = out-Frame c.args.self.now in
    let b : c.start.result ≡ outcome_of (begin (plan_of o.site (shape o.construct))) = simp the_lemmas at c.start.ensures.outcome in
    b ∙ ap (λ p. outcome_of (begin p)) (sym (plan_out c.args.self.now))

pub Seq+Frame::start-returns-clause-outcome : goal.Seq+Frame::start-returns-clause-outcome
Seq+Frame::start-returns-clause-outcome t c =
    let s = c.args.self.now in
    λ i. seq_begins_with i s.at s.parts.items c.index_mut.result.now c.start.result c.requires.sound c.index_mut.ensures.value c.start.ensures.outcome

pub Par+Frame::start-start-requires : goal.Par+Frame::start-start-requires
Par+Frame::start-start-requires t c =
    let x = c.loop-place in
    let ts = c.args.self.now.tasks.items in
    let u = c.index_mut.result.now in
    let e : vec_len c.args.self.now.tasks ≡ length ts = c.args.self.now.tasks.ok.0 in
    let l : x.place < length ts = omega (arith, c.len-place-end.ensures, c.loop-place-test.true) in
    let same : u ≡ get_or ts x.place u = c.index_mut.ensures.value ∙ x.invariant.0.1 x.place u (omega arith) in
    (search (rules, the_lemmas), task_sound x.place ts u l same (and_parts _ _ c.requires.sound).1)

pub Par+Frame::start-returns-clause-begun : goal.Par+Frame::start-returns-clause-begun
Par+Frame::start-returns-clause-begun t c =
    let x = c.loop-place in
    let ts = c.args.self.now.tasks.items in
    let e : vec_len c.args.self.now.tasks ≡ length ts = c.args.self.now.tasks.ok.0 in
    let l : length (task_views ts) ≤ x.place = simp length-map (omega (arith, c.len-place-end.ensures, c.loop-place-test.false)) in
    λ i. par_begins i (map seen_task ts) (map seen_task x.self.tasks.items) c.requires.sound (x.invariant.1 ∙ begun_whole x.place (task_views ts) l)

pub Par+Frame::start-loop-place-preserved : goal.Par+Frame::start-loop-place-preserved
Par+Frame::start-loop-place-preserved t c =
    let x = c.loop-place in
    let us = x.self.tasks.items in
    let vs = task_views c.args.self.now.tasks.items in
    let e : vec_len c.args.self.now.tasks ≡ length c.args.self.now.tasks.items = c.args.self.now.tasks.ok.0 in
    let l : x.place < length us = omega (arith, c.len-place-end.ensures, c.loop-place-test.true, x.invariant.0.0) in
    (search rules, begun_more x.place us vs c.index_mut.result.now c.start.new.self l c.index_mut.ensures.value x.invariant.1 c.start.ensures ∙ ap (λ n. begun_to n vs) (sym (add-one x.place)))

pub Task+Frame::start-returns : goal.Task+Frame::start-returns
Task+Frame::start-returns t c = task_begun _ c.start-self.result _ c.start-self.ensures.begun c.start-self.ensures.outcome
