use Rattle.std.proofs.Common.{rules, ◌≡◌, ◌∙◌, ap, List, subst, sym, true}
use Rattle.vc_occam.specs.declared.frame.Frame.{Frame}
use Rattle.vc_occam.specs.declared.frame.Frame.TheViews.{the_lemmas}
use Rattle.vc_occam.specs.declared.frame.Task.{Task}
use Rattle.vc_occam.specs.Frames.{all_sound, besides, view}
use Rattle.vc_occam.specs.Private.Frames.{first_waits, task_views}
use Rattle.vc_occam.specs.Remains.{Rest}
use Rattle.vc_occam.specs.States.{waiting}
use Rattle.vc_occam.proofs.Innermost.{same_waiting}
use Rattle.vc_occam.proofs.Pars.{par_rest, par_sound, sound_at}
use Rattle.vc_occam.proofs.SideBySide.{waits_end, waits_found, waits_more}
use Rattle.vc_occam.proofs.+waits.Goals as goal

pub frame::Frame::waits_on-returns-in-Some : goal.frame::Frame::waits_on-returns-in-Some
frame::Frame::waits_on-returns-in-Some t c = c.waits_on.ensures ∙ ap (first_waits c.args.wanted) (sym (same_waiting (view c.args.self.now).rest (view c.in-Some.part.now).rest c.in-Some.ensures.rest))

pub frame::Frame::waits_on-waits_on-requires-in-loop-task :
    goal.frame::Frame::waits_on-waits_on-requires-in-loop-task
frame::Frame::waits_on-waits_on-requires-in-loop-task t c =
    let all = subst (λ (ts : List (Task Frame)). all_sound (task_views ts) ≡ true) (sym c.as_slice-task-items.ensures.value) (par_sound c.args.self.now c.in-Par.par c.requires c.in-Par.is) in
    (search (rules, the_lemmas), sound_at c.as_slice-task-items.result.now c.loop-task.task-index c.task-item.result all c.loop-task-test.true c.task-item.is)

pub frame::Frame::waits_on-returns-in-Some-waits_on :
    goal.frame::Frame::waits_on-returns-in-Some-waits_on
frame::Frame::waits_on-returns-in-Some-waits_on t c =
    let rest = ap (λ (ts : List (Task Frame)). besides (task_views ts)) c.as_slice-task-items.ensures.value ∙ sym (par_rest c.args.self.now c.in-Par.par c.requires c.in-Par.is) in
    waits_found c.loop-task.task-index c.as_slice-task-items.result.now c.task-item.result c.args.wanted _ c.in-Some-waits_on.site c.loop-task-test.true c.task-item.is c.in-Some-waits_on.ensures c.loop-task.invariant
    ∙ ap (λ (r : Rest). first_waits c.args.wanted (waiting r)) rest

pub frame::Frame::waits_on-loop-task-preserved : goal.frame::Frame::waits_on-loop-task-preserved
frame::Frame::waits_on-loop-task-preserved t c =
    waits_more c.loop-task.task-index c.as_slice-task-items.result.now c.task-item.result c.args.wanted _ c.loop-task-test.true c.task-item.is c.in_default-waits_on.ensures c.loop-task.invariant

pub frame::Frame::waits_on-returns-in-Par : goal.frame::Frame::waits_on-returns-in-Par
frame::Frame::waits_on-returns-in-Par t c =
    let rest = ap (λ (ts : List (Task Frame)). besides (task_views ts)) c.as_slice-task-items.ensures.value ∙ sym (par_rest c.args.self.now c.in-Par.par c.requires c.in-Par.is) in
    waits_end c.loop-task.task-index c.as_slice-task-items.result.now c.args.wanted _ c.loop-task-test.false c.loop-task.invariant ∙ ap (λ (r : Rest). first_waits c.args.wanted (waiting r)) rest
