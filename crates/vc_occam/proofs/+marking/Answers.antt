use Rattle.std.proofs.Common.{rules, ◌≡◌, List, subst, sym, true}
use Rattle.std.proofs.lemmas.Result.{on_ok_weaker}
use Rattle.vc_occam.specs.declared.frame.Frame.TheViews.{the_lemmas}
use Rattle.vc_occam.specs.declared.frame.Frame.{Frame}
use Rattle.vc_occam.specs.declared.frame.Task.{Task}
use Rattle.vc_occam.specs.Frames.{all_sound}
use Rattle.vc_occam.specs.Private.Frames.{task_views}
use Rattle.vc_occam.proofs.KeyMarks.{marks_alone, marks_beside, marks_within, task_marks_end, task_marks_next}
use Rattle.vc_occam.proofs.Pars.{par_sound, sound_at}
use Rattle.vc_occam.proofs.+marking.Goals as goal

pub frame::Frame::push_marks-returns-in-Some : goal.frame::Frame::push_marks-returns-in-Some
frame::Frame::push_marks-returns-in-Some t c =
    on_ok_weaker c.push_marks.result (marks_within c.args.self.now _ c.mark.result _ _ _ c.requires c.in-Some.ensures.goes_on c.mark.ensures c.in_ok-push.ensures.items) c.push_marks.ensures

pub frame::Frame::push_marks-push_marks-requires-in-loop-task :
    goal.frame::Frame::push_marks-push_marks-requires-in-loop-task
frame::Frame::push_marks-push_marks-requires-in-loop-task t c =
    let all = subst (λ (ts : List (Task Frame)). all_sound (task_views ts) ≡ true) (sym c.as_slice-task-items.ensures.value) (par_sound c.args.self.now c.in-Par.par c.requires c.in-Par.is) in
    (search (rules, the_lemmas), sound_at c.as_slice-task-items.result.now c.loop-task.task-index c.task-item.result all c.loop-task-test.true c.task-item.is)

pub frame::Frame::push_marks-loop-task-preserved : goal.frame::Frame::push_marks-loop-task-preserved
frame::Frame::push_marks-loop-task-preserved t c =
    task_marks_next c.loop-task.task-index c.as_slice-task-items.result.now c.task-item.result _ _ _ _ c.loop-task-test.true c.task-item.is c.loop-task.invariant c.in_ok-push_marks.ensures

pub frame::Frame::push_marks-returns-after-loop-task : goal.frame::Frame::push_marks-returns-after-loop-task
frame::Frame::push_marks-returns-after-loop-task t c =
    marks_beside c.args.self.now c.in-Par.par c.mark.result _ _ _ c.requires c.in-Par.is c.mark.ensures c.in_ok-push.ensures.items
    (task_marks_end c.loop-task.task-index c.as_slice-task-items.result.now c.in-Par.par.tasks.items _ _ c.as_slice-task-items.ensures.value c.loop-task-test.false c.loop-task.invariant)

pub frame::Frame::push_marks-returns-in_default-construct :
    goal.frame::Frame::push_marks-returns-in_default-construct
frame::Frame::push_marks-returns-in_default-construct t c =
    marks_alone c.args.self.now c.mark.result _ _ c.requires c.in_default-construct.not-Par c.in_default.ensures c.mark.ensures c.in_ok-push.ensures.items
