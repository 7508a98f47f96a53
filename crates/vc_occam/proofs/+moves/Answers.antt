use Rattle.std.proofs.Common.{rules, ◌≡◌, ◌++◌, ◌∙◌, ap, append-nil, List, refl, subst, sym, true}
use Rattle.vc_occam.specs.declared.frame.Frame.{Frame}
use Rattle.vc_occam.specs.declared.frame.Frame.TheViews.{the_lemmas}
use Rattle.vc_occam.specs.declared.frame.Task.{Task}
use Rattle.vc_occam.specs.declared.moves.Move.{Move}
use Rattle.vc_occam.specs.First.{own}
use Rattle.vc_occam.specs.Frames.{all_sound, besides, task_view, view}
use Rattle.vc_occam.specs.Private.Frames.{seen_task, task_views}
use Rattle.vc_occam.specs.Remains.{Rest}
use Rattle.vc_process.specs.Terms.{store}
use Rattle.vc_process.proofs.Walks.{adds_same}
use Rattle.vc_occam.proofs.Innermost.{same_own}
use Rattle.vc_occam.proofs.Outcomes.{nothing_own, quiet_own, task_outcome}
use Rattle.vc_occam.proofs.Pars.{par_rest, par_sound, sound_at}
use Rattle.vc_occam.proofs.SideBySide.{beside_own, listed_end, listed_next}
use Rattle.vc_occam.proofs.+moves.Goals as goal

pub frame::Frame::push_moves-returns-in-Some : goal.frame::Frame::push_moves-returns-in-Some
frame::Frame::push_moves-returns-in-Some t c =
    adds_same c.push_moves.result _ _ _ _ (same_own (view c.args.self.now).rest (view c.in-Some.part.now).rest (store c.args.vars.now) c.in-Some.ensures.rest) c.push_moves.ensures

pub frame::Frame::push_moves-push_moves-requires-in-loop-task :
    goal.frame::Frame::push_moves-push_moves-requires-in-loop-task
frame::Frame::push_moves-push_moves-requires-in-loop-task t c =
    let all = subst (λ (ts : List (Task Frame)). all_sound (task_views ts) ≡ true) (sym c.as_slice-task-items.ensures.value) (par_sound c.args.self.now c.in-Par.par c.requires c.in-Par.is) in
    (search (rules, the_lemmas), sound_at c.as_slice-task-items.result.now c.loop-task.task-index c.task-item.result all c.loop-task-test.true c.task-item.is)

pub frame::Frame::push_moves-loop-task-preserved :
    goal.frame::Frame::push_moves-loop-task-preserved
frame::Frame::push_moves-loop-task-preserved t c =
    let e = store c.args.vars.now in
    listed_next (λ (r : Rest). own r e) (λ m r q. beside_own m r q e) c.loop-task.task-index c.as_slice-task-items.result.now c.task-item.result c.loop-task.found c.push_moves-in-loop-task.new.found _ c.loop-task-test.true c.task-item.is c.in_ok-push_moves.ensures c.loop-task.invariant

pub frame::Frame::push_moves-returns-in-Par : goal.frame::Frame::push_moves-returns-in-Par
frame::Frame::push_moves-returns-in-Par t c =
    let e = store c.args.vars.now in
    let rest = ap (λ (ts : List (Task Frame)). besides (task_views ts)) c.as_slice-task-items.ensures.value ∙ sym (par_rest c.args.self.now c.in-Par.par c.requires c.in-Par.is) in
    listed_end (λ (r : Rest). own r e) (λ m r q. beside_own m r q e) c.loop-task.task-index c.as_slice-task-items.result.now c.loop-task.found _ refl c.loop-task-test.false c.loop-task.invariant
    ∙ ap (λ (r : Rest). c.args.found.now ++ own r e) rest

pub frame_moves::Task+Frame::push_moves-returns-in-Nothing :
    goal.frame_moves::Task+Frame::push_moves-returns-in-Nothing
frame_moves::Task+Frame::push_moves-returns-in-Nothing t c =
    let task = seen_task c.args.self.now in
    sym (append-nil c.args.found.now) ∙ ap (λ (ms : List Move). c.args.found.now ++ ms) (sym (nothing_own (task_view task).rest (store c.args.vars.now) (task_outcome task c.requires ∙ c.in-Nothing.is)))

pub frame_moves::Task+Frame::push_moves-returns-in_ok-push-in-Quiet :
    goal.frame_moves::Task+Frame::push_moves-returns-in_ok-push-in-Quiet
frame_moves::Task+Frame::push_moves-returns-in_ok-push-in-Quiet t c =
    let task = seen_task c.args.self.now in
    c.in_ok-push-in-Quiet.ensures.ok ∙ ap (λ (ms : List Move). c.args.found.now ++ ms) (sym (quiet_own (task_view task).rest c.in-Quiet.site (store c.args.vars.now) (task_outcome task c.requires ∙ c.in-Quiet.is)))
