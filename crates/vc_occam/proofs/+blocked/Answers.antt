use Rattle.std.proofs.Common.{rules, ◌≡◌, ◌++◌, ◌∙◌, ap, List, refl, subst, sym, true}
use Rattle.vc_occam.specs.declared.frame.Frame.{Frame}
use Rattle.vc_occam.specs.declared.frame.Frame.TheViews.{the_lemmas}
use Rattle.vc_occam.specs.declared.frame.Task.{Task}
use Rattle.vc_occam.specs.BlockedParts.{blocked}
use Rattle.vc_occam.specs.Frames.{all_sound, besides, view}
use Rattle.vc_occam.specs.Remains.{Rest}
use Rattle.vc_occam.specs.Private.Frames.{task_views}
use Rattle.vc_process.specs.Terms.{store}
use Rattle.vc_process.proofs.Walks.{adds_same}
use Rattle.vc_occam.proofs.Innermost.{same_blocked}
use Rattle.vc_occam.proofs.Pars.{par_rest, par_sound, sound_at}
use Rattle.vc_occam.proofs.SideBySide.{beside_blocked, listed_end, listed_next}
use Rattle.vc_occam.proofs.+blocked.Goals as goal

pub frame::Frame::push_blocked-returns-in-Some : goal.frame::Frame::push_blocked-returns-in-Some
frame::Frame::push_blocked-returns-in-Some t c =
    adds_same c.push_blocked.result _ _ _ _ (same_blocked (view c.args.self.now).rest (view c.in-Some.part.now).rest (store c.args.vars.now) c.in-Some.ensures.rest) c.push_blocked.ensures

pub frame::Frame::push_blocked-push_blocked-requires-in-loop-task :
    goal.frame::Frame::push_blocked-push_blocked-requires-in-loop-task
frame::Frame::push_blocked-push_blocked-requires-in-loop-task t c =
    let all = subst (λ (ts : List (Task Frame)). all_sound (task_views ts) ≡ true) (sym c.as_slice-task-items.ensures.value) (par_sound c.args.self.now c.in-Par.par c.requires c.in-Par.is) in
    (search (rules, the_lemmas), sound_at c.as_slice-task-items.result.now c.loop-task.task-index c.task-item.result all c.loop-task-test.true c.task-item.is)

pub frame::Frame::push_blocked-loop-task-preserved :
    goal.frame::Frame::push_blocked-loop-task-preserved
frame::Frame::push_blocked-loop-task-preserved t c =
    let e = store c.args.vars.now in
    listed_next (λ (r : Rest). blocked r e) (λ m r q. beside_blocked m r q e) c.loop-task.task-index c.as_slice-task-items.result.now c.task-item.result c.loop-task.found c.push_blocked-in-loop-task.new.found _ c.loop-task-test.true c.task-item.is c.in_ok-push_blocked.ensures c.loop-task.invariant

pub frame::Frame::push_blocked-returns-in-Par : goal.frame::Frame::push_blocked-returns-in-Par
frame::Frame::push_blocked-returns-in-Par t c =
    let e = store c.args.vars.now in
    let rest = ap (λ (ts : List (Task Frame)). besides (task_views ts)) c.as_slice-task-items.ensures.value ∙ sym (par_rest c.args.self.now c.in-Par.par c.requires c.in-Par.is) in
    listed_end (λ (r : Rest). blocked r e) (λ m r q. beside_blocked m r q e) c.loop-task.task-index c.as_slice-task-items.result.now c.loop-task.found _ refl c.loop-task-test.false c.loop-task.invariant
    ∙ ap (λ (r : Rest). c.args.found.now ++ blocked r e) rest
