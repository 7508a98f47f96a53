use Rattle.std.proofs.Common.{◌≡◌, ◌∙◌, ◌+◌, ◌++◌, ◌<◌, [], ◌∷◌, map, drop, length, ap, sym, arith}
use Rattle.vc_process.specs.InOrder.{number}
use Rattle.vc_process.specs.Private.InOrder.{number_guard, number_branch}
use Rattle.vc_process.proofs.Walks.{drop_at}
use Rattle.vc_process.specs.Syntax.{SEQ}
use Rattle.vc_occam.specs.Frames.{outcome_of, plans_of, view}
use Rattle.vc_occam.specs.Remains.{begin}
use Rattle.vc_occam.specs.Private.Frames.{shown, task_views, views}
use Rattle.vc_occam.proofs.Starts.{task_begun}
use Rattle.vc_occam.proofs.FrameTrees.{all_made, alt_stands, begins_first, begins_still, branches_way, few_guards, guards_way, if_stands, no_part_stands, none_there, one_made, parts_stand, parts_way, some_there, shown_branch, shown_guard, tasks_push, tasks_stand, views_push}
use Rattle.vc_occam.proofs.frame_tree.+framing.Goals as goal
use Rattle.vc_occam.proofs.frame_tree.+framing.Goals.{seq_of-then-is_empty, seq_of-else-is_empty}

pub alt_of-returns-clause-made : goal.alt_of-returns-clause-made
alt_of-returns-clause-made t c =
    let x = c.loop-guard in
    let gs = c.args.written.now in
    let made = all_made guards_way number_guard c.args.next.now x.next x.guard-index c.as_slice-guard-items.result.now gs (map shown_guard x.guards.items) c.as_slice-guard-items.ensures c.loop-guard-test.false x.invariant in
    let l : length (map number_guard gs) < 65536 = omega (arith, few_guards gs) in
    (c.task.ensures.frame ∙ alt_stands c.args.site c.args.next.now x.guards.items (map number_guard gs) l made.1, c.task.ensures.begins)

pub if_of-returns-clause-made : goal.if_of-returns-clause-made
if_of-returns-clause-made t c =
    let x = c.loop-branch in
    let bs = c.args.written.now in
    let made = all_made branches_way number_branch c.args.next.now x.next x.branch-index c.as_slice-branch-items.result.now bs (map shown_branch x.branches.items) c.as_slice-branch-items.ensures c.loop-branch-test.false x.invariant in
    (c.quiet_task.ensures.frame ∙ if_stands c.args.site c.args.next.now x.branches.items (map number_branch bs) made.1, c.quiet_task.ensures.begins)

pub par_of-loop-part-preserved : goal.par_of-loop-part-preserved
par_of-loop-part-preserved t c =
    let xs = c.as_slice-part-items.result.now in
    let k = c.loop-part.part-index in
    let made = c.in_ok-task_of.field-0 in
    let is = c.in_ok-task_of.ensures.made in
    let us = c.push.new.self.items in
    let pushed : us ≡ c.loop-part.tasks.items ++ made ∷ [] = c.in_ok-push.ensures.items in
    one_made parts_way c.args.next.now c.loop-part.next c.task_of.new.next (number c.part-item.result) (map number xs) (map number (drop k xs)) (map number (drop (k + 1) xs)) (shown made) (task_views c.loop-part.tasks.items) (task_views us) (drop_at number k xs c.part-item.result c.loop-part-test.true c.part-item.is)
    c.in_ok-task_of.ensures.next (task_begun (view made.frame) made.begins _ is.0 is.1) (ap task_views pushed ∙ tasks_push c.loop-part.tasks.items made) c.loop-part.invariant

pub par_of-returns-clause-made : goal.par_of-returns-clause-made
par_of-returns-clause-made t c =
    let x = c.loop-part in
    let ps = c.args.written.now in
    let made = all_made parts_way number c.args.next.now x.next x.part-index c.as_slice-part-items.result.now ps (task_views x.tasks.items) c.as_slice-part-items.ensures c.loop-part-test.false x.invariant in
    let l = some_there x.tasks c.if-is_empty.ensures in
    tasks_stand c.args.site c.args.next.now x.tasks.items (map number ps) (view c.task.result.frame) c.task.result.begins l made.1 c.task.ensures.frame c.task.ensures.begins

pub seq_of-loop-part-preserved : goal.seq_of-loop-part-preserved
seq_of-loop-part-preserved t c =
    let xs = c.as_slice-part-items.result.now in
    let k = c.loop-part.part-index in
    let fs = c.loop-part.parts.items in
    let made = c.in_ok-made.made in
    let is = c.in_ok-made.ensures.made in
    let pushed = c.in_ok-push.ensures.items in
    let more = one_made parts_way c.args.next.now c.loop-part.next c.task_of.new.next (number c.part-item.result) (map number xs) (map number (drop k xs)) (map number (drop (k + 1) xs)) (view made.frame) (views fs) _ (drop_at number k xs c.part-item.result c.loop-part-test.true c.part-item.is)
    c.in_ok-made.ensures.next is.0 (ap views pushed ∙ views_push fs made.frame) c.loop-part.invariant.0 in
    let o = c.if-is_empty.begins in
    let now : o ≡ outcome_of (begin (SEQ c.args.site (plans_of (views (fs ++ made.frame ∷ []))))) =
    elim c.if-is_empty.branch [
      | seq_of-then-is_empty w ↦ begins_first c.args.site fs made.frame _ o (none_there c.loop-part.parts (sym w.if-is_empty.true ∙ c.is_empty.ensures)) is.0 (w.begins-is ∙ is.1)
      | seq_of-else-is_empty w ↦ begins_still c.args.site fs made.frame o (some_there c.loop-part.parts (sym w.if-is_empty.false ∙ c.is_empty.ensures)) (w.begins-is ∙ c.loop-part.invariant.1)
    ] in
    (more, now ∙ ap (λ us. outcome_of (begin (SEQ c.args.site (plans_of (views us))))) (sym pushed))

pub seq_of-returns-then-is_empty-2-clause-made : goal.seq_of-returns-then-is_empty-2-clause-made
seq_of-returns-then-is_empty-2-clause-made t c =
    let x = c.loop-part in
    let ps = c.args.written.now in
    let made = all_made parts_way number c.args.next.now x.next x.part-index c.as_slice-part-items.result.now ps (views x.parts.items) c.as_slice-part-items.ensures c.loop-part-test.false x.invariant.0 in
    let e = none_there x.parts c.if-is_empty-2.ensures in
    no_part_stands c.args.site c.args.next.now x.parts.items (map number ps) (view c.task.result.frame) c.task.result.begins e made.1 c.task.ensures.frame (c.task.ensures.begins ∙ x.invariant.1)

pub seq_of-returns-clause-made : goal.seq_of-returns-clause-made
seq_of-returns-clause-made t c =
    let x = c.loop-part in
    let ps = c.args.written.now in
    let made = all_made parts_way number c.args.next.now x.next x.part-index c.as_slice-part-items.result.now ps (views x.parts.items) c.as_slice-part-items.ensures c.loop-part-test.false x.invariant.0 in
    let l = some_there x.parts c.if-is_empty-2.ensures in
    parts_stand c.args.site c.args.next.now x.parts.items (map number ps) (view c.task-2.result.frame) c.task-2.result.begins l made.1 c.task-2.ensures.frame (c.task-2.ensures.begins ∙ x.invariant.1)
