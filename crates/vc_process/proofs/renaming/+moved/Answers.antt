use Rattle.std.proofs.Common.{refl}
use Rattle.vc_process.specs.Renaming.{moved_by}
use Rattle.vc_process.proofs.Renamings.{parts_next, branches_next, guards_next, guard_word, word_skip, word_stop, word_receive, word_stopch, word_seq, word_par, word_if, word_alt, while_next, count_next}
use Rattle.vc_process.proofs.renaming.+moved.Goals as goal

pub moved_parts-loop-part-preserved : goal.moved_parts-loop-part-preserved
moved_parts-loop-part-preserved t c =
    parts_next (moved_by c.args.by) c.as_slice-part-items.result.now c.loop-part.part-index c.part-item.result c.loop-part.copies c.push_copied.new.copies c.moved_process.result c.loop-part-test.true c.part-item.is
    c.moved_process.ensures c.in_default.ensures c.loop-part.invariant

pub moved_branches-loop-branch-preserved : goal.moved_branches-loop-branch-preserved
moved_branches-loop-branch-preserved t c =
    branches_next (moved_by c.args.by) c.as_slice-branch-items.result.now c.loop-branch.branch-index c.branch-item.result c.loop-branch.copies c.push_copied.new.copies c.moved_conditional-moved.result c.loop-branch-test.true c.branch-item.is
    c.moved_conditional-moved.ensures c.in_default.ensures c.loop-branch.invariant

pub moved_guards-loop-guard-preserved : goal.moved_guards-loop-guard-preserved
moved_guards-loop-guard-preserved t c =
    guards_next (moved_by c.args.by) c.as_slice-guard-items.result.now c.loop-guard.guard-index c.guard-item.result c.loop-guard.copies c.push_copied.new.copies c.moved_guard.result c.loop-guard-test.true c.guard-item.is
    c.moved_guard.ensures c.in_default.ensures c.loop-guard.invariant

pub moved_process-returns-in-Skip : goal.moved_process-returns-in-Skip
moved_process-returns-in-Skip t c = word_skip (moved_by c.args.by) c.args.process.now c.in-Skip.is

pub moved_process-returns-in-Stop : goal.moved_process-returns-in-Stop
moved_process-returns-in-Stop t c = word_stop (moved_by c.args.by) c.args.process.now c.in-Stop.is

pub moved_process-returns-in-Receive : goal.moved_process-returns-in-Receive
moved_process-returns-in-Receive t c = word_receive (moved_by c.args.by) c.args.process.now c.in-Receive.chan c.in-Receive.var c.moved_variable.result c.in-Receive.is c.moved_variable.ensures

pub moved_process-returns-in-Stopch : goal.moved_process-returns-in-Stopch
moved_process-returns-in-Stopch t c = word_stopch (moved_by c.args.by) c.args.process.now c.in-Stopch.chan c.in-Stopch.is

pub moved_process-returns-in_ok-moved_parts-in-Seq : goal.moved_process-returns-in_ok-moved_parts-in-Seq
moved_process-returns-in_ok-moved_parts-in-Seq t c = word_seq (moved_by c.args.by) c.args.process.now c.in-Seq.parts c.in_ok-moved_parts-in-Seq.field-0 c.in-Seq.is c.in_ok-moved_parts-in-Seq.ensures

pub moved_process-returns-in_ok-moved_parts-in-Par : goal.moved_process-returns-in_ok-moved_parts-in-Par
moved_process-returns-in_ok-moved_parts-in-Par t c = word_par (moved_by c.args.by) c.args.process.now c.in-Par.parts c.in_ok-moved_parts-in-Par.field-0 c.in-Par.is c.in_ok-moved_parts-in-Par.ensures

pub moved_process-returns-in_ok-moved_branches-in-If : goal.moved_process-returns-in_ok-moved_branches-in-If
moved_process-returns-in_ok-moved_branches-in-If t c = word_if (moved_by c.args.by) c.args.process.now c.in-If.branches c.in_ok-moved_branches-in-If.field-0 c.in-If.is c.in_ok-moved_branches-in-If.ensures

pub moved_process-returns-in_ok-moved_guards-in-Alt : goal.moved_process-returns-in_ok-moved_guards-in-Alt
moved_process-returns-in_ok-moved_guards-in-Alt t c = word_alt (moved_by c.args.by) c.args.process.now c.in-Alt.guards c.in_ok-moved_guards-in-Alt.field-0 c.in-Alt.is c.in_ok-moved_guards-in-Alt.ensures

pub moved_guard-returns : goal.moved_guard-returns
moved_guard-returns t c = guard_word (moved_by c.args.by) c.args.guard.now _ c.in_ok-cond.ensures.0 refl c.moved_variable.ensures c.in_ok-cond.ensures.1

pub moved_process-returns-in_ok-body-in-While : goal.moved_process-returns-in_ok-body-in-While
moved_process-returns-in_ok-body-in-While t c =
    while_next (moved_by c.args.by) c.args.process.now c.in-While.cond _ _ c.moved.result _ c.in-While.is c.moved.ensures c.in_ok-body-in-While.ensures c.while_of.ensures

pub moved_process-returns-in_ok-body-in-Count : goal.moved_process-returns-in_ok-body-in-Count
moved_process-returns-in_ok-body-in-Count t c =
    count_next (moved_by c.args.by) c.args.process.now c.in-Count.var c.moved_variable-in-Count.result c.in-Count.base c.in-Count.count _ _ c.moved-in-Count.result c.moved-in-Count-2.result _ c.in-Count.is c.moved_variable-in-Count.ensures c.moved-in-Count.ensures c.moved-in-Count-2.ensures c.in_ok-body-in-Count.ensures c.count_of.ensures
