use Rattle.std.proofs.Common.{◌≡◌, drop, map}
use Rattle.vc_process.specs.InOrder.{number}
use Rattle.vc_process.specs.Private.InOrder.{number_branch, number_guard}
use Rattle.vc_process.specs.Syntax.{SEQ}
use Rattle.vc_occam.specs.Frames.{outcome_of, plans_of}
use Rattle.vc_occam.specs.Private.Frames.{task_views, views}
use Rattle.vc_occam.specs.Remains.{begin}
use Rattle.vc_occam.proofs.FrameTrees.{IsMade, branches_way, guards_way, parts_way, shown_branch, shown_guard}
use Rattle.vc_occam.proofs.frame_tree.+framing.Given as goal

abbrev pub invariant-seq_of-loop-part : goal.invariant-seq_of-loop-part
invariant-seq_of-loop-part l =
    IsMade parts_way l.fn.next l.next (map number l.part-items) (map number (drop l.part-index l.part-items)) (views l.parts.items)
    × (l.begins ≡ outcome_of (begin (SEQ l.site (plans_of (views l.parts.items)))))

abbrev pub invariant-par_of-loop-part : goal.invariant-par_of-loop-part
invariant-par_of-loop-part l = IsMade parts_way l.fn.next l.next (map number l.part-items) (map number (drop l.part-index l.part-items)) (task_views l.tasks.items)

abbrev pub invariant-if_of-loop-branch : goal.invariant-if_of-loop-branch
invariant-if_of-loop-branch l = IsMade branches_way l.fn.next l.next (map number_branch l.branch-items) (map number_branch (drop l.branch-index l.branch-items)) (map shown_branch l.branches.items)

abbrev pub invariant-alt_of-loop-guard : goal.invariant-alt_of-loop-guard
invariant-alt_of-loop-guard l = IsMade guards_way l.fn.next l.next (map number_guard l.guard-items) (map number_guard (drop l.guard-index l.guard-items)) (map shown_guard l.guards.items)
