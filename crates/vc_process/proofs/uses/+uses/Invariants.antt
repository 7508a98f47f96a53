use Rattle.vc_process.specs.InOrder.{number}
use Rattle.vc_process.specs.Private.InOrder.{number_branch, number_guard}
use Rattle.vc_process.proofs.ChannelUses.{all_parts, all_branches, all_guards}
use Rattle.vc_process.proofs.Walks.{Adds}
use Rattle.vc_process.proofs.uses.+uses.Given as goal

abbrev pub invariant-push_parts-loop-part : goal.invariant-push_parts-loop-part
invariant-push_parts-loop-part l = Adds number (all_parts l.kinds) l.part-items l.initial.uses l.part-index l.uses

abbrev pub invariant-push_branches-loop-branch : goal.invariant-push_branches-loop-branch
invariant-push_branches-loop-branch l = Adds number_branch (all_branches l.kinds) l.branch-items l.initial.uses l.branch-index l.uses

abbrev pub invariant-push_bodies-loop-guard : goal.invariant-push_bodies-loop-guard
invariant-push_bodies-loop-guard l = Adds number_guard (all_guards l.kinds) l.guard-items l.initial.uses l.guard-index l.uses
