use Rattle.vc_process.specs.Private.InOrder.{number_guard}
use Rattle.vc_process.proofs.ChannelUses.{all_inputs}
use Rattle.vc_process.proofs.Walks.{Adds}
use Rattle.vc_process.proofs.uses.push_guards.Given as goal

abbrev pub invariant-loop-guard : goal.invariant-loop-guard
invariant-loop-guard l = Adds number_guard (all_inputs l.kinds) l.guard-items l.initial.uses l.guard-index l.uses
