use Rattle.std.proofs.Common.{drop}
use Rattle.vc_process.proofs.Clashes.{Narrowed}
use Rattle.vc_process.proofs.conflicts.first_clash.Given as goal

abbrev pub invariant-loop-usage : goal.invariant-loop-usage
invariant-loop-usage l = Narrowed l.uses l.first (drop l.usage-index l.uses)
