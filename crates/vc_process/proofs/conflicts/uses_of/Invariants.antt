use Rattle.vc_process.proofs.PartUses.{AddsPlaced}
use Rattle.vc_process.proofs.conflicts.uses_of.Given as goal

abbrev pub invariant-loop-place : goal.invariant-loop-place
invariant-loop-place l = AddsPlaced l.parts l.place l.uses.items
