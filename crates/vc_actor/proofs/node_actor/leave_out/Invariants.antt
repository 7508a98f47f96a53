use Rattle.std.specs.Prelude.{◌≡◌}
use Rattle.vc_actor.proofs.Removal.{NoneBefore}
use Rattle.vc_actor.proofs.node_actor.leave_out.Given as goal

abbrev pub invariant-loop-place : goal.invariant-loop-place
invariant-loop-place l = NoneBefore l.site l.place l.moves × (l.moves ≡ l.initial.moves)
