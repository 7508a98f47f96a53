use Rattle.std.proofs.Common.{◌≡◌, length}
use Rattle.vc_explain.specs.Walk.{past_portals}
use Rattle.vc_explain.proofs.walk.past_portals.Given as goal

abbrev pub invariant-loop-front : goal.invariant-loop-front
invariant-loop-front l = past_portals l.rows l.rest ≡ past_portals l.rows l.headers

abbrev pub decreases-loop-front : goal.decreases-loop-front
decreases-loop-front l = length l.rest
