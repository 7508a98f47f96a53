use Rattle.std.proofs.Common.{◌≡◌, ◌++◌, take, drop}
use Rattle.vc_occam.proofs.meetings.move_front.Given as goal

abbrev pub invariant-loop-place : goal.invariant-loop-place
invariant-loop-place l = l.found ≡ take l.place (drop l.count l.initial.found) ++ drop l.place l.initial.found
