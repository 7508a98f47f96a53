use Rattle.std.proofs.Common.{◌≡◌, ◌++◌, drop}
use Rattle.vc_occam.specs.First.{meetings}
use Rattle.vc_occam.proofs.meetings.push_met.Given as goal

abbrev pub invariant-loop-place : goal.invariant-loop-place
invariant-loop-place l =
    l.found ++ meetings l.sender l.chan (drop l.place l.sorted) ≡ l.initial.found ++ meetings l.sender l.chan l.sorted
