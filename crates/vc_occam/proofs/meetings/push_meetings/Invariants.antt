use Rattle.std.proofs.Common.{◌≡◌, ◌≤◌, ◌++◌, drop, length, take}
use Rattle.vc_occam.specs.First.{meetings}
use Rattle.vc_occam.proofs.meetings.push_meetings.Given as goal

abbrev pub invariant-loop-place : goal.invariant-loop-place
invariant-loop-place l =
    (l.found ++ meetings l.sender l.chan (drop l.place (take l.count l.initial.found)) ≡ l.initial.found ++ meetings l.sender l.chan (take l.count l.initial.found)) × (take l.count l.found ≡ take l.count l.initial.found) × (l.count ≤ length l.found)
