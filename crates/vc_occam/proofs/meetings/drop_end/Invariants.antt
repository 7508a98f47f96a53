use Rattle.std.proofs.Common.{◌≡◌, ◌-◌, length, take}
use Rattle.vc_occam.proofs.meetings.drop_end.Given as goal

abbrev pub invariant-loop-done : goal.invariant-loop-done
invariant-loop-done l = l.found ≡ take (length l.initial.found - l._done) l.initial.found
