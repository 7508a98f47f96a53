use Rattle.std.proofs.Common.{◌≡◌, map, take}
use Rattle.vc_threads.specs.Private.Close.{stop_in}
use Rattle.vc_threads.proofs.report.stops_of.Given as goal

abbrev pub invariant-loop-run : goal.invariant-loop-run
invariant-loop-run g l = l.stops.items ≡ map stop_in (take l.run-index l.runs)
