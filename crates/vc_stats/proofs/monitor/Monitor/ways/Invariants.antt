use Rattle.std.proofs.Common.{◌≡◌, List, map}
use Rattle.std.specs.List.{range_with_len}
use Rattle.vc_core.specs.PossibleEvents.{NetworkState}
use Rattle.vc_core.specs.declared.event.Event.{Event}
use Rattle.vc_stats.specs.Monitor.{IsMonitorOf}
use Rattle.vc_stats.specs.StateFigures.{way_figures}
use Rattle.vc_stats.proofs.monitor.Monitor.ways.Given as goal

abbrev pub invariant-loop-way : goal.invariant-loop-way
invariant-loop-way l = (es : List Event) (xs : List NetworkState) (x : NetworkState) → IsMonitorOf l.self l.plan es xs x → l.ways.items ≡ map (way_figures l.plan es xs) (range_with_len 0 l.way)
