-- What a monitor of a run has come to.
use Rattle.std.specs.Prelude.{◌≤◌, List, length}
use Rattle.vc_core.specs.PossibleEvents.{NetworkState}
use Rattle.vc_core.specs.declared.event.Event.{Event}
use Rattle.vc_plan.specs.declared.plan.Plan.{Plan}
use Rattle.vc_stats.specs.Buffers.{AreBuffersOf}
use Rattle.vc_stats.specs.Counts.{AreCounts, most_events}
use Rattle.vc_stats.specs.Packets.{ArePacketsOf}
use Rattle.vc_stats.specs.Peaks.{ArePeaksOf}
use Rattle.vc_stats.specs.Times.{AreTimesOf}
use Rattle.vc_stats.specs.StateFigures.{Figures, Visits}
use Rattle.vc_stats.specs.declared.monitor.Monitor.{Monitor}
use Rattle.vc_stats.specs.declared.state_figures.StateFigures.{StateFigures}

-- it has the counts of these events, and the figures of these states, which the events visit up to state x
pub record IsMonitorOf (monitor : Monitor) (p : Plan) (es : List Event) (xs : List NetworkState) (x : NetworkState) : Type 0 where
  pub counts : AreCounts monitor.stats es
  pub visits : Visits p es xs x
  pub times : AreTimesOf monitor.unfinished p xs x
  pub peaks : ArePeaksOf monitor.peaks p xs x
  pub buffers : AreBuffersOf monitor.buffers xs x
  pub packets : ArePacketsOf monitor.packets p es xs

-- of more events nothing is said
abbrev pub Monitors : Monitor → Plan → List Event → NetworkState → Type 0
Monitors monitor p es x = length es ≤ most_events → (xs : List NetworkState) × IsMonitorOf monitor p es xs x

-- the figures that the code has
abbrev pub figures : StateFigures → Figures
figures states = record { unfinished = states.unfinished.items; ways = states.ways.items }
