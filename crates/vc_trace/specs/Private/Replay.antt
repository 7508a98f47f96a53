-- What a replay of event lines answers.
use Rattle.std.specs.Prelude.{◌≡◌, ℕ, ◌+◌, Bool, true, false, List, length, Option, Some, None}
use Rattle.vc_core.specs.Replay.{Reached}
use Rattle.vc_core.specs.State.{State, shown, MakesEvent}
use Rattle.vc_core.specs.declared.event.Event.{Event}
use Rattle.vc_plan.specs.declared.plan.Plan.{Plan}
use Rattle.vc_reader.specs.Laws.{HasDistinctNames}
use Rattle.vc_trace.specs.EventText.{event_line}
use Rattle.vc_trace.specs.declared.refused_line.RefusedLine.{RefusedLine}
use Rattle.vc_trace.specs.Replay.{IsNoEvent, EndsBehind, RefusesBehind}

-- the event of the line was made; or no event that can happen has the line, in a plan whose names differ, as a file's do
abbrev pub MakesLine : Plan → State → List ℕ → State → Bool → Type 0
MakesLine p old line new true = (e : Event) × (event_line p e ≡ line) × MakesEvent p old e new
MakesLine p old line new false = (new ≡ old) × (HasDistinctNames p → IsNoEvent p (shown old) line)

-- the events of the text were made, all of them, or those in front of the line that is refused
abbrev pub MakesEvents : Option (List ℕ) → Plan → State → Option RefusedLine → Type 0
MakesEvents known p s None = (events : List Event) × Reached p events s × EndsBehind known p events
MakesEvents known p s (Some refused) =
    (events : List Event) × Reached p events s × (refused.number ≡ length events + 1) × RefusesBehind known p events (shown s) refused.line.items
