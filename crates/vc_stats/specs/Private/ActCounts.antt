-- Counts of the acts of the actors.
use Rattle.std.specs.Prelude.{◌≡◌, ℕ, zero, suc, List, [], ◌++◌, map, IfSome}
use Rattle.vc_actor.specs.declared.act.Act.{Act}
use Rattle.vc_core.specs.declared.event.Event.{Event}
use Rattle.vc_stats.specs.Counts.{Counts}
use Rattle.vc_stats.specs.declared.counted_acts.CountedActs.{CountedActs}

-- the acts of an actor as events
abbrev pub events_by : ℕ → List (ℕ × Act) → List Event
events_by actor = map (λ a. record { actor = actor; act = a.1 })

-- those of the first n actors, one actor's after another's
abbrev pub all_events : (ℕ → List (ℕ × Act)) → ℕ → List Event
all_events acts zero = []
all_events acts (suc n) = all_events acts n ++ events_by n (acts n)

-- it is of the actor and has the counts of these acts, unless memory ran out
abbrev pub CountsActs : CountedActs → ℕ → List (ℕ × Act) → Type 0
CountsActs log actor acts = (log.actor ≡ actor) × IfSome log.stats (λ stats. Counts stats (events_by actor acts))
