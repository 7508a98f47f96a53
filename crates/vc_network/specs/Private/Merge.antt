-- All actors' runs as one list, ordered by stamp, then actor.
use Rattle.std.specs.Prelude.{ℕ, List, map}
use Rattle.vc_network.specs.Private.Actors.{Event, Run, KeepsTo}
use Rattle.vc_network.specs.Actors.{Label, Steps, opening}
use Rattle.vc_network.specs.LocalRun.{Stamped, Turn, LocalRuns, items, plain, restamped}
use Rattle.vc_network.specs.Merge.{Made, IsMerge}

-- the network's event for a stamped act of an actor
abbrev pub event : {Act Item : Type 0} → Made (Label Act (Stamped Item)) → Event Act Item
event m = record { actor = m.actor; label = plain m.act.it }

-- Each actor takes only from ways of which it is the sink, and puts only on ways of which it is the source. Whatever the actors did
-- by themselves, if it fits together on each way, its merge is then a run of the network: from the first states with nothing on the
-- ways to the last states with what is left on each.
abbrev pub MergesAreRuns : {State Act Item : Type 0} → Steps State Act Item → (ℕ → ℕ) → (ℕ → ℕ) → Type 0
MergesAreRuns {State} {Act} {Item} Local source sink =
    ((actor : ℕ) (old : State) (label : Label Act Item) (new : State) → Local actor old label new → KeepsTo source sink actor label)
    → (first last : ℕ → State) (runs : ℕ → List (Turn Act Item)) (left : ℕ → List (Stamped Item)) (merged : List (Made (Label Act (Stamped Item))))
    → LocalRuns Local source sink first runs last left
    → IsMerge runs merged
    → Run Local (opening first) (map event merged) (record { state = last; way = λ way. items (left way) })

-- the same, with its act made into another by f
abbrev pub remade : {A B : Type 0} → (A → B) → Made A → Made B
remade f m = record { actor = m.actor; act = restamped f m.act }
