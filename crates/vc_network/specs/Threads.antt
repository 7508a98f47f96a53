-- What actors in threads of their own do is a run of the network.
use Rattle.std.specs.Prelude.{◌≡◌, ℕ, List, ◌∷◌, ◌++◌, map}
use Rattle.vc_network.specs.Actors.{Network, Alike, ActBy, act_of}
use Rattle.vc_network.specs.LocalRun.{Stamped, Turn, LocalRuns, items, restamped}
use Rattle.vc_network.specs.Merge.{Made, IsMerge}
use Rattle.vc_tokens.specs.Tokens.{Token}
use Rattle.vc_switch.specs.Waiting.{Waiting}
use Rattle.vc_network.specs.Plan.{Plan, near, far, IsAccepted}
use Rattle.vc_network.specs.Processes.{StepRelation, IsDeterminate}
use Rattle.vc_network.specs.Network.{Act, Actor, Local, first, begins, actor_at, HappenAll}
use Rattle.vc_network.specs.EnabledEvents.{IsEnabled}
use Rattle.vc_network.specs.Headline.{HeadlineAndList}

-- a way's source is the actor at its near end, and its sink the one at its far end
abbrev pub source : Plan → ℕ → ℕ
source plan way = actor_at plan (near plan way)

abbrev pub sink : Plan → ℕ → ℕ
sink plan way = actor_at plan (far plan way)

-- an act of a merge, as an event
abbrev pub made_by : Made Act → ActBy Act
made_by m = record { actor = m.actor; act = m.act.it }

-- the actors' last states, and what is left on the ways
abbrev pub ended : {P : Type 0} → (ℕ → Actor P) → (ℕ → List (Stamped Token)) → Network (Actor P) Token
ended last left = record { state = last; way = λ way. items (left way) }

-- the actors' runs fit together on each way, and these are all their acts, by stamp, then actor
pub record AreThreads {P : Type 0} (plan : Plan) (waiting : Waiting) (Does : StepRelation P) (begin : ℕ → P) (runs : ℕ → List (Turn Act Token)) (last : ℕ → Actor P) (left : ℕ → List (Stamped Token)) (acts : List (Made Act)) : Type 0 where
  pub fit : LocalRuns (Local plan waiting Does) (source plan) (sink plan) (first plan begin) runs last left
  pub merged : IsMerge (λ actor. map (restamped act_of) (runs actor)) acts

-- Whatever the actors did by themselves: their acts, by stamp, then actor, happen in the network from its opening state to
-- the last states, and the headline holds there.
abbrev pub ThreadsKeepHeadline : {P : Type 0} → Plan → Waiting → StepRelation P → (ℕ → P) → Type 0
ThreadsKeepHeadline {P} plan waiting Does begin =
    (last : ℕ → Actor P) (runs : ℕ → List (Turn Act Token)) (left : ℕ → List (Stamped Token)) (acts : List (Made Act))
    → IsAccepted plan
    → AreThreads plan waiting Does begin runs last left acts
    → HappenAll plan waiting Does (begins plan begin) (map made_by acts) (ended last left) × HeadlineAndList plan waiting Does begin (ended last left)

-- A replay of these acts: wherever it has come, the next event is enabled, and at the end it is where the threads ended.
abbrev pub ReplaysReach : {P : Type 0} → Plan → Waiting → StepRelation P → (ℕ → P) → Type 0
ReplaysReach {P} plan waiting Does begin =
    (last : ℕ → Actor P) (runs : ℕ → List (Turn Act Token)) (left : ℕ → List (Stamped Token)) (acts : List (Made Act))
    → IsAccepted plan
    → IsDeterminate Does
    → AreThreads plan waiting Does begin runs last left acts
    → ((done rest : List (ActBy Act)) (e : ActBy Act) (mid : Network (Actor P) Token) → map made_by acts ≡ done ++ e ∷ rest → HappenAll plan waiting Does (begins plan begin) done mid → IsEnabled plan waiting Does mid e)
    × ((end : Network (Actor P) Token) → HappenAll plan waiting Does (begins plan begin) (map made_by acts) end → Alike (ended last left) end)
