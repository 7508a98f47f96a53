-- How long a network goes on while no process moves.
use Rattle.std.specs.Prelude.{ℕ, ◌≤◌, List, length}
use Rattle.std.specs.List.{AllByRecursion}
use Rattle.vc_network.specs.Actors.{Network, ActBy}
use Rattle.vc_tokens.specs.Tokens.{Token}
use Rattle.vc_machine.specs.Dependencies.{HasRanks}
use Rattle.vc_network.specs.Network.{Act, Actor, Proc, Take, Put, Route, Fct, Pass, begins, HappenAll}
use Rattle.vc_network.specs.Plan.{Plan, net_of, IsAccepted}
use Rattle.vc_network.specs.Processes.{StepRelation}
use Rattle.vc_switch.specs.Waiting.{Waiting}

-- the act is no move of a process
abbrev pub IsNoMove : Act → Type 0
IsNoMove (Proc move) = ⊥
IsNoMove (Take link word) = Unit {0}
IsNoMove (Put link) = Unit {0}
IsNoMove (Route input output) = Unit {0}
IsNoMove (Fct link) = Unit {0}
IsNoMove (Pass link) = Unit {0}

-- no list of events without moves of processes that can happen from s on is longer
abbrev pub BoundsRuns : {P : Type 0} → Plan → Waiting → StepRelation P → Network (Actor P) Token → ℕ → Type 0
BoundsRuns {P} plan waiting Does s bound =
    (later : List (ActBy Act)) (u : Network (Actor P) Token) → AllByRecursion (λ e. IsNoMove e.act) later → HappenAll plan waiting Does s later u → length later ≤ bound

-- on an accepted network whose ways have ranks there is such a bound for each state to which a list of events leads
abbrev pub RunsEnd : {P : Type 0} → Plan → Waiting → StepRelation P → (ℕ → P) → Type 0
RunsEnd {P} plan waiting Does begin =
    (es : List (ActBy Act)) (s : Network (Actor P) Token) → IsAccepted plan → HasRanks (net_of plan) → HappenAll plan waiting Does (begins plan begin) es s →
    (bound : ℕ) × BoundsRuns plan waiting Does s bound
