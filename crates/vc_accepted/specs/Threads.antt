-- What the actors of an accepted plan did by themselves can be replayed.
use Rattle.std.specs.Prelude.{◌≡◌, ℕ, List, ◌∷◌, ◌++◌, map}
use Rattle.vc_accepted.specs.NetworkOf.{network_of}
use Rattle.vc_network.specs.Actors.{Network, Alike, ActBy}
use Rattle.vc_network.specs.LocalRun.{Stamped, Turn}
use Rattle.vc_network.specs.Merge.{Made}
use Rattle.vc_network.specs.EnabledEvents.{IsEnabled}
use Rattle.vc_network.specs.Network.{Act, Actor, begins, HappenAll}
use Rattle.vc_network.specs.Threads.{AreThreads, made_by, ended}
use Rattle.vc_plan.specs.declared.plan.Plan.{Plan}
use Rattle.vc_plan.specs.Accepted.{IsAccepted}
use Rattle.vc_switch.specs.Waiting.{Waiting}
use Rattle.vc_tokens.specs.Tokens.{Token}
use Rattle.vc_accepted.specs.Begin.{begin_of}
use Rattle.vc_accepted.specs.Process.{Process, does}

-- Where the runs fit on the ways, their acts, by stamp, then actor, happen one after another: wherever a replay of them has come, the
-- next one is enabled, and at the end it is where the actors ended.
abbrev pub ActsCanBeReplayed : Type 0
ActsCanBeReplayed =
    (p : Plan) (waiting : Waiting) (last : ℕ → Actor Process) (runs : ℕ → List (Turn Act Token)) (left : ℕ → List (Stamped Token)) (acts : List (Made Act))
    → IsAccepted p
    → AreThreads (network_of p) waiting does (begin_of p) runs last left acts
    → ((done rest : List (ActBy Act)) (e : ActBy Act) (mid : Network (Actor Process) Token) → map made_by acts ≡ done ++ e ∷ rest → HappenAll (network_of p) waiting does (begins (network_of p) (begin_of p)) done mid → IsEnabled (network_of p) waiting does mid e)
    × ((end : Network (Actor Process) Token) → HappenAll (network_of p) waiting does (begins (network_of p) (begin_of p)) (map made_by acts) end → Alike (ended last left) end)
