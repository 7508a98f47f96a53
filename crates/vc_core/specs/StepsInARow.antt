-- Steps without a communication in a row, by one actor of a network.
use Rattle.std.specs.Prelude.{◌≡◌, ◌≢◌, ℕ}
use Rattle.vc_accepted.specs.NetworkOf.{network_of}
use Rattle.vc_actor.specs.StepsInARow.{RestsOn}
use Rattle.vc_plan.specs.declared.plan.Plan.{Plan}
use Rattle.vc_core.specs.State.{State, shown, IsNetworkOf}

-- an actor makes so many; all else stays, and the network is one of the plan
pub record MakesSteps (p : Plan) (actor many : ℕ) (old new : State) : Type 0 where
  pub steps : RestsOn (network_of p) actor many ((shown old).state actor) ((shown new).state actor)
  pub others : (k : ℕ) → k ≢ actor → (shown new).state k ≡ (shown old).state k
  pub ways : new.ways ≡ old.ways
  pub kept : IsNetworkOf p new
