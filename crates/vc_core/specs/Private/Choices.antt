-- What is listed of an actor's acts.
use Rattle.std.specs.Prelude.{◌≡◌, ℕ, List, ◌++◌, Some, slice_get}
use Rattle.vc_plan.specs.declared.plan.Plan.{Plan}
use Rattle.vc_switch.specs.State.{State as SwitchState}
use Rattle.vc_actor.specs.ActorView.{OfSwitch}
use Rattle.vc_actor.specs.declared.act.Act.{Act}
use Rattle.vc_core.specs.Choices.{AreThose}
use Rattle.vc_core.specs.PossibleEvents.{CanHappen}
use Rattle.vc_core.specs.State.{State, IsNetworkOf, MayHappen}

-- the acts for which something holds were added to a list
abbrev pub Adds : (Act → Type 0) → List Act → List Act → List Act → Type 0
Adds Is acts old new = (found : List Act) × AreThose Is acts found × (new ≡ old ++ found)

-- the acts that an actor can do were added to a list
pub record Lists (s : State) (k : ℕ) (acts old new : List Act) : Type 0 where
  pub may : Adds (λ a. MayHappen s (record { actor = k; act = a })) acts old new
  pub can : (p : Plan) → IsNetworkOf p s → Adds (λ a. CanHappen p s (record { actor = k; act = a })) acts old new

-- the actor is this switch
abbrev pub IsSwitchAt : State → ℕ → SwitchState → Type 0
IsSwitchAt s k switch = slice_get s.actors k ≡ Some (OfSwitch switch)
