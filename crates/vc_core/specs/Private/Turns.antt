-- What an actor's turn is to the network; and when no event can happen at all.
use Rattle.std.specs.Prelude.{ℕ, Bool, true, false, None}
use Rattle.vc_plan.specs.declared.plan.Plan.{Plan as Given}
use Rattle.vc_core.specs.PossibleEvents.{CanHappen}
use Rattle.vc_core.specs.State.{State, shown}
use Rattle.vc_core.specs.declared.event.Event.{Event}
use Rattle.vc_core.specs.Turns.{FindsEvent, FindsTake, IsAtRestIn}

-- actor k has no event
pub record Rests (p : Given) (s : State) (k : ℕ) : Type 0 where
  pub takes : FindsTake p s k None
  pub acts : FindsEvent p s k None

-- no event of the network can happen
abbrev pub IsAtRest : Given → State → Type 0
IsAtRest p s = IsAtRestIn p (shown s)

-- whether some event can
abbrev pub GoesOn : Given → State → Bool → Type 0
GoesOn p s true = (e : Event) × CanHappen p s e
GoesOn p s false = IsAtRest p s
