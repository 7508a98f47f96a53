-- What the close of a run says of the state after it.
use Rattle.std.specs.Prelude.{◌≡◌, ℕ, ⊤}
use Rattle.vc_plan.specs.declared.plan.Plan.{Plan}
use Rattle.vc_plan.specs.Dependencies.{HasRanks}
use Rattle.vc_core.specs.PossibleEvents.{NetworkState, CanHappenIn}
use Rattle.vc_core.specs.Still.{IsHeldUp}
use Rattle.vc_core.specs.Turns.{IsAtRestIn}
use Rattle.vc_placement.specs.OneNode.{HaveEnded}
use Rattle.vc_core.specs.declared.event.Event.{Event}
use Rattle.vc_core.specs.declared.close.Close.{Close}
use Rattle.vc_core.specs.declared.close.Close.TheVariants.{Done, Quiet, Limit}

-- a network whose ports have ranks is quiet because of its processes alone
abbrev pub OnlyProcessesWait : Plan → NetworkState → Close → Type 0
OnlyProcessesWait p x Quiet = HasRanks p → IsHeldUp p x
OnlyProcessesWait p x close = ⊤

-- a run that made so many events of those allowed closes Done or Quiet where no event can happen, and every process has ended or not;
-- and Limit where it made as many as allowed, and an event can happen
abbrev pub Closes : Plan → NetworkState → ℕ → ℕ → Close → Type 0
Closes p x made limit Done = IsAtRestIn p x × HaveEnded p x
Closes p x made limit Quiet = IsAtRestIn p x × (HaveEnded p x → ⊥)
Closes p x made limit Limit = (made ≡ limit) × ((e : Event) × CanHappenIn p x e)
Closes p x made limit close = ⊥

-- a state of which it is not known how it was come to closes Done where every process has ended, Quiet where no event can happen, and else
-- Limit
abbrev pub ClosesIn : Plan → NetworkState → Close → Type 0
ClosesIn p x Done = HaveEnded p x
ClosesIn p x Quiet = IsAtRestIn p x × (HaveEnded p x → ⊥)
ClosesIn p x Limit = (HaveEnded p x → ⊥) × ((e : Event) × CanHappenIn p x e)
ClosesIn p x close = ⊥
