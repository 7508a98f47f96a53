-- Actors that are not awake have no event.
use Rattle.std.specs.Prelude.{◌≡◌, ℕ, ◌<◌}
use Rattle.std.specs.Int.{bit_at}
use Rattle.vc_plan.specs.declared.plan.Plan.{Plan}
use Rattle.vc_core.specs.Private.Turns.{Rests}
use Rattle.vc_core.specs.State.{State}

-- of the first 64 actors those that are not awake have none
abbrev pub AreQuiet : Plan → State → ℕ → Type 0
AreQuiet p s awake = (k : ℕ) → k < 64 → bit_at awake k ≡ 0 → Rests p s k
