-- What is known of a gate: which turns it may refuse which actor.
use Rattle.std.specs.Prelude.{ℕ, ⊤}
use Rattle.vc_core.specs.State.{State}
use Rattle.vc_core.specs.Turns.{AllHaveEnded}
use Rattle.vc_plan.specs.declared.plan.Plan.{Plan}

-- a gate of which nothing is known may refuse any actor any turn
abbrev pub refuses_any : ℕ → ℕ → Type 0
refuses_any actor turn = ⊤

-- a gate that closes once every process has ended may refuse turns only in a run after which all have
abbrev pub once_ended : Plan → State → ℕ → ℕ → Type 0
once_ended plan after actor turn = AllHaveEnded plan after
