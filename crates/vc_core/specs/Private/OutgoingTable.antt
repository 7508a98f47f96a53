-- How the table of outgoing ways is filled: 32 places an actor, and the way's number in the place of its port.
use Rattle.std.specs.Prelude.{ℕ, ◌+◌, ◌*◌, List, Option, Some, slice_set}
use Rattle.vc_plan.specs.declared.port.Port.{Port}
use Rattle.vc_accepted.specs.ActorWays.{actor_of}

-- the way leaves by the port
abbrev pub left : List (Option ℕ) → ℕ → Port → ℕ → List (Option ℕ)
left out nodes port way = slice_set out (actor_of nodes port.spot * 32 + port.link) (Some way)
