-- The rings of a plan's ways, as the jobs hold their ends.
use Rattle.std.specs.Prelude.{◌≡◌, ℕ, ◌<◌, true, Bool, length, slice_get, Some}
use Rattle.vc_accepted.specs.ActorWays.{is_link}
use Rattle.vc_plan.specs.Accepted.{port_of}
use Rattle.vc_plan.specs.declared.plan.Plan.{Plan}
use Rattle.vc_plan.specs.declared.port.Wire.{Wire}

-- the actor's link is a port of one of the first n wires
abbrev pub IsOnWire : Plan → ℕ → ℕ → ℕ → Type 0
IsOnWire p n actor link = (i : ℕ) × (w : Wire) × (is_one : Bool) × (i < n) × (slice_get p.wires i ≡ Some w) × (is_link (length p.nodes) actor link (port_of w is_one) ≡ true)
