-- What was taken off each way and what is left on it, beside what was put on it.
use Rattle.std.specs.Prelude.{◌≡◌, ℕ, ◌+◌, ◌*◌, ◌<◌, List, slice_get, Some}
use Rattle.vc_plan.specs.declared.port.Port.{Port}
use Rattle.vc_plan.specs.declared.port.Wire.{Wire}

-- so of both ways of each of the first n wires, of a way by its number and its two ports
abbrev pub OnWays : (ℕ → Port → Port → Type 0) → List Wire → ℕ → Type 0
OnWays R ws n = (i : ℕ) (w : Wire) → i < n → slice_get ws i ≡ Some w → R (2 * i) w.one w.two × R (2 * i + 1) w.two w.one
