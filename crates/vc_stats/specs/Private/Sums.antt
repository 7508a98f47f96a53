-- Sums of counts.
use Rattle.std.specs.Prelude.{◌≡◌, ℕ, ◌+◌, ◌^◌, ◌<◌}

-- each number came as often as in both, unless that is more than an entry can be
abbrev pub Adds : (ℕ → ℕ) → (ℕ → ℕ) → (ℕ → ℕ) → Type 0
Adds one two both = (n : ℕ) → one n + two n < 2 ^ 64 → both n ≡ one n + two n
