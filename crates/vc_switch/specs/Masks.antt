-- Masks of links, a bit for each.
use Rattle.std.specs.Prelude.{◌≡◌, ◌<◌, ℕ}
use Rattle.std.specs.Int.{bit_at}

-- the link has its bit in the mask, and no lesser link has
abbrev pub IsLowest : ℕ → ℕ → Type 0
IsLowest mask link = (bit_at mask link ≡ 1) × ((l : ℕ) → l < link → bit_at mask l ≡ 0)
