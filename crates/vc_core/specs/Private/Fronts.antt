-- Which links of which actors tokens come by, as bits: an actor has a number, with a bit for each link.
use Rattle.std.specs.Prelude.{◌≡◌, ℕ, ◌<◌, List, length}
use Rattle.vc_core.specs.Fronts.{bit_of}

-- one bit is b now, and the others are as they were
pub record Marked (old : List ℕ) (actor link b : ℕ) (new : List ℕ) : Type 0 where
  pub count : length new ≡ length old
  pub it : bit_of new actor link ≡ b
  pub others : (k l : ℕ) → l < 32 → ((k ≡ actor) × (l ≡ link) → ⊥) → bit_of new k l ≡ bit_of old k l
