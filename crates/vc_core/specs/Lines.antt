-- The ways of a network, as the code keeps them at the links of its actors.
use Rattle.std.specs.Prelude.{◌≡◌, ◌↔◌, ℕ, ◌<◌, List, length, Option, Some}
use Rattle.vc_tokens.specs.Tokens.{Token}
use Rattle.vc_core.specs.Fronts.{bit_of}
use Rattle.vc_core.specs.Wiring.{out_at, in_at, Comes}

-- the tokens on each way, and which way goes out by each link of each actor
pub record Lined : Type 0 where
  pub ways : List (List Token)
  pub wiring : List (Option ℕ)

-- the ways are all there, each comes in by one link, of one of the first 64 actors, and the bits are those of the links by which tokens
-- come
pub record AreLined (wiring : List (Option ℕ)) (ways : List (List Token)) (fronts : List ℕ) : Type 0 where
  pub real : (actor link way : ℕ) → out_at wiring actor link ≡ Some way → way < length ways
  pub near : (actor link way : ℕ) → in_at wiring actor link ≡ Some way → way < length ways
  pub one : (k l j i way : ℕ) → in_at wiring k l ≡ Some way → in_at wiring j i ≡ Some way → (j ≡ k) × (i ≡ l)
  pub into : (way : ℕ) → way < length ways → (actor : ℕ) × (link : ℕ) × (in_at wiring actor link ≡ Some way)
  pub few : (actor link way : ℕ) → in_at wiring actor link ≡ Some way → actor < 64
  pub long : (actor link way : ℕ) → in_at wiring actor link ≡ Some way → actor < length fronts
  pub told : (actor link : ℕ) → link < 32 → (bit_of fronts actor link ≡ 1) ↔ Comes wiring ways actor link
