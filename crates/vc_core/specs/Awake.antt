-- Which actors of a network are awake: those that may have an event. A mask has a bit for each of the first 64 actors that is.
use Rattle.std.specs.Prelude.{◌≡◌, ◌⊎◌, ℕ, ◌<◌, List, [], ◌∷◌, ◌++◌, Some, slice_get}
use Rattle.std.specs.Int.{bit_at}
use Rattle.vc_tokens.specs.Tokens.{Token}
use Rattle.vc_core.specs.State.{State, HasFront}
use Rattle.vc_core.specs.Wiring.{in_at}

-- a token was put at the end of a way that leads to the actor
pub record TokenCame (old new : State) (actor : ℕ) : Type 0 where
  pub way : ℕ
  pub link : ℕ
  pub tokens : List Token
  pub token : Token
  pub into : in_at old.wiring actor link ≡ Some way
  pub stood : slice_get old.ways way ≡ Some tokens
  pub stands : slice_get new.ways way ≡ Some (tokens ++ token ∷ [])

-- whoever was awake is, and so is each actor to which a token came, and no other
pub record StaysAwake (old : State) (before : ℕ) (new : State) (after : ℕ) : Type 0 where
  pub kept : (k : ℕ) → k < 64 → bit_at before k ≡ 1 → bit_at after k ≡ 1
  pub came : (k : ℕ) → k < 64 → TokenCame old new k → bit_at after k ≡ 1
  -- in particular each by one of whose links a token comes now, and none came before
  pub woken : (k link : ℕ) → k < 64 → HasFront new k link → (HasFront old k link → ⊥) → bit_at after k ≡ 1
  pub only : (k : ℕ) → k < 64 → bit_at after k ≡ 1 → (bit_at before k ≡ 1) ⊎ TokenCame old new k
