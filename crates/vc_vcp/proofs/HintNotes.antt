-- Hints are noted one after another.
use Rattle.std.proofs.Common.{◌≡◌, ℕ, ◌<◌, ◌%◌, List, Some, length, slice_get}
use Rattle.vc_vcp.specs.Private.Hints.{IsAlone}

-- the first n elements are hinted
pub record AreHintedTo {X : Type 0} (name : X → ℕ) (xs : List X) (n : ℕ) (hints : List ℕ) : Type 0 where
  pub size : length hints ≡ 256
  pub hinted : (i : ℕ) (x : X) → i < n → slice_get xs i ≡ Some x → IsAlone name xs i x → slice_get hints (name x % 256) ≡ Some i
