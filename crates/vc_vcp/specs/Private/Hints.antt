-- Hints: where to look first for what has a name, of lists whose elements are named by a number.
use Rattle.std.specs.Prelude.{◌≡◌, ℕ, ◌%◌, List, Some, slice_get}

-- no other element's name agrees with that of the element at i
abbrev pub IsAlone : {X : Type 0} → (X → ℕ) → List X → ℕ → X → Type 0
IsAlone {X} name xs i x = (j : ℕ) (y : X) → slice_get xs j ≡ Some y → name y % 256 ≡ name x % 256 → j ≡ i

-- where no other name agrees with an element's, the hint for it is its place
abbrev pub AreHinted : {X : Type 0} → (X → ℕ) → List X → List ℕ → Type 0
AreHinted {X} name xs hints = (i : ℕ) (x : X) → slice_get xs i ≡ Some x → IsAlone name xs i x → slice_get hints (name x % 256) ≡ Some i
