-- Lists whose elements are named by a number, such as the halves at a node by their channel.
use Rattle.std.specs.Prelude.{◌≡◌, ℕ, List, [], ◌∷◌, ◌==◌, if◌then◌else◌, Option, Some, None, slice_get}
use Rattle.vc_packets.specs.Functions.{shown_or}

-- the first element of this name
abbrev pub named : {X : Type 0} → (X → ℕ) → ℕ → List X → Option X
named name k [] = None
named name k (x ∷ xs) = if name x == k then Some x else named name k xs

-- no name stands twice
abbrev pub NamesDiffer : {X : Type 0} → (X → ℕ) → List X → Type 0
NamesDiffer {X} name xs = (i j : ℕ) (x y : X) → slice_get xs i ≡ Some x → slice_get xs j ≡ Some y → name x ≡ name y → i ≡ j

-- what the element of each name shows, and d for a name that none has
abbrev pub by_name : {X Y : Type 0} → (X → ℕ) → (X → Y) → Y → List X → ℕ → Y
by_name name show d xs k = shown_or d show (named name k xs)
