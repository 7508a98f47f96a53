-- A list of messages in one buffer.
use Rattle.std.specs.Prelude.{◌≡◌, ◌≤◌, ◌<◌, ◌+◌, ◌-◌, ◌*◌, ◌^◌, ℕ, List, [], ◌∷◌, map, length, take, drop}
use Rattle.std.specs.List.{range_with_len}

-- the first so many multiples of a step
abbrev pub multiples : ℕ → ℕ → List ℕ
multiples step count = map (λ n. (n + 1) * step) (range_with_len 0 count)

-- multiples and other numbers can be counted, and the last multiple computed
pub record Countable (step even : ℕ) (others : List ℕ) : Type 0 where
  pub last : even * step < 2 ^ 64
  pub count : even + length others < 2 ^ 64

-- the parts of a buffer from a place on, each up to its end
abbrev pub cut : List ℕ → ℕ → List ℕ → List (List ℕ)
cut bytes from [] = []
cut bytes from (end ∷ ends) = take (end - from) (drop from bytes) ∷ cut bytes end ends

-- the ends rise from a place on, and the last one is the buffer's length
abbrev pub RiseTo : ℕ → ℕ → List ℕ → Type 0
RiseTo len from [] = from ≡ len
RiseTo len from (end ∷ ends) = (from ≤ end) × RiseTo len end ends
