-- Functions of a number, such as what a node keeps for each of its links: a change of one at one number, and what is shown of what is
-- kept at a number.
use Rattle.std.specs.Prelude.{ℕ, nat_eq, if◌then◌else◌, Option, Some, None}

-- f, but x at i
abbrev pub put : {X : Type 0} → (ℕ → X) → ℕ → X → ℕ → X
put f i x j = if nat_eq j i then x else f j

-- what is shown of what is there, and d where nothing is
abbrev pub shown_or : {X Y : Type 0} → Y → (X → Y) → Option X → Y
shown_or d show None = d
shown_or d show (Some x) = show x
