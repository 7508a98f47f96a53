-- A text that goes to a writer through a buffer.
use Rattle.std.specs.Prelude.{◌≡◌, ℕ, List, ◌++◌, Option}
use Rattle.std.specs.Io.KnownBytes.{Appends}

-- what the writer got, and then what the buffer has, is what the buffer had, and then the text
abbrev pub Passes : Option (List ℕ) → List ℕ → Option (List ℕ) → List ℕ → List ℕ → Type 0
Passes old held new left text = (out : List ℕ) × Appends old new out × (out ++ left ≡ held ++ text)
