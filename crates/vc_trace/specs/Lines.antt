-- What a line of a text is.
use Rattle.std.specs.Prelude.{◌≡◌, ◌⊎◌, ℕ, ◌==◌, true, not, List, [], ◌∷◌, ◌++◌, length, Option, Some, None}
use Rattle.std.specs.List.{list_all}

-- no byte of it is a newline
abbrev pub IsOnOneLine : List ℕ → Type 0
IsOnOneLine text = list_all (λ byte. not (byte == 10)) text ≡ true

-- a line up to its newline
pub record IsLine (line : List ℕ) : Type 0 where
  pub front : List ℕ
  pub one : IsOnOneLine front
  pub ends : line ≡ front ++ 10 ∷ []

-- a line with its newline; or its first 256 bytes; or the last line of a text, which has no newline
abbrev pub IsLineBefore : (rest : List ℕ) → List ℕ → Type 0
IsLineBefore rest line = IsLine line ⊎ (IsOnOneLine line × ((length line ≡ 256) ⊎ (rest ≡ [])))

-- what a reader has left, where it tells
abbrev pub left : Option (List ℕ) → List ℕ
left None = []
left (Some bytes) = bytes
