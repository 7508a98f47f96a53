-- What a word of a line is.
use Rattle.std.specs.Prelude.{◌≡◌, ℕ, ◌==◌, true, not, List}
use Rattle.std.specs.List.{list_all}

-- it holds no space
abbrev pub IsWord : List ℕ → Type 0
IsWord word = list_all (λ byte. not (byte == 32)) word ≡ true
