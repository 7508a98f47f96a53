-- The nearest of some names to one that is written.
use Rattle.std.specs.Prelude.{ℕ, ◌-◌, ◌&&◌, Bool, nat_eq, nat_le, nat_lt, if◌then◌else◌, List, [], ◌∷◌, ◌++◌, length, take, codes, decimal, Option, Some, None, nat_lt}
use Rattle.strsim.specs.Edits.{levenshtein_row}
use Rattle.vc_explain.specs.Found.{is_shown, quoted}

-- how many letters have to be changed, written or left out
abbrev pub distance : List ℕ → List ℕ → ℕ
distance s name = levenshtein_row nat_eq s name (length name)

-- two letters at most, and not all of them
abbrev pub is_near : List ℕ → List ℕ → Bool
is_near s name = nat_le (distance s name) 2 && nat_lt (distance s name) (length s)

-- a name is taken instead of the one so far if it is nearer
abbrev pub nearer : List ℕ → Option (List ℕ) → List ℕ → Option (List ℕ)
nearer s None name = if is_near s name then Some name else None
nearer s (Some near) name = if nat_lt (distance s name) (distance s near) then Some name else Some near

abbrev pub nearest_from : List ℕ → Option (List ℕ) → List (List ℕ) → Option (List ℕ)
nearest_from s near [] = near
nearest_from s near (name ∷ names) = nearest_from s (nearer s near name) names

-- the nearest name, if one is near to a text that can be shown
abbrev pub nearest : List ℕ → List (List ℕ) → Option (List ℕ)
nearest s names = if is_shown s then nearest_from s None names else None

-- names, with commas between them
abbrev pub listed_after : List (List ℕ) → List ℕ
listed_after [] = []
listed_after (name ∷ names) = codes ", " ++ quoted name ++ listed_after names

abbrev pub listed : List (List ℕ) → List ℕ
listed [] = []
listed (name ∷ names) = quoted name ++ listed_after names

abbrev pub rest_counted : ℕ → List ℕ
rest_counted n = if nat_lt 8 n then codes " and " ++ decimal (n - 8) ++ codes " more." else codes "."

-- the first eight names that there are
unfoldable pub some_known : List (List ℕ) → List ℕ
some_known names = codes " There are: " ++ listed (take 8 names) ++ rest_counted (length names)

abbrev pub known : List (List ℕ) → List ℕ
known [] = codes " There is none."
known (name ∷ names) = some_known (name ∷ names)

unfoldable pub asked : List ℕ → List ℕ
asked name = codes " Did you mean " ++ quoted name ++ codes "?"

abbrev pub meant : Option (List ℕ) → List (List ℕ) → List ℕ
meant (Some name) names = asked name
meant None names = known names

-- what might have been meant
unfoldable pub suggestion : List ℕ → List (List ℕ) → List ℕ
suggestion s names = meant (nearest s names) names
