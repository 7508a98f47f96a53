-- Places in a text, as they are told.
use Rattle.std.specs.Prelude.{ℕ, suc, ◌==◌, if◌then◌else◌, List, [], ◌∷◌, ◌++◌, codes, decimal, take}
use Rattle.vc_reader.specs.declared.path.Step.{Step}
use Rattle.vc_text.specs.FaultLine.{steps_text}
use Rattle.vc_waits.specs.Waits.{newline}
use Rattle.vc_explain.specs.Parts.{offset}

-- the line and the column behind these bytes, where one stands at line and column n before them: a line feed ends a line
abbrev pub line_from : ℕ → List ℕ → ℕ
line_from n [] = n
line_from n (b ∷ bs) = line_from (if b == 10 then suc n else n) bs

abbrev pub column_from : ℕ → List ℕ → ℕ
column_from n [] = n
column_from n (b ∷ bs) = column_from (if b == 10 then 1 else suc n) bs

-- the place behind these bytes, of which the first is at line 1, column 1
unfoldable pub place_text : List ℕ → List ℕ
place_text before = codes "at line " ++ decimal (line_from 1 before) ++ codes " column " ++ decimal (column_from 1 before)

-- the place of byte n
abbrev pub byte_line : List ℕ → ℕ → List ℕ
byte_line text n = place_text (take n text) ++ newline

-- the place of the value to which a path leads, and the path
unfoldable pub path_line : List ℕ → List Step → List ℕ
path_line text path = place_text (take (offset path text) text) ++ codes ": " ++ steps_text path ++ newline
