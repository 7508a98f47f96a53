-- Numbers in rows.
use Rattle.std.specs.Prelude.{ℕ, ◌==◌, Bool, List, [], slice_get}
use Rattle.std.specs.List.{list_any}
use Rattle.std.specs.Option.{option_map_or}
use Rattle.vc_stats.specs.declared.rows.Rows.{Rows}

-- the numbers in a row
abbrev pub row_of : Rows → ℕ → List ℕ
row_of rows k = option_map_or (λ row. row.items) (slice_get rows.rows.items k) []

-- the number is in the list
abbrev pub is_in : ℕ → List ℕ → Bool
is_in n = list_any (λ m. m == n)

-- it is in the row
abbrev pub has : Rows → ℕ → ℕ → Bool
has rows k n = is_in n (row_of rows k)
