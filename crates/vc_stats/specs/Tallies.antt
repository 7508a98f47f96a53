-- What tallies tell.
use Rattle.std.specs.Prelude.{ℕ, ◌+◌, ◌^◌, ◌-◌, Bool, false, ◌==◌, if◌then◌else◌, min, Option, Some, None, slice_get, slice_index}
use Rattle.std.specs.Option.{option_map_or}
use Rattle.vc_stats.specs.declared.table.Table.{Table}
use Rattle.vc_stats.specs.declared.tally.Tally.{Tally}

-- how often the number came
abbrev pub entry : Tally → ℕ → ℕ
entry tally n = slice_index tally.entries.items n

-- how often the number came in the row
abbrev pub cell : Table → ℕ → ℕ → ℕ
cell table row n = option_map_or (λ tally. entry tally n) (slice_get table.rows.items row) 0

-- the number is this one
abbrev pub is_at : ℕ → Option ℕ → Bool
is_at n None = false
is_at n (Some m) = m == n

-- a count after one more came, or another one
abbrev pub counted : Bool → ℕ → ℕ
counted came n = if came then min (n + 1) (2 ^ 64 - 1) else n
