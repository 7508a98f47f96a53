-- Lawful tables: rows that rise, each beginning where the one before it ends, with groups of a switch's 32 links.
use Rattle.std.specs.Prelude.{◌≡◌, ℕ, ◌≤◌, ◌<◌, List, [], ◌∷◌}
use Rattle.vc_labels.specs.declared.row.Row.{Row}
use Rattle.vc_labels.specs.declared.action.Action.{Action}
use Rattle.vc_labels.specs.declared.action.Action.TheVariants.{Out, Portal}

-- a group's links are links of a switch
abbrev pub HasLinks : Action → Type 0
HasLinks (Out first last) = (first ≤ last) × (last ≤ 31)
HasLinks Portal = Unit {0}

-- rows that rise and adjoin, from this header value on
abbrev pub IsLawfulFrom : ℕ → List Row → Type 0
IsLawfulFrom start [] = Unit {0}
IsLawfulFrom start (row ∷ rows) =
    (row.lower ≡ start) × (row.lower < row.limit) × (row.limit ≤ 65536) × HasLinks row.action × IsLawfulFrom row.limit rows

-- where the rows begin
abbrev pub starts_at : List Row → ℕ
starts_at [] = 0
starts_at (row ∷ rows) = row.lower

abbrev pub IsLawful : List Row → Type 0
IsLawful rows = IsLawfulFrom (starts_at rows) rows
