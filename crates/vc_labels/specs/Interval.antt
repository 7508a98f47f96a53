-- Interval labelling ("Networks, Routers and Transputers", chapter 1): a row has a half-open interval of header values, and a
-- header's action is that of the one row that holds it.
use Rattle.std.specs.Prelude.{◌≡◌, ℕ, Bool, IsTrue, ◌&&◌, List, [], ◌∷◌, nat_lt, nat_le, if◌then◌else◌, Option, Some, None, slice_get}
use Rattle.vc_labels.specs.declared.row.Row.{Row}
use Rattle.vc_labels.specs.declared.action.Action.{Action}

-- the row's interval has this header
abbrev pub holds : Row → ℕ → Bool
holds row h = nat_le row.lower h && nat_lt h row.limit

-- the action of the first row that holds a header
abbrev pub action_for : List Row → ℕ → Option Action
action_for [] h = None
action_for (row ∷ rows) h = if holds row h then Some row.action else action_for rows h

-- the action of a row, if it holds the header
abbrev pub action_at : Option Row → ℕ → Option Action
action_at None h = None
action_at (Some row) h = if holds row h then Some row.action else None

abbrev pub NoRowHolds : List Row → ℕ → Type 0
NoRowHolds rows h = (k : ℕ) (row : Row) → slice_get rows k ≡ Some row → IsTrue (holds row h) → ⊥

-- one row holds the header, no other does, and this is its action
pub record IsOnlyAction (rows : List Row) (h : ℕ) (action : Action) : Type 0 where
  pub at : ℕ
  pub row : Row
  pub there : slice_get rows at ≡ Some row
  pub holds_it : IsTrue (holds row h)
  pub is : row.action ≡ action
  pub only : (k : ℕ) (other : Row) → slice_get rows k ≡ Some other → IsTrue (holds other h) → k ≡ at
