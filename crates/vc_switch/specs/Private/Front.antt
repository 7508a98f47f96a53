-- Where a body's front header stands: behind portals, the first header, where it is there and has a group.
use Rattle.std.specs.Prelude.{◌≡◌, ℕ, ◌+◌, Bool, true, false, List, [], ◌∷◌, ◌++◌, drop, Some}
use Rattle.vc_labels.specs.declared.row.Row.{Row}
use Rattle.vc_labels.specs.declared.action.Action.TheVariants.{Out}
use Rattle.vc_labels.specs.Interval.{action_for}
use Rattle.vc_packets.specs.Headers.{spelled}
use Rattle.vc_switch.specs.Forward.{without_portals}
use Rattle.vc_switch.specs.declared.front.Front.{Front}

-- where the body begins that leaves by a link
abbrev pub start_of : Bool → Front → ℕ
start_of true f = f.at + 2
start_of false f = f.at

-- behind portals stands a header, and this is its group
pub record HasFront (table : List Row) (b : List ℕ) (f : Front) : Type 0 where
  pub stack : List ℕ
  pub header : ℕ
  pub rest : List ℕ
  pub is : b ≡ spelled stack ++ rest
  pub front : without_portals table stack ≡ header ∷ []
  pub group : action_for table header ≡ Some (Out f.first f.last)
  pub left : drop f.at b ≡ spelled (header ∷ []) ++ rest
