-- Where a body's front header stands: behind portals, the first header, where it is there and has a group.
use Rattle.std.specs.Prelude.{ℕ, ◌+◌, ◌*◌, List, [], ◌∷◌, Option, Some, None}
use Rattle.vc_labels.specs.declared.row.Row.{Row}
use Rattle.vc_labels.specs.declared.action.Action.{Action}
use Rattle.vc_labels.specs.declared.action.Action.TheVariants.{Out, Portal}
use Rattle.vc_labels.specs.Interval.{action_for}
use Rattle.vc_switch.specs.declared.front.Front.{Front}

-- a portal's header stands before it
abbrev pub behind_portal : Option Front → Option Front
behind_portal None = None
behind_portal (Some f) = Some (record f { at = f.at + 2 })

-- by the action for the first header; `later` is what comes of the headers behind it
abbrev pub front_by : Option Action → Option Front → Option Front
front_by None later = None
front_by (Some Portal) later = behind_portal later
front_by (Some (Out first last)) later = Some (record { at = 0; first = first; last = last })

abbrev pub front_of : List Row → List ℕ → Option Front
front_of table [] = None
front_of table (high ∷ []) = None
front_of table (high ∷ low ∷ rest) = front_by (action_for table (256 * high + low)) (front_of table rest)
