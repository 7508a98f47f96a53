-- What a switch does with a packet's headers: interval labelling, header deletion and random headers ("Networks, Routers and
-- Transputers", chapters 1 and 3), and portals (profile).
use Rattle.std.specs.Prelude.{ℕ, ◌≤◌, ◌<◌, Bool, List, [], ◌∷◌, length, Option, Some, None}
use Rattle.vc_labels.specs.declared.row.Row.{Row}
use Rattle.vc_labels.specs.declared.action.Action.{Action}
use Rattle.vc_labels.specs.declared.action.Action.TheVariants.{Out, Portal}
use Rattle.vc_labels.specs.Interval.{action_for}

-- the random headers of an input
pub record Interval : Type 0 where
  pub lower : ℕ
  pub limit : ℕ

pub record SwitchPlan : Type 0 where
  pub table : List Row
  pub random : ℕ → Option Interval  -- of an input link
  pub deletes : ℕ → Bool  -- of an output link

abbrev pub past_portal : Option Action → List ℕ → List ℕ → List ℕ
past_portal (Some Portal) rest all = rest
past_portal (Some (Out first last)) rest all = all
past_portal None rest all = all

-- the stack without the portals in front
abbrev pub without_portals : List Row → List ℕ → List ℕ
without_portals table [] = []
without_portals table (h ∷ hs) = past_portal (action_for table h) (without_portals table hs) (h ∷ hs)

-- the header that an input puts in front: a value of its range, and none where it has no range
abbrev pub IsDrawn : Option Interval → Option ℕ → Type 0
IsDrawn None None = Unit {0}
IsDrawn (Some i) (Some v) = (i.lower ≤ v) × (v < i.limit)
IsDrawn None (Some v) = ⊥
IsDrawn (Some i) None = ⊥

-- the least of them
abbrev pub least_of : Option Interval → Option ℕ
least_of None = None
least_of (Some i) = Some i.lower

abbrev pub behind : Option ℕ → List ℕ → List ℕ
behind None s = s
behind (Some v) s = v ∷ s

-- there is room for it: at most six headers are on the way
abbrev pub HasRoom : Option ℕ → List ℕ → Type 0
HasRoom None s = Unit {0}
HasRoom (Some v) s = length s ≤ 5
