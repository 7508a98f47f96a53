-- The dependencies among the ports of switches, by the numbers of the ports.
use Rattle.std.specs.Prelude.{◌≡◌, ◌⊎◌, ℕ, ◌+◌, ◌*◌, ◌/◌, ◌%◌, ◌<◌, ◌&&◌, nat_lt, List, [], length, Option, Some, None, slice_get, slice_index_or, if◌then◌else◌}
use Rattle.std.specs.List.{Contains}
use Rattle.std.specs.Global.{Vec}
use Rattle.vc_plan.specs.declared.plan.Plan.{Plan}
use Rattle.vc_plan.specs.declared.port.Spot.{Spot}
use Rattle.vc_plan.specs.declared.port.Spot.TheVariants.{Node, Switch}
use Rattle.vc_plan.specs.declared.port.Port.{Port}
use Rattle.vc_plan.specs.Dependencies.{DependsOn}

abbrev pub port_number_at : Spot → ℕ → Option ℕ
port_number_at (Node n) link = None
port_number_at (Switch n) link = if nat_lt n 32 && nat_lt link 32 then Some (n * 32 + link) else None

-- the number of a switch's port, and the port of a number
abbrev pub port_number : Port → Option ℕ
port_number p = port_number_at p.spot p.link

abbrev pub port_at : ℕ → Port
port_at i = record { spot = Switch (i / 32); link = i % 32 }

abbrev pub items_of : Option (Vec ℕ) → List ℕ
items_of None = []
items_of (Some row) = row.items

-- the numbers of the ports on which port i depends
abbrev pub row : List (Vec ℕ) → ℕ → List ℕ
row rows i = items_of (slice_get rows i)

-- each number is below those after it
abbrev pub IsRising : List ℕ → Type 0
IsRising xs = (k m : ℕ) → k < m → m < length xs → slice_index_or xs k 0 < slice_index_or xs m 0

-- so is each row
abbrev pub AllRise : List (Vec ℕ) → Type 0
AllRise rows = (i : ℕ) → IsRising (row rows i)

abbrev pub HasEdge : List (Vec ℕ) → ℕ → ℕ → Type 0
HasEdge rows i j = Contains (row rows i) j

-- a list has one number more, unless it had it, and rises if it rose
pub record Gains (old new : List ℕ) (x : ℕ) : Type 0 where
  pub keeps : (y : ℕ) → Contains old y → Contains new y
  pub has : Contains new x
  pub only : (y : ℕ) → Contains new y → Contains old y ⊎ (y ≡ x)
  pub rising : IsRising old → IsRising new

-- the rows have the edge from one port to another too, where both are of switches
pub record GainEdge (old new : List (Vec ℕ)) (a b : Port) : Type 0 where
  pub many : length new ≡ length old
  pub keeps : (i j : ℕ) → HasEdge old i j → HasEdge new i j
  pub has : (i j : ℕ) → port_number a ≡ Some i → port_number b ≡ Some j → HasEdge new i j
  pub only : (i j : ℕ) → HasEdge new i j → HasEdge old i j ⊎ ((port_number a ≡ Some i) × (port_number b ≡ Some j))
  pub rising : AllRise old → AllRise new

-- each edge is a dependency, and the rows rise
pub record AreRight (net : Plan) (rows : List (Vec ℕ)) : Type 0 where
  pub many : length rows ≡ 1024
  pub right : (i j : ℕ) → HasEdge rows i j → (a : Port) × (b : Port) × DependsOn net a b × (port_number a ≡ Some i) × (port_number b ≡ Some j)
  pub rising : AllRise rows

-- an edge for each dependency of a switch's port, and no others, in rows that rise
pub record AreDependencies (net : Plan) (rows : List (Vec ℕ)) : Type 0 where
  pub many : length rows ≡ 1024
  pub small : (i j : ℕ) → HasEdge rows i j → j < 1024
  pub right : (i j : ℕ) → HasEdge rows i j → DependsOn net (port_at i) (port_at j)
  pub all : (a b : Port) (i j : ℕ) → DependsOn net a b → port_number a ≡ Some i → port_number b ≡ Some j → HasEdge rows i j
  pub rising : AllRise rows
