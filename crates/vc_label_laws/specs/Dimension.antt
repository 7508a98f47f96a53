-- Labels by dimension: the switches have coordinates on some axes, and packets with a header want to come to one place among those that
-- wires join. They correct the last axis first, step by step, and turn to an axis only if each later one is right. So there is no circle
-- of dependencies.
use Rattle.std.specs.Prelude.{◌≡◌, ◌≢◌, ◌⊎◌, ℕ, zero, suc, ◌+◌, ◌-◌, ◌<◌, Bool, true, not, [], ◌∷◌, Some, slice_get}
use Rattle.vc_plan.specs.declared.plan.Plan.{Plan}
use Rattle.vc_plan.specs.declared.port.Port.{Port}
use Rattle.vc_plan.specs.declared.port.Spot.{Spot}
use Rattle.vc_plan.specs.declared.port.Spot.TheVariants.{Node, Switch}
use Rattle.vc_plan.specs.declared.vlink.Vlink.{Vlink}
use Rattle.vc_plan.specs.Accepted.{end_of}
use Rattle.vc_plan.specs.Delivery.{IsLabelled}
use Rattle.vc_plan.specs.Dependencies.{HasRanks}
use Rattle.vc_plan.specs.Wires.{across, sending_port}
use Rattle.vc_label_laws.specs.OneHeader.{ArePlain, Everywhere, HasOneHeader, LeadsTo}

-- from one coordinate to the next, towards the one that is wanted
abbrev pub Nearer : ℕ → ℕ → ℕ → Type 0
Nearer from to want = ((from < want) × (to ≡ suc from)) ⊎ ((want < from) × (from ≡ suc to))

-- from switch n to switch m packets with the header h make a step on one axis; each later axis is right, no other coordinate changes, and
-- they want to come to the same place
pub record Step (coordinate : ℕ → ℕ → ℕ) (want : ℕ → ℕ → ℕ → ℕ) (axes n h m : ℕ) : Type 0 where
  pub axis : ℕ
  pub is_axis : axis < axes
  pub later : (i : ℕ) → axis < i → i < axes → coordinate n i ≡ want n h i
  pub same : (i : ℕ) → i < axes → i ≢ axis → coordinate m i ≡ coordinate n i
  pub still : (i : ℕ) → i < axes → want m h i ≡ want n h i
  pub nearer : Nearer (coordinate n axis) (coordinate m axis) (want n h axis)

-- at these switches
pub record IsByDimension (net : Plan) (On : ℕ → Type 0) : Type 0 where
  -- the coordinates of switches, below a bound, and those to which packets with a header go from a switch
  pub axes : ℕ
  pub most : ℕ
  pub coordinate : ℕ → ℕ → ℕ
  pub within : (n i : ℕ) → coordinate n i < most
  pub want : ℕ → ℕ → ℕ → ℕ
  pub plain : ArePlain net
  pub one_header : HasOneHeader net
  pub goes : (n h link m : ℕ) (far : Port) → On n → LeadsTo net n h link far → far.spot ≡ Switch m → Step coordinate want axes n h m

-- such labels have no circle of dependencies, whatever virtual links there are
abbrev pub DimensionIsFree : Type 0
DimensionIsFree = (net : Plan) → IsByDimension net Everywhere → HasRanks net

-- the steps from switch n to where packets with the header h go, on this many axes
abbrev pub steps : (ℕ → ℕ → ℕ) → (ℕ → ℕ → ℕ → ℕ) → ℕ → ℕ → ℕ → ℕ
steps coordinate want zero n h = 0
steps coordinate want (suc k) n h = (coordinate n k - want n h k) + (want n h k - coordinate n k) + steps coordinate want k n h

-- the port is at this node, or at a switch that takes packets with the header h on
abbrev pub IsTaken : (ℕ → ℕ → Bool) → ℕ → ℕ → Spot → Type 0
IsTaken serves node h (Node n) = n ≡ node
IsTaken serves node h (Switch n) = serves n h ≡ true

-- packets with a header go by switches that take them on, to its node alone
pub record TakesOn (net : Plan) (d : IsByDimension net Everywhere) : Type 0 where
  pub node : ℕ → ℕ
  pub serves : ℕ → ℕ → Bool
  pub some_link : (n h : ℕ) → serves n h ≡ true → (link : ℕ) × (far : Port) × LeadsTo net n h link far
  pub on : (n h link : ℕ) (far : Port) → serves n h ≡ true → LeadsTo net n h link far → IsTaken serves (node h) h far.spot
  -- within 31 steps, as in each product of paths of at most 32 switches
  pub near : (n h : ℕ) → serves n h ≡ true → steps d.coordinate d.want d.axes n h < 32
  -- an end sends with the other end's block alone, and to where such packets are taken on
  pub sends : (k : ℕ) (v : Vlink) (a : Bool) → slice_get net.vlinks k ≡ Some v → (end_of v a).route ≡ (end_of v (not a)).block ∷ []
  pub ends : (k : ℕ) (v : Vlink) (a : Bool) → slice_get net.vlinks k ≡ Some v → node (end_of v a).block ≡ (end_of v a).node
  pub begins : (k : ℕ) (v : Vlink) (a : Bool) (far : Port) → slice_get net.vlinks k ≡ Some v → across net.wires (sending_port (end_of v a)) ≡ Some far →
      IsTaken serves (node (end_of v (not a)).block) (end_of v (not a)).block far.spot

-- such labels deliver
abbrev pub DimensionIsLabelled : Type 0
DimensionIsLabelled = (net : Plan) (d : IsByDimension net Everywhere) → TakesOn net d → IsLabelled net net.vlinks
