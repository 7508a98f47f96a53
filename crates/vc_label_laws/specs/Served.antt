-- Labels that take packets with a header nearer to the header's node at each hop. So every path delivers.
use Rattle.std.specs.Prelude.{◌≡◌, ℕ, suc, ◌<◌, ◌≤◌, Bool, true, not, [], ◌∷◌, Some, slice_get}
use Rattle.vc_plan.specs.declared.plan.Plan.{Plan}
use Rattle.vc_plan.specs.declared.port.Port.{Port}
use Rattle.vc_plan.specs.declared.port.Spot.{Spot}
use Rattle.vc_plan.specs.declared.port.Spot.TheVariants.{Node, Switch}
use Rattle.vc_plan.specs.declared.vlink.Vlink.{Vlink}
use Rattle.vc_plan.specs.Accepted.{end_of}
use Rattle.vc_plan.specs.Delivery.{IsLabelled}
use Rattle.vc_plan.specs.Wires.{across, sending_port}
use Rattle.vc_label_laws.specs.OneHeader.{ArePlain, LeadsTo}

-- the port is at this node; or at a switch that takes packets with the header h on, and after at most so many hops
abbrev pub IsOnWay : (ℕ → ℕ → Bool) → (ℕ → ℕ → ℕ) → ℕ → ℕ → ℕ → Spot → Type 0
IsOnWay serves left node h most (Node n) = n ≡ node
IsOnWay serves left node h most (Switch n) = (serves n h ≡ true) × (left n h ≤ most)

-- packets with a header come to its node
pub record IsServed (net : Plan) : Type 0 where
  -- the node of a header, the switches that take packets with it there, and after how many hops at most
  pub node : ℕ → ℕ
  pub serves : ℕ → ℕ → Bool
  pub left : ℕ → ℕ → ℕ
  pub some_left : (n h : ℕ) → serves n h ≡ true → 0 < left n h
  -- by some link, and by each one nearer
  pub some_link : (n h : ℕ) → serves n h ≡ true → (link : ℕ) × (far : Port) × LeadsTo net n h link far
  pub on : (n h link most : ℕ) (far : Port) → serves n h ≡ true → left n h ≤ suc most → LeadsTo net n h link far →
      IsOnWay serves left (node h) h most far.spot
  -- an end sends with the other end's block alone, and to where such packets are taken on
  pub sends : (k : ℕ) (v : Vlink) (a : Bool) → slice_get net.vlinks k ≡ Some v → (end_of v a).route ≡ (end_of v (not a)).block ∷ []
  pub ends : (k : ℕ) (v : Vlink) (a : Bool) → slice_get net.vlinks k ≡ Some v → node (end_of v a).block ≡ (end_of v a).node
  pub begins : (k : ℕ) (v : Vlink) (a : Bool) (far : Port) → slice_get net.vlinks k ≡ Some v → across net.wires (sending_port (end_of v a)) ≡ Some far →
      IsOnWay serves left (node (end_of v (not a)).block) (end_of v (not a)).block 32 far.spot

-- such labels deliver
abbrev pub ServedIsLabelled : Type 0
ServedIsLabelled = (net : Plan) → ArePlain net → IsServed net → IsLabelled net net.vlinks
