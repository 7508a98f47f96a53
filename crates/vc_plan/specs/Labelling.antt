-- The first virtual link, and its first way, whose packets the labels can lead astray.
use Rattle.std.specs.Prelude.{◌≡◌, ℕ, ◌<◌, Bool, true, false, List, Some, slice_get}
use Rattle.vc_plan.specs.declared.plan.Plan.{Plan}
use Rattle.vc_plan.specs.declared.vlink.End.{End}
use Rattle.vc_plan.specs.declared.vlink.Vlink.{Vlink}
use Rattle.vc_plan.specs.declared.labelling.FaultyPath.{FaultyPath}
use Rattle.vc_plan.specs.Delivery.{DeliversTo, IsLabelledLink}
use Rattle.vc_plan.specs.Faults.{IsLeastFault}
use Rattle.vc_plan.specs.Wires.{sending_port}

-- the fault's path begins at this end's sending port, and none from there to the other end is before it
pub record IsFaultOfWay (net : Plan) (from to : End) (f : FaultyPath) : Type 0 where
  pub start : f.start ≡ sending_port from
  pub least : IsLeastFault net from to f.hops f.last f.value f.fault

-- way ab before ba
abbrev pub IsFaultOfLink : Plan → Vlink → Bool → FaultyPath → Type 0
IsFaultOfLink net v true f = IsFaultOfWay net v.a v.b f
IsFaultOfLink net v false f = DeliversTo net v.a v.b × IsFaultOfWay net v.b v.a f

pub record IsFirstFault (net : Plan) (vlinks : List Vlink) (f : FaultyPath) : Type 0 where
  pub vlink : Vlink
  pub there : slice_get vlinks f.vlink ≡ Some vlink
  pub earlier : (k : ℕ) (v : Vlink) → k < f.vlink → slice_get vlinks k ≡ Some v → IsLabelledLink net v
  pub fault : IsFaultOfLink net vlink f.from_a f
