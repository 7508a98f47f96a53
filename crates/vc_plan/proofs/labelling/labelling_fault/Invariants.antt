use Rattle.std.proofs.Common.{◌≡◌, ℕ, ◌<◌, Some}
use Rattle.std.specs.Prelude.{slice_get}
use Rattle.vc_plan.specs.declared.vlink.Vlink.{Vlink}
use Rattle.vc_plan.specs.Delivery.{IsLabelledLink}
use Rattle.vc_plan.specs.Private.Following.{AreSummaries}
use Rattle.vc_plan.proofs.labelling.labelling_fault.Given as goal

abbrev pub invariant-loop-k : goal.invariant-loop-k
invariant-loop-k l = record {
  known : AreSummaries l.net l.known.items;
  labelled : (j : ℕ) (v : Vlink) → j < l.k → slice_get l.vlinks j ≡ Some v
      → IsLabelledLink l.net v;
}
