-- What a refusal says is right: a plan that is refused is none that may be accepted, and a path that is shown leads astray.
use Rattle.std.specs.Prelude.{◌≡◌, ◌≢◌, List}
use Rattle.vc_plan.specs.declared.check_refused.CheckRefused.{CheckRefused}
use Rattle.vc_plan.specs.declared.check_refused.CheckRefused.TheVariants as why
use Rattle.vc_plan.specs.declared.labelling.FaultyPath.{FaultyPath}
use Rattle.vc_plan.specs.declared.plan.Plan.{Plan}
use Rattle.vc_plan.specs.declared.vlink.Vlink.{Vlink}
use Rattle.vc_plan.specs.Accepted.{IsAccepted}
use Rattle.vc_plan.specs.Check.{IsCause}
use Rattle.vc_plan.specs.Delivery.{IsLabelled}
use Rattle.vc_plan.specs.Labelling.{IsFirstFault}

pub record RefusalsAreRight : Type 0 where
  -- no plan has a cause, but want of memory, and may be accepted
  pub refuted : (p : Plan) (cause : CheckRefused) → cause ≢ why.Memory → IsCause p cause → IsAccepted p → ⊥
  -- where some path is the first that leads astray, the labelling does not take every packet to its end
  pub astray : (p : Plan) (vlinks : List Vlink) (f : FaultyPath) → IsFirstFault p vlinks f → IsLabelled p vlinks → ⊥
  -- and no other path is
  pub one : (p : Plan) (vlinks : List Vlink) (f g : FaultyPath) → IsFirstFault p vlinks f → IsFirstFault p vlinks g → f ≡ g
