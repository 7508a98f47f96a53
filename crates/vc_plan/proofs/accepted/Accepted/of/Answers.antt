use Rattle.std.proofs.Common.{refl}
use Rattle.vc_plan.proofs.Acceptance.{accepted}
use Rattle.vc_plan.proofs.accepted.Accepted.of.Goals as goal

pub invariant_of-result : goal.invariant_of-result
invariant_of-result c = accepted c.args.plan c.requires

pub returns : goal.returns
returns c = record { plan = refl; accepted = accepted c.args.plan c.requires }
