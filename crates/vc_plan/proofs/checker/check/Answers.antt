use Rattle.vc_plan.proofs.Refutations.{only_memory}
use Rattle.vc_plan.proofs.checker.check.Goals as goal

pub returns-in-Ok-Some-clause-exact : goal.returns-in-Ok-Some-clause-exact
returns-in-Ok-Some-clause-exact c = λ acc. only_memory c.args.plan c.in-Ok-Some.why (rw c.in-Ok-Some.field-0-is at c.in-Ok-Some.ensures.cause) acc
