use Rattle.std.proofs.Common.{◌∙◌, sym}
use Rattle.vc_plan.proofs.Limits.{keeps, names-fit}
use Rattle.vc_plan.proofs.checker.find_cause_of_use.Goals as goal

pub find_usage-requires-clause-names : goal.find_usage-requires-clause-names
find_usage-requires-clause-names c = names-fit c.args.plan.now (keeps c.args.plan.now c.requires.before.before.before.before.before.limits)

pub returns-in-None-clause-passes : goal.returns-in-None-clause-passes
returns-in-None-clause-passes c = record {
  before = record {
    before = record { before = c.requires; apart = rw c.as_slice.ensures at c.in_default.ensures };
    channels = sym c.in_ok-chan.ensures ∙ c.in_default-2.is;
  };
  lawful = rw c.in-None.is at c.in_ok-node.ensures.lawful;
}

pub returns-in-Some-3-clause-cause : goal.returns-in-Some-3-clause-cause
returns-in-Some-3-clause-cause c = (
  record {
    before = record { before = c.requires; apart = rw c.as_slice.ensures at c.in_default.ensures };
    channels = sym c.in_ok-chan.ensures ∙ c.in_default-2.is;
  },
  rw c.in-Some-3.is at c.in_ok-node.ensures.first,
)
