use Rattle.vc_plan.specs.Wires.{IsWired}
use Rattle.vc_plan.proofs.Limits.{limits-fit}
use Rattle.vc_plan.proofs.checker.find_cause_of_paths.Goals as goal

pub labelling_fault-requires-clause-limits : goal.labelling_fault-requires-clause-limits
labelling_fault-requires-clause-limits c = rw c.in_ok-searched.ensures (limits-fit c.args.plan.now c.requires.before.before.before.before.limits)

pub labelling_fault-requires-clause-wired : goal.labelling_fault-requires-clause-wired
labelling_fault-requires-clause-wired c =
    let wired : IsWired c.args.plan.now = λ n k plan row is at. (c.requires.tables n plan is).wired k row at in
    rw c.in_ok-searched.ensures wired

pub find_cause_of_use-requires : goal.find_cause_of_use-requires
find_cause_of_use-requires c = record { before = c.requires; labelled = rw (c.in-None.is, c.as_slice.ensures, c.in_ok-searched.ensures) at c.in_ok-found.ensures.labelled }
