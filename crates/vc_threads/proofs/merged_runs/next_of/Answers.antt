use Rattle.vc_threads.proofs.SameStamps.{found_with}
use Rattle.vc_threads.proofs.merged_runs.next_of.Goals as goal

pub returns-in-Some-clause-first : goal.returns-in-Some-clause-first
returns-in-Some-clause-first c =
    found_with c.args.runs.now c.args.fronts.now c.args.in_order c.args.from c.args.stamp c.in-Some.k c.requires.count c.if-in_order.true (c.requires.order c.if-in_order.true) c.requires.passed c.in-Some.ensures
