use Rattle.std.proofs.Common.{sym, subst}
use Rattle.vc_cycles.specs.Private.Graph.{AreDependencies}
use Rattle.vc_cycles.specs.Private.Round.{AreRows}
use Rattle.vc_cycles.proofs.Starts.{free, least_cycle, none_more, some_more}
use Rattle.vc_cycles.proofs.Ranks.{rows_are}
use Rattle.vc_cycles.proofs.cycle.find_cycle.Goals as goal

pub find_round-requires-clause-rows : goal.find_round-requires-clause-rows
find_round-requires-clause-rows c = subst AreRows (sym c.deref.ensures.value) (rows_are c.args.accepted.now c.in_ok-rows.rows.items c.loop-start.invariant.rows)

pub loop-start-preserved : goal.loop-start-preserved
loop-start-preserved c = record {
  rows = c.loop-start.invariant.rows;
  none = none_more c.in_ok-rows.rows.items c.loop-start.start c.loop-start.least c.in_ok-found.found c.shorter-least.result c.shorter-least.ensures.none c.loop-start.invariant.none
      (rw c.deref.ensures.value at c.in_ok-found.ensures.none);
  some = some_more c.args.accepted.now c.plan.ensures.accepted c.in_ok-rows.rows.items c.loop-start.invariant.rows c.loop-start.start c.loop-start-test.true c.loop-start.least c.in_ok-found.found
      c.shorter-least.result c.shorter-least.ensures.some c.loop-start.invariant.some c.loop-start.invariant.none
      (c.in_ok-found.ensures.some c.args.accepted.now c.plan.ensures.accepted (subst (AreDependencies c.args.accepted.now) (sym c.deref.ensures.value) c.loop-start.invariant.rows))
      (rw c.deref.ensures.value at c.in_ok-found.ensures.none);
}

pub returns-clause-free : goal.returns-clause-free
returns-clause-free c = free c.args.accepted.now c.plan.ensures.accepted c.in_ok-rows.rows.items c.loop-start.start c.loop-start.least c.loop-start-test.false c.loop-start.invariant.rows c.loop-start.invariant.none

pub returns-clause-cycle : goal.returns-clause-cycle
returns-clause-cycle c = least_cycle c.args.accepted.now c.plan.ensures.accepted c.loop-start.start c.loop-start.least c.loop-start-test.false c.loop-start.invariant.some
