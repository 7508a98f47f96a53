use Rattle.std.proofs.Common.{◌≡◌, ◌<◌, length, get_or, arith, ap}
use Rattle.vc_plan.specs.Accepted.{IsLawfulSwitch}
use Rattle.vc_plan.proofs.Indices.{there-at, each-more, each-all}
use Rattle.vc_plan.proofs.checker.find_table.Goals as goal
use Rattle.vc_plan.proofs.checker.find_table.Goals.{After-fault_of_switch}

item-is : (c : After-fault_of_switch) → c.plan-item.result ≡ get_or c.args.net.now.switches c.loop-n.n c.plan-item.result
item-is c = rw c.as_slice-plan-items.ensures at c.plan-item.is

within : (c : After-fault_of_switch) → c.loop-n.n < length c.args.net.now.switches
within c = let l = ap length c.as_slice-plan-items.ensures in omega (arith, l)

pub returns-in-Some : goal.returns-in-Some
returns-in-Some c =
    let d = (goal.at.returns-in-Some c).After-fault_of_switch in
    record {
      plan = c.plan-item.result;
      there = there-at c.args.net.now.switches c.loop-n.n c.plan-item.result (within d) (item-is d);
      is = c.in-Some.ensures;
      earlier = c.loop-n.invariant;
    }

pub loop-n-preserved : goal.loop-n-preserved
loop-n-preserved c =
    let d = (goal.at.loop-n-preserved c).After-fault_of_switch in
    let good = rw c.in_default.is at c.fault_of_switch.ensures in
    each-more (λ k plan. IsLawfulSwitch c.args.net.now k plan) c.args.net.now.switches c.loop-n.n c.plan-item.result (within d) (item-is d) good c.loop-n.invariant

pub returns : goal.returns
returns c =
    let l = ap length c.as_slice-plan-items.ensures in
    each-all (λ k plan. IsLawfulSwitch c.args.net.now k plan) c.args.net.now.switches c.loop-n.n (omega (arith, l)) c.loop-n.invariant
