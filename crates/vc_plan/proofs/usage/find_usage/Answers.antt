use Rattle.std.proofs.Common.{◌≡◌, ◌<◌, ℕ, length, get_or, arith, ap}
use Rattle.vc_process.specs.Lawful.{Lawfully}
use Rattle.vc_process.specs.Numbering.{written}
use Rattle.vc_plan.specs.declared.node_plan.NodePlan.{NodePlan}
use Rattle.vc_plan.proofs.Indices.{there-at, each-more, each-all}
use Rattle.vc_plan.proofs.usage.find_usage.Goals as goal
use Rattle.vc_plan.proofs.usage.find_usage.Goals.{After-usage_of}

abbrev Keeps : ℕ → NodePlan → Type 0
Keeps k node = Lawfully (written node.process)

item-is : (c : After-usage_of) → c.node-item.result ≡ get_or c.args.plan.now.nodes c.loop-n.n c.node-item.result
item-is c = rw c.as_slice-node-items.ensures at c.node-item.is

within : (c : After-usage_of) → c.loop-n.n < length c.args.plan.now.nodes
within c = let l = ap length c.as_slice-node-items.ensures in omega (arith, l)

pub returns-in-Some-clause-first : goal.returns-in-Some-clause-first
returns-in-Some-clause-first c =
    let d = (goal.at.returns-in-Some-clause-first c).After-usage_of in
    record {
      node = c.node-item.result;
      there = there-at c.args.plan.now.nodes c.loop-n.n c.node-item.result (within d) (item-is d);
      is = rw c.in-Some.is at c.in_ok-name.ensures.usage;
      earlier = c.loop-n.invariant;
    }

pub loop-n-preserved : goal.loop-n-preserved
loop-n-preserved c =
    let d = (goal.at.loop-n-preserved c).After-usage_of in
    let good = rw c.in_default.is at c.in_ok-name.ensures.lawful in
    each-more Keeps c.args.plan.now.nodes c.loop-n.n c.node-item.result (within d) (item-is d) good c.loop-n.invariant

pub returns-clause-lawful : goal.returns-clause-lawful
returns-clause-lawful c =
    let l = ap length c.as_slice-node-items.ensures in
    each-all Keeps c.args.plan.now.nodes c.loop-n.n (omega (arith, l)) c.loop-n.invariant
