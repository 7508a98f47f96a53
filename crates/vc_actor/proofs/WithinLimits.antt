-- What an accepted plan's limits say of its nodes.
use Rattle.std.proofs.Common.{◌≡◌, ℕ, ◌≤◌, length, slice_get, true, Some, arith}
use Rattle.std.proofs.lemmas.Bool.Decides.{nat_tests}
use Rattle.vc_process.specs.InOrder.{number}
use Rattle.vc_process.specs.Numbering.{written}
use Rattle.vc_occam.specs.Opening.{Fits}
use Rattle.vc_process.specs.Lawful.{Lawfully}
use Rattle.vc_plan.specs.declared.node_plan.NodePlan.{NodePlan}
use Rattle.vc_plan.specs.declared.plan.Plan.{Plan}
use Rattle.vc_plan.specs.Accepted.{IsAccepted}
use Rattle.vc_plan.specs.Limits.{kinds_of, parts_ok, process_names}
use Rattle.vc_plan.proofs.Limits.{names-fit, passes}
use Rattle.vc_accepted.proofs.Limits.{kept}

few_parts : (node : NodePlan) → parts_ok node ≡ true → (number node.process).sites ≤ 65536
few_parts node h = grind (arith, nat_tests)

-- a node's process can be run: it uses its channels and variables lawfully and is not too long, and its names fit the node's variables
pub record CanRun (node : NodePlan) : Type 0 where
  pub lawful : Lawfully (written node.process)
  pub sites : (number node.process).sites ≤ 65536
  pub fits : Fits (kinds_of node.vars) node.process

pub node_runs : (p : Plan) → IsAccepted p → (n : ℕ) (node : NodePlan) → slice_get p.nodes n ≡ Some node → CanRun node
node_runs p acc n node e =
    let k = kept p acc in
    record {
      lawful = acc.lawful_use n node e;
      sites = few_parts node (passes parts_ok p.nodes n node k.parts e);
      fits = (length p.channels, passes (process_names p) p.nodes n node (names-fit p k) e);
    }
