-- Where all processes of a plan fit on one node.
use Rattle.std.specs.Prelude.{◌≡◌, ◌≢◌, ◌↔◌, ⊤, suc, Bool, true, ◌&&◌, List, length, nat_le}
use Rattle.std.specs.List.{list_all}
use Rattle.vc_plan.specs.Accepted.{IsAccepted}
use Rattle.vc_plan.specs.OneNode.{all_sites, all_vars, IsOneNodeOf}
use Rattle.vc_plan.specs.declared.node_plan.NodePlan.{NodePlan}
use Rattle.vc_plan.specs.Check.{IsCause}
use Rattle.vc_plan.specs.declared.check_refused.CheckRefused.{CheckRefused}
use Rattle.vc_plan.specs.declared.check_refused.CheckRefused.TheVariants as why
use Rattle.vc_plan.specs.declared.limit_word.LimitWord.{LimitWord}
use Rattle.vc_plan.specs.declared.limit_word.LimitWord.TheVariants as word
use Rattle.vc_plan.specs.declared.plan.Plan.{Plan}
use Rattle.vc_process.specs.Numbering.{written}
use Rattle.vc_process.specs.ProcessLimits.{depth_within}

-- a node has at most 64 variables and 4,096 processes, the PAR of all among them, and processes nest at most 32 deep, the PAR too
abbrev pub fits_one_node : List NodePlan → Bool
fits_one_node ns = nat_le (length (all_vars ns)) 64 && (nat_le (suc (all_sites ns)) 4096 && list_all (λ (n : NodePlan). depth_within (written n.process) 31) ns)

-- exactly there the plan of one node is accepted as the plan is
abbrev pub OneNodeIsAccepted : Type 0
OneNodeIsAccepted = (p one : Plan) → IsAccepted p → IsOneNodeOf p one → IsAccepted one ↔ (fits_one_node p.nodes ≡ true)

-- more variables than a node may have, a process that nests too deep, or too many processes
abbrev pub IsSizeLimit : LimitWord → Type 0
IsSizeLimit word.Vars = ⊤
IsSizeLimit word.Depth = ⊤
IsSizeLimit word.Parts = ⊤
IsSizeLimit other = ⊥

abbrev pub IsSize : CheckRefused → Type 0
IsSize (why.Limit word) = IsSizeLimit word
IsSize other = ⊥

-- for nothing else it is refused, but for want of memory
abbrev pub OnlySizesRefuseIt : Type 0
OnlySizesRefuseIt = (p one : Plan) (cause : CheckRefused) → IsAccepted p → IsOneNodeOf p one → IsCause one cause → cause ≢ why.Memory → IsSize cause
