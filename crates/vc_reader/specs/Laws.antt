-- What holds of each plan that a value means.
use Rattle.std.specs.Prelude.{◌++◌, map, Bool, true, false}
use Rattle.std.specs.List.{AllByRecursion, IsDistinct}
use Rattle.std.specs.Str.{bytes_eq}
use Rattle.vc_plan.specs.declared.channel.Channel.{Channel}
use Rattle.vc_plan.specs.declared.limit_word.LimitWord.{LimitWord}
use Rattle.vc_plan.specs.declared.limit_word.LimitWord.TheVariants.{Version, Message, Number, Name}
use Rattle.vc_plan.specs.declared.node_plan.NodePlan.{NodePlan}
use Rattle.vc_plan.specs.declared.node_plan.Variable.{Variable}
use Rattle.vc_plan.specs.declared.plan.Plan.{Plan}
use Rattle.vc_plan.specs.declared.switch_plan.SwitchPlan.{SwitchPlan}
use Rattle.vc_plan.specs.declared.vlink.Vlink.{Vlink}

-- a plan that was read from a network file is never refused by these limits: where it breaks limits, the first is none of them
abbrev pub refuses_no_file : LimitWord → Bool
refuses_no_file Version = true
refuses_no_file Message = true
refuses_no_file Number = true
refuses_no_file Name = true
refuses_no_file limit = false

-- no two nodes or switches have one name, no two virtual links, no two channels, and no two variables of one node
pub record HasDistinctNames (p : Plan) : Type 0 where
  pub places : IsDistinct bytes_eq (map (λ (n : NodePlan). n.name) p.nodes ++ map (λ (s : SwitchPlan). s.name) p.switches)
  pub vlinks : IsDistinct bytes_eq (map (λ (v : Vlink). v.name) p.vlinks)
  pub channels : IsDistinct bytes_eq (map (λ (c : Channel). c.name) p.channels)
  pub variables : AllByRecursion (λ (n : NodePlan). IsDistinct bytes_eq (map (λ (v : Variable). v.name) n.vars)) p.nodes
