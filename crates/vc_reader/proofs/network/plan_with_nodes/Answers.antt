use Rattle.std.proofs.Common.{◌≡◌, ◌∙◌, ℕ, List, Result, Ok, sym, ap, subst}
use Rattle.serde_json.specs.Data.{Data}
use Rattle.serde_json.specs.View.{view}
use Rattle.vc_plan.specs.declared.plan.Plan.{Plan}
use Rattle.vc_plan.specs.declared.port.Wire.{Wire}
use Rattle.vc_plan.specs.declared.switch_plan.SwitchPlan.{SwitchPlan}
use Rattle.vc_reader.specs.declared.fault.Fault.{Fault}
use Rattle.vc_reader.specs.declared.node.Head.{Head}
use Rattle.vc_reader.specs.declared.word.Word.TheVariants as word
use Rattle.vc_reader.specs.Reading.{◌>>=◌, list_field}
use Rattle.vc_reader.specs.Private.Reading.{Gives}
use Rattle.vc_reader.specs.Network.{read_switch, read_wire}
use Rattle.vc_reader.specs.NetworkText.{plan_with_wires, plan_with_nodes}
use Rattle.vc_reader.proofs.network.plan_with_nodes.Goals as goal

in-turn : (version : ℕ) (heads : List Head) (d : Data) (switches : List SwitchPlan) (wires : List Wire) →
    list_field word.Switches (read_switch version heads) d ≡ Ok switches → list_field word.Wires (λ _. read_wire heads switches) d ≡ Ok wires →
    plan_with_nodes version heads d ≡ plan_with_wires heads switches wires d
in-turn version heads d switches wires s w =
    ap (λ m. m >>= λ ss. list_field word.Wires (λ _. read_wire heads ss) d >>= λ ws. plan_with_wires heads ss ws d) s
    ∙ ap (λ m. m >>= λ ws. plan_with_wires heads switches ws d) w

pub returns : goal.returns
returns c =
    subst (λ (m : Result Plan Fault). Gives (λ x. x) c.plan_with_wires.result m)
    (sym (in-turn c.args.version c.args.heads (view c.args.value.now) c.in_ok-switches.switches c.in_ok-wires.wires c.in_ok-switches.ensures c.in_ok-wires.ensures))
    (rw c.into_items.ensures at c.plan_with_wires.ensures)
