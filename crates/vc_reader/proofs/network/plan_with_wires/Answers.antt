use Rattle.std.proofs.Common.{◌≡◌, ◌∙◌, List, Ok, ap}
use Rattle.serde_json.specs.Data.{Data}
use Rattle.serde_json.specs.View.{view}
use Rattle.vc_plan.specs.declared.channel.Channel.{Channel}
use Rattle.vc_plan.specs.declared.node_plan.NodePlan.{NodePlan}
use Rattle.vc_plan.specs.declared.plan.Plan.{Plan}
use Rattle.vc_plan.specs.declared.port.Wire.{Wire}
use Rattle.vc_plan.specs.declared.switch_plan.SwitchPlan.{SwitchPlan}
use Rattle.vc_plan.specs.declared.vlink.Vlink.{Vlink}
use Rattle.vc_reader.specs.declared.node.Head.{Head}
use Rattle.vc_reader.specs.declared.word.Word.TheVariants as word
use Rattle.vc_reader.specs.Reading.{◌>>=◌, list_field}
use Rattle.vc_reader.specs.Network.{read_vlink, read_channel}
use Rattle.vc_reader.specs.NetworkText.{read_nodes, plan_with_wires}
use Rattle.vc_reader.proofs.network.plan_with_wires.Goals as goal

module _ (heads : List Head) (switches : List SwitchPlan) (wires : List Wire) (d : Data) where
  abbrev made : List Vlink → List Channel → List NodePlan → Plan
  made vlinks channels nodes = record { version = 2; nodes = nodes; switches = switches; wires = wires; vlinks = vlinks; channels = channels }

  in-turn : (vlinks : List Vlink) (channels : List Channel) (nodes : List NodePlan) →
      list_field word.Vlinks (read_vlink heads) d ≡ Ok vlinks → list_field word.Channels (read_channel heads vlinks) d ≡ Ok channels → read_nodes heads channels d ≡ Ok nodes →
      plan_with_wires heads switches wires d ≡ Ok (made vlinks channels nodes)
  in-turn vlinks channels nodes v c n =
      ap (λ m. m >>= λ vs. list_field word.Channels (read_channel heads vs) d >>= λ cs. read_nodes heads cs d >>= λ ns. Ok (made vs cs ns)) v
      ∙ ap (λ m. m >>= λ cs. read_nodes heads cs d >>= λ ns. Ok (made vlinks cs ns)) c
      ∙ ap (λ m. m >>= λ ns. Ok (made vlinks channels ns)) n

pub returns : goal.returns
returns c =
    rw (c.into_items.ensures, c.into_items-2.ensures)
    (in-turn c.args.heads c.args.switches c.args.wires (view c.args.value.now) c.in_ok-vlinks.vlinks c.in_ok-channels.channels c.in_ok-nodes.nodes
    c.in_ok-vlinks.ensures c.in_ok-channels.ensures c.in_ok-nodes.ensures)
