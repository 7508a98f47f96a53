-- What the channels of a plan are called, and where they are.
use Rattle.std.specs.Prelude.{◌≡◌}
use Rattle.std.specs.String.{string_bytes}
use Rattle.vc_plan.specs.declared.channel.Channel.{Channel}
use Rattle.vc_plan.specs.declared.plan.Plan.{Plan}
use Rattle.vc_accepted.specs.NetworkOf.{network_of, home_in}
use Rattle.vc_network.specs.Views.{source_node, sink_node}
use Rattle.vc_core.specs.declared.channels.ChannelInfo.{ChannelInfo}
use Rattle.vc_core.specs.Channels.{ends_at}

-- the channel's name and kind, the node that outputs on it, the one that inputs, and the ends of its virtual link
pub record IsInfoOf (p : Plan) (x : Channel) (info : ChannelInfo) : Type 0 where
  pub name : string_bytes info.name ≡ x.name
  pub kind : info.kind ≡ x.kind
  pub source : info.source ≡ source_node (network_of p) (home_in x)
  pub sink : info.sink ≡ sink_node (network_of p) (home_in x)
  pub ends : info.ends ≡ ends_at (network_of p) (home_in x)
