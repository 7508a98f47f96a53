-- What the channels of a plan are called, and where they are.
use Rattle.std.specs.Prelude.{◌≡◌, ℕ, not, List, length, Option, Some, None, slice_get}
use Rattle.std.specs.String.{string_bytes}
use Rattle.vc_plan.specs.declared.channel.Channel.{Channel}
use Rattle.vc_plan.specs.declared.plan.Plan.{Plan}
use Rattle.vc_accepted.specs.NetworkOf.{network_of}
use Rattle.vc_network.specs.Plan as network
use Rattle.vc_network.specs.Plan.{home, Way, Inside, end_of, virtual_link}
use Rattle.vc_network.specs.Views.{source_node, sink_node}
use Rattle.vc_core.specs.declared.channels.BlockAt.{BlockAt}
use Rattle.vc_core.specs.declared.channels.ChannelInfo.{ChannelInfo}
use Rattle.vc_core.specs.declared.channels.Ends.{Ends}

-- the block of an end
abbrev pub end_block : network.End → BlockAt
end_block e = record { node = e.node; block = e.block }

-- the ends of the virtual link that a channel of this home is on: there is none inside a node
abbrev pub ends_at : network.Plan → network.Home → Option Ends
ends_at plan (Way v ab) = Some (record { from = end_block (end_of (virtual_link plan v) ab); to = end_block (end_of (virtual_link plan v) (not ab)) })
ends_at plan (Inside n) = None

-- this is channel c of the plan
pub record IsChannelOf (p : Plan) (c : ℕ) (info : ChannelInfo) : Type 0 where
  pub channel : Channel
  pub here : slice_get p.channels c ≡ Some channel
  pub name : string_bytes info.name ≡ channel.name
  pub kind : info.kind ≡ channel.kind
  pub source : info.source ≡ source_node (network_of p) (home (network_of p) c)
  pub sink : info.sink ≡ sink_node (network_of p) (home (network_of p) c)
  pub ends : info.ends ≡ ends_at (network_of p) (home (network_of p) c)

-- these are the channels of the plan, in their order
pub record AreChannelsOf (p : Plan) (infos : List ChannelInfo) : Type 0 where
  pub count : length infos ≡ length p.channels
  pub each : (c : ℕ) (info : ChannelInfo) → slice_get infos c ≡ Some info → IsChannelOf p c info
