-- What a network in a state has done on its channels.
use Rattle.std.specs.Prelude.{ℕ, suc, List, [], ◌∷◌, length}
use Rattle.vc_plan.specs.declared.channel.Channel.{Channel}
use Rattle.vc_plan.specs.declared.plan.Plan.{Plan}
use Rattle.vc_accepted.specs.NetworkOf.{network_of}
use Rattle.vc_network.specs.Views.{view}
use Rattle.vc_core.specs.PossibleEvents.{NetworkState}
use Rattle.vc_text.specs.Traffic.{ChannelTraffic}

-- channel c, by its view
abbrev pub channel_of : Plan → NetworkState → ℕ → Channel → ChannelTraffic
channel_of p x c k = record {
  name = k.name;
  kind = k.kind;
  offered = length (view (network_of p) x c).offered;
  taken = (view (network_of p) x c).taken;
  finished = (view (network_of p) x c).finished;
  is_stopped = (view (network_of p) x c).stopped;
}

-- these channels, which are numbered from c on
abbrev pub channels_from : Plan → NetworkState → ℕ → List Channel → List ChannelTraffic
channels_from p x c [] = []
channels_from p x c (k ∷ ks) = channel_of p x c k ∷ channels_from p x (suc c) ks

-- all channels of the plan
abbrev pub channels_of : Plan → NetworkState → List ChannelTraffic
channels_of p x = channels_from p x 0 p.channels
