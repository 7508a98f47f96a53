-- What a view of a channel shows.
use Rattle.std.specs.Prelude.{◌≡◌, List, map}
use Rattle.vc_blocks.specs.Messages.{listed}
use Rattle.vc_core.specs.PossibleEvents.{NetworkState}
use Rattle.vc_plan.specs.declared.plan.Plan.{Plan}
use Rattle.vc_text.specs.ChannelStates.{channels_of}
use Rattle.vc_text.specs.Traffic.{ChannelTraffic}
use Rattle.vc_text.specs.declared.traffic.ChannelView.{ChannelView}

abbrev pub shown : ChannelView → ChannelTraffic
shown v = record { name = (v.name).now; kind = v.kind; offered = v.offered; taken = listed v.taken; finished = v.finished; is_stopped = v.is_stopped }

-- the views show the plan's channels, in order
abbrev pub AreViews : Plan → NetworkState → List ChannelView → Type 0
AreViews p x views = map shown views ≡ channels_of p x
