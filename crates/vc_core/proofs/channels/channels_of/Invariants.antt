use Rattle.std.proofs.Common.{◌≡◌, ℕ, Some, length, slice_get}
use Rattle.vc_core.specs.Channels.{IsChannelOf}
use Rattle.vc_core.specs.declared.channels.ChannelInfo.{ChannelInfo}
use Rattle.vc_core.proofs.channels.channels_of.Given as goal

-- the channels that were listed so far are the plan's first ones
abbrev pub invariant-loop-channel : goal.invariant-loop-channel
invariant-loop-channel l = record {
  count : length l.channels.items ≡ l.channel-index;
  each : (c : ℕ) (info : ChannelInfo) → slice_get l.channels.items c ≡ Some info → IsChannelOf l.plan c info;
}
