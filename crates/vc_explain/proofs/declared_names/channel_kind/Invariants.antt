use Rattle.std.proofs.Common.{◌≡◌, drop, map}
use Rattle.serde_json.specs.View.{view}
use Rattle.vc_explain.specs.DeclaredNames.{channel_kind}
use Rattle.vc_explain.proofs.declared_names.channel_kind.Given as goal

abbrev pub invariant-loop-channel : goal.invariant-loop-channel
invariant-loop-channel l = channel_kind l.called (map view (drop l.channel-index l.channels)) ≡ channel_kind l.called (map view l.channels)
