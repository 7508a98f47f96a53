use Rattle.std.proofs.Common.{◌≡◌, map, take}
use Rattle.vc_plan.specs.declared.plan.Plan.{Plan}
use Rattle.vc_core.specs.State.{shown, state_of, IsNetworkOf}
use Rattle.vc_text.specs.ChannelStates.{channels_from}
use Rattle.vc_text.specs.Views.{shown as traffic_of}
use Rattle.vc_text.proofs.run.views.Given as goal

abbrev pub invariant-loop-chan : goal.invariant-loop-chan
invariant-loop-chan l = (p : Plan) → IsNetworkOf p (state_of l.network) → map traffic_of l.views.items ≡ channels_from p (shown (state_of l.network)) 0 (take l.chan p.channels)
