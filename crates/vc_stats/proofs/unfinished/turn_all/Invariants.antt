use Rattle.std.proofs.Common.{◌≡◌, take, length}
use Rattle.vc_core.specs.State.{IsNetworkOf, shown, state_of}
use Rattle.vc_plan.specs.declared.plan.Plan.{Plan}
use Rattle.vc_stats.specs.Private.Times.{AreTurned}
use Rattle.vc_stats.proofs.unfinished.turn_all.Given as goal

abbrev pub invariant-loop-chan : goal.invariant-loop-chan
invariant-loop-chan l =
    (p : Plan) → IsNetworkOf p (state_of l.network) → length l.fn.times.items ≡ length p.channels →
    AreTurned p (shown (state_of l.network)) l.events (take l.chan-index l.chans) l.fn.times.items l.times.items
