use Rattle.std.specs.Prelude.{◌≡◌, ◌<◌, ℕ, Some, None}
use Rattle.vc_network.specs.Plan.{home}
use Rattle.vc_core.specs.Channels.{ends_at}
use Rattle.vc_plan.specs.declared.plan.Plan.{Plan}
use Rattle.vc_accepted.specs.NetworkOf.{network_of}
use Rattle.vc_core.specs.Private.PacketPlace.{AreOwned, FindsOn}
use Rattle.vc_core.specs.State.{state_of, shown, IsNetworkOf}
use Rattle.vc_core.proofs.network.Network.place_by.Given as goal

abbrev pub invariant-loop-way : goal.invariant-loop-way
invariant-loop-way l = (p : Plan) (j : ℕ) → IsNetworkOf p (state_of l.fn.self) → AreOwned (network_of p) (shown (state_of l.fn.self)) →
    ends_at (network_of p) (home (network_of p) l.fn.chan) ≡ Some l.ends → j < l.way → FindsOn (network_of p) (shown (state_of l.fn.self)) l.fn.chan j None
