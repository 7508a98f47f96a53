use Rattle.std.proofs.Common.{take}
use Rattle.vc_core.specs.Replay.{Reached}
use Rattle.vc_core.specs.State.{state_of}
use Rattle.vc_core.proofs.replays.replay.Given as goal

abbrev pub invariant-loop-index : goal.invariant-loop-index
invariant-loop-index l = Reached l.accepted (take l.index l.events) (state_of l.network)
