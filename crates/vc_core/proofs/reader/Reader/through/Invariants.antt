use Rattle.std.specs.Prelude.{◌++◌, ℕ, List}
use Rattle.std.proofs.Common.{take}
use Rattle.vc_machine.specs.PacketsOfTokens.{read}
use Rattle.vc_packets.specs.declared.packet.Packet.{Packet}
use Rattle.vc_tokens.specs.CodeTokens.{tokens}
use Rattle.vc_core.specs.Private.Targets.{HasRead, left}
use Rattle.vc_core.specs.State.{state_of, IsNetworkOf}
use Rattle.vc_plan.specs.declared.plan.Plan.{Plan}
use Rattle.vc_core.proofs.reader.Reader.through.Given as goal

abbrev pub invariant-loop-token : goal.invariant-loop-token
invariant-loop-token l = (p : Plan) (c w : ℕ) (ps : List Packet) (got : List ℕ) → IsNetworkOf p (state_of l.fn.network) → HasRead p c w ps got l.fn.self →
    HasRead p c w (ps ++ read got (tokens (take l.token-index l.fn.tokens))) (left got (tokens (take l.token-index l.fn.tokens))) l.reader
