use Rattle.std.proofs.Common.{arith}
use Rattle.vc_threads.proofs.outs.find_out.Goals as goal

pub unreachable-requires : goal.unreachable-requires
unreachable-requires c = c.requires (λ j less free. c.loop-k.invariant j (omega (arith, less)) free)
