use Rattle.std.proofs.Common.{refl}
use Rattle.vc_threads.proofs.gate.EndGate.new.Goals as goal

pub returns : goal.returns
returns c = refl
