use Rattle.vc_placement.proofs.Interleavings.{one_trace}
use Rattle.vc_placement.proofs.all_is_one_trace.Goals as goal

pub returns : goal.returns
returns c = one_trace
