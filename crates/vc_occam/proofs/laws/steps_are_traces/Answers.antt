use Rattle.vc_occam.proofs.Law.{steps_are_traces}
use Rattle.vc_occam.proofs.laws.steps_are_traces.Goals as goal

pub returns : goal.returns
returns c = steps_are_traces
