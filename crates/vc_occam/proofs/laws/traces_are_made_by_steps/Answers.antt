use Rattle.vc_occam.proofs.Completeness.{traces_are_made_by_steps}
use Rattle.vc_occam.proofs.CutTraces.{steps_make_traces}
use Rattle.vc_occam.proofs.laws.traces_are_made_by_steps.Goals as goal

pub returns-clause-made : goal.returns-clause-made
returns-clause-made c = traces_are_made_by_steps

pub returns-clause-no_others : goal.returns-clause-no_others
returns-clause-no_others c = steps_make_traces
