use Rattle.vc_core.specs.State.{state_of}
use Rattle.vc_core.proofs.StepsInARow.{none_made}
use Rattle.vc_text.proofs.simulation.steps_of.Goals as goal

pub returns-then-is_some-clause-made : goal.returns-then-is_some-clause-made
returns-then-is_some-clause-made c = λ p is. none_made p (state_of c.args.network.now) c.args.actor is
