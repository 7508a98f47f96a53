-- The lemma for every kind of process, at processes told by a test.
use Rattle.vc_network.specs.Processes.{by_test}
use Rattle.vc_network.proofs.OneStep.{events_are_one}
use Rattle.vc_network.proofs.an_event_leads_to_one_state.Goals as goal

pub returns : goal.returns
returns c = λ plan waiting does begin. events_are_one plan waiting (by_test does)
