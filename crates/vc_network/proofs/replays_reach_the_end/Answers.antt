-- The lemma for every kind of process, at processes told by a test.
use Rattle.vc_network.specs.Processes.{by_test}
use Rattle.vc_network.proofs.OneStep.{replays_reach}
use Rattle.vc_network.proofs.replays_reach_the_end.Goals as goal

pub returns : goal.returns
returns c = λ plan waiting does begin. replays_reach plan waiting (by_test does) begin
