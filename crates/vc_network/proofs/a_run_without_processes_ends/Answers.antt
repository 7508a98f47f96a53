-- The lemma for every kind of process, at processes told by a test.
use Rattle.vc_network.specs.Processes.{by_test}
use Rattle.vc_network.proofs.Descent.{ends}
use Rattle.vc_network.proofs.a_run_without_processes_ends.Goals as goal

pub returns : goal.returns
returns c = λ plan waiting does begin. ends plan waiting (by_test does) begin
