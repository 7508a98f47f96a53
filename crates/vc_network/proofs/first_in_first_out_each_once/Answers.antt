-- The lemma for every kind of process, at processes told by a test.
use Rattle.vc_network.specs.Processes.{by_test}
use Rattle.vc_network.proofs.Main.{headline}
use Rattle.vc_network.proofs.first_in_first_out_each_once.Goals as goal

pub returns : goal.returns
returns c = λ plan waiting does begin. headline plan waiting (by_test does) begin
