-- The lemma for every kind of process, at processes told by a test.
use Rattle.vc_network.specs.Processes.{by_test}
use Rattle.vc_network.proofs.CreditSum.{credit_holds}
use Rattle.vc_network.proofs.no_buffer_overflows.Goals as goal

pub returns : goal.returns
returns c = λ plan waiting does begin. credit_holds plan waiting (by_test does) begin
