-- The lemma for every kind of process, at processes told by a test.
use Rattle.vc_network.specs.Processes.{by_test}
use Rattle.vc_network.proofs.CreditSum.{bodies_fit}
use Rattle.vc_network.proofs.no_packet_grows.Goals as goal

pub returns : goal.returns
returns c = λ plan waiting does begin. bodies_fit plan waiting (by_test does) begin
