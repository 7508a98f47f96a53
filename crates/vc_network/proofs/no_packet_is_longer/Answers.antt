-- The lemma for every kind of process, at processes told by a test.
use Rattle.vc_network.specs.Processes.{by_test}
use Rattle.vc_network.proofs.Ownership.{packets_are_short}
use Rattle.vc_network.proofs.no_packet_is_longer.Goals as goal

pub returns : goal.returns
returns c = λ plan waiting does begin. packets_are_short plan waiting (by_test does) begin
