-- The lemma for every kind of process, at processes told by a test.
use Rattle.vc_network.specs.Processes.{by_test}
use Rattle.vc_network.proofs.Ownership.{each_owned}
use Rattle.vc_network.proofs.each_packet_has_its_channel.Goals as goal

pub returns : goal.returns
returns c = λ plan waiting does begin. each_owned plan waiting (by_test does) begin
