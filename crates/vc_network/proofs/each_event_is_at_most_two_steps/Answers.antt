-- The lemma for every kind of process, at processes told by a test.
use Rattle.vc_network.specs.Processes.{by_test}
use Rattle.vc_network.proofs.Packets.{events_are_steps}
use Rattle.vc_network.proofs.each_event_is_at_most_two_steps.Goals as goal

pub returns : goal.returns
returns c = λ plan waiting does begin. events_are_steps plan waiting (by_test does) begin
