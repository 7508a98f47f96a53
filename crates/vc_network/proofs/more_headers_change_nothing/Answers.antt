-- The lemma for every kind of process, at processes told by a test.
use Rattle.vc_network.specs.Processes.{by_test}
use Rattle.vc_network.proofs.Headers.{more_headers}
use Rattle.vc_network.proofs.more_headers_change_nothing.Goals as goal

pub returns : goal.returns
returns c = λ plan waiting does begin. more_headers plan waiting (by_test does) begin
