-- The lemma for every kind of process, at processes told by a test.
use Rattle.vc_network.specs.Processes.{by_test}
use Rattle.vc_network.proofs.Threads.{threads_headline}
use Rattle.vc_network.proofs.threads_keep_the_headline.Goals as goal

pub returns : goal.returns
returns c = λ plan waiting does begin. threads_headline plan waiting (by_test does) begin
