use Rattle.vc_switch.proofs.RequestMasks.{none_asked, none_asking}
use Rattle.vc_switch.proofs.requests.Requests.new.Goals as goal

pub invariant_of-result : goal.invariant_of-result
invariant_of-result c = none_asking c.no_outputs.result c.no_outputs.ensures

pub returns : goal.returns
returns c = λ k. none_asked 32 k c.no_outputs.result c.no_outputs.ensures
