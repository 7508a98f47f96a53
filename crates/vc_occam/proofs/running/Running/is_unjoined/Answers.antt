use Rattle.std.proofs.Common.{ap}
use Rattle.vc_occam.specs.Runnings.{state, inner_channels}
use Rattle.vc_process.specs.Usage.{among}
use Rattle.vc_occam.proofs.Sought.{none_inside}
use Rattle.vc_occam.proofs.running.Running.is_unjoined.Goals as goal

pub returns : goal.returns
unfolding state inner_channels
returns c =
    (λ yes k. ap (λ xs. among xs k) (c.is_empty.ensures.0 yes), λ none. c.is_empty.ensures.1 (none_inside c.args.self.now.inside none))
