use Rattle.std.proofs.Common.{ap, ◌∙◌}
use Rattle.vc_switch.specs.SwitchView.{seen}
use Rattle.vc_actor.proofs.switch_actor.SwitchActor.lost.Goals as goal

pub returns : goal.returns
returns c = c.lost.ensures ∙ ap (λ s. (seen s).lost) c.switch.ensures
