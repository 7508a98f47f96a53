use Rattle.std.proofs.Common.{◌∙◌}
use Rattle.vc_credit.proofs.Fronts.{front_is}
use Rattle.vc_credit.proofs.receiver.Receiver.front.Goals as goal

pub returns : goal.returns
returns c = rw (← c.self.view_is) (front_is c.self.inside.buffer.items c.copied.result (c.copied.ensures ∙ c.front.ensures))
