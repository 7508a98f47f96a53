use Rattle.std.proofs.Common.{sym, ap, ◌∙◌}
use Rattle.vc_actor.proofs.Insides.{no_inside}
use Rattle.vc_actor.proofs.node.Node.finished.Goals as goal

pub returns-else-has : goal.returns-else-has
returns-else-has c =
    c.finished.ensures ∙ sym (ap (λ v. v.finished) (no_inside c.args.self.now c.args.chan c.has.result c.has.ensures c.if-has.false))
