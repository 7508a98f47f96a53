use Rattle.std.proofs.Common.{refl, None}
use Rattle.vc_actor.proofs.Passes.{makes_pass}
use Rattle.vc_actor.proofs.node.Node.pass.Goals as goal

pub returns-in-Some-Byte-clause-ok : goal.returns-in-Some-Byte-clause-ok
returns-in-Some-Byte-clause-ok c = λ plan k is.
    makes_pass plan k c.args.self.now _ c.args.link None is c.pass_byte.ensures.passes c.pass_byte.ensures.kept refl (λ w. refl)
