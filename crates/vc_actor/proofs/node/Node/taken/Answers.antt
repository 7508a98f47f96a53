use Rattle.std.proofs.Common.{ap}
use Rattle.vc_actor.proofs.Insides.{no_inside}
use Rattle.vc_actor.proofs.node.Node.taken.Goals as goal

pub returns-else-has : goal.returns-else-has
returns-else-has c =
    let e = no_inside c.args.self.now c.args.chan c.has.result c.has.ensures c.if-has.false in
    let t = ap (λ v. v.taken) e in
    cc
