use Rattle.std.proofs.Common.{refl}
use Rattle.vc_actor.proofs.NodeMoves.{wants}
use Rattle.vc_actor.proofs.node.Node.want.Goals as goal

pub returns-clause-ok : goal.returns-clause-ok
returns-clause-ok c = λ plan k is.
    wants plan k c.args.self.now _ c.args.made.now c.requires.is.0 c.args.chan c.in_ok-want.field-0 c.answer_of-answer.result c.requires.is.1 c.answer_of-answer.ensures.came is c.requires.may.listed
    c.in_ok-want.ensures.inputs c.in_ok-want.ensures.links c.in_ok-want.ensures.kept refl c.in_ok-act.ensures.made c.act.ensures.inside
