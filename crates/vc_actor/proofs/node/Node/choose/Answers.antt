use Rattle.std.proofs.Common.{refl, subst}
use Rattle.vc_vcp.proofs.ListWrites.{on_ok}
use Rattle.vc_actor.specs.MayMove.{AnswersMove}
use Rattle.vc_actor.proofs.NodeMoves.{chooses}
use Rattle.vc_actor.proofs.node.Node.choose.Goals as goal

pub returns-clause-ok : goal.returns-clause-ok
returns-clause-ok c = λ plan k is.
    on_ok c.act.result (λ acts.
    chooses plan k c.args.self.now _ c.args.made.now c.requires.is.0 c.requires.is.1 c.args.chan c.in_ok-want.field-0 c.answer_of-answer.result c.requires.is.2 c.answer_of-answer.ensures.came is c.requires.may.listed
    (subst (AnswersMove c.args.self.now) c.requires.is.2 c.requires.may.answers).1
    c.in_ok-want.ensures.inputs c.in_ok-want.ensures.links c.in_ok-want.ensures.kept refl acts c.act.ensures.inside) c.act.ensures.made
