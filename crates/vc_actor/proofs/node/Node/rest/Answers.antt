use Rattle.std.proofs.Common.{refl}
use Rattle.vc_occam.specs.declared.moves.Move.TheVariants.{Quiet}
use Rattle.vc_vcp.proofs.ListWrites.{on_ok}
use Rattle.vc_actor.proofs.NodeMoves.{rests}
use Rattle.vc_actor.proofs.node.Node.rest.Goals as goal

pub returns-clause-ok : goal.returns-clause-ok
returns-clause-ok c = λ plan k is.
    on_ok c.act_quietly.result (λ acts. rests plan k c.args.self.now _ (Quiet c.args.site) c.args.site refl is c.requires.may.listed refl refl acts c.act_quietly.ensures.inside) c.act_quietly.ensures.made
