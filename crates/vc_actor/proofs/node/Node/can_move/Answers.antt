use Rattle.vc_actor.proofs.AbleMoves.{half_can, can_half}
use Rattle.vc_actor.proofs.node.Node.can_move.Goals as goal

pub returns-then-lists-clause-can : goal.returns-then-lists-clause-can
returns-then-lists-clause-can c = λ plan k is.
    let n = c.args.self.now in
    let m = c.args.made.now in
    ((λ t. half_can plan k n m is (c.lists.ensures.0 c.if-lists.true) (c.channel_lets.ensures.can.0 t)), (λ can. c.channel_lets.ensures.can.1 (can_half plan k n m is can)))
