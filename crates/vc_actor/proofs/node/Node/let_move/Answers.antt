use Rattle.std.proofs.Common.{refl}
use Rattle.vc_actor.proofs.AbleMoves.{half_can}
use Rattle.vc_actor.proofs.node.Node.let_move.Goals as goal

pub returns-then-channel_lets-clause-finds : goal.returns-then-channel_lets-clause-finds
returns-then-channel_lets-clause-finds c = λ plan k is.
    let made = c.args.made in
    (made, refl, half_can plan k c.args.self.now made is c.requires (c.if-channel_lets.ensures.can.0 refl))
