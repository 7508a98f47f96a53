use Rattle.std.proofs.Common.{sym, subst}
use Rattle.vc_core.specs.State.{state_of, MakesEvent, WaysLet}
use Rattle.vc_core.proofs.network.Network.make.Goals as goal

pub take_front-requires : goal.take_front-requires
take_front-requires c =
    let s = state_of c.args.self.now in
    let e = c.args.event.now in
    subst (WaysLet s e.actor) c.in-Take.is c.requires.ways

pub returns-in-Take-clause-makes : goal.returns-in-Take-clause-makes
returns-in-Take-clause-makes c = λ p is.
    let s = state_of c.args.self.now in
    let e = c.args.event.now in
    subst (λ b. MakesEvent p s (record { actor = e.actor; act = b }) (state_of c.take_front.new.self)) (sym c.in-Take.is) (c.take_front.ensures.makes p is)
