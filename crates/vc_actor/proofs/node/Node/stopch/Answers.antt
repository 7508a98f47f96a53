use Rattle.std.proofs.Common.{inl, inr, refl, subst}
use Rattle.std.proofs.lemmas.Bool.{false≢true}
use Rattle.vc_actor.specs.MayMove.{AnswersMove}
use Rattle.vc_actor.proofs.NodeMoves.{stops_link, stops_inside}
use Rattle.vc_actor.proofs.node.Node.stopch.Goals as goal

pub stop-requires : goal.stop-requires
stop-requires c = c.if-has.ensures.0 refl

pub stopch-requires : goal.stopch-requires
stopch-requires c = elim (subst (AnswersMove c.args.self.now) c.requires.is.1 c.requires.may.answers) [
  | inl free ↦ free
  | inr inside ↦ absurd (false≢true (c.if-has.ensures.1 inside))
]

pub returns-then-has-clause-ok : goal.returns-then-has-clause-ok
returns-then-has-clause-ok c = λ plan k is.
    stops_inside plan k c.args.self.now _ c.args.made.now c.requires.is.0 c.args.chan c.requires.is.1 is c.requires.may.listed (c.if-has.ensures.0 refl) refl c.stop.ensures.stops c.stop.ensures.names c.in_ok-act.ensures.made c.in_ok-act.ensures.inside

pub returns-else-has-clause-ok : goal.returns-else-has-clause-ok
returns-else-has-clause-ok c = λ plan k is.
    stops_link plan k c.args.self.now _ c.args.made.now c.requires.is.0 c.args.chan c.requires.is.1 is c.requires.may.listed c.stopch.ensures.stops c.stopch.ensures.links c.stopch.ensures.kept refl c.in_ok-act.ensures.made c.in_ok-act.ensures.inside
