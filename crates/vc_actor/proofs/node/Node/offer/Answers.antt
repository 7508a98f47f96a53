use Rattle.std.proofs.Common.{refl, sym, ap, ◌∙◌, subst}
use Rattle.std.specs.List.{Contains}
use Rattle.vc_occam.specs.Runnings.{state, moves, inner_channels}
use Rattle.vc_occam.specs.States.{sent_by}
use Rattle.vc_actor.proofs.NodeMoves.{offers}
use Rattle.vc_actor.proofs.Messages.{offer_sends}
use Rattle.vc_actor.proofs.node.Node.offer.Goals as goal

pub unreachable-requires : goal.unreachable-requires
unreachable-requires c =
    let s = state c.args.self.now.process in
    let e = c.requires.is.1 in
    offer_sends (inner_channels c.args.self.now.process) s c.requires.is.0 c.args.chan (subst (Contains (moves c.args.self.now.process)) e c.requires.may.listed)
    (ap (sent_by s) (sym e) ∙ sym (c.in_ok-message.ensures) ∙ c.in_default.is)

pub returns-clause-ok : goal.returns-clause-ok
returns-clause-ok c = λ plan k is.
    offers plan k c.args.self.now _ c.args.made.now c.requires.is.0 c.args.chan c.in-Some.message c.requires.is.1 (sym c.in-Some.is ∙ c.in_ok-message.ensures) is c.requires.may.listed
    c.in_ok-offer.ensures.offers c.in_ok-offer.ensures.links c.in_ok-offer.ensures.kept refl c.in_ok-act.ensures.made c.act.ensures.inside
