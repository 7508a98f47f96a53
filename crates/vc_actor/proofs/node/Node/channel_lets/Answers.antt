use Rattle.std.proofs.Common.{◌↔◌, ◌∙◌, IsTrue, [], inl, inr, sym, subst}
use Rattle.std.proofs.lemmas.Bool.{false≢true}
use Rattle.vc_actor.specs.Private.Able.{HalfCan}
use Rattle.vc_actor.specs.MayMove.{AnswersMove}
use Rattle.vc_actor.proofs.node.Node.channel_lets.Goals as goal

pub returns-in-Offer-clause-can : goal.returns-in-Offer-clause-can
returns-in-Offer-clause-can c =
    subst (λ m. IsTrue c.may_offer.result ↔ HalfCan c.args.self.now m) (sym c.in-Offer.is) ((λ t m. (c.may_offer.ensures.can m).0 t), (λ h. (c.may_offer.ensures.can []).1 (h [])))

pub returns-then-may_stop-clause-lets : goal.returns-then-may_stop-clause-lets
returns-then-may_stop-clause-lets c =
    subst (λ m. IsTrue c.may_stop.result ↔ AnswersMove c.args.self.now m) (sym c.in-Stopch.is) (λ t. inl (c.may_stop.ensures.unwanted.0 t), λ h. c.if-may_stop.true)

pub returns-then-may_stop-clause-can : goal.returns-then-may_stop-clause-can
returns-then-may_stop-clause-can c =
    subst (λ m. IsTrue c.may_stop.result ↔ HalfCan c.args.self.now m) (sym c.in-Stopch.is) (λ t. inl (c.may_stop.ensures.can.0 t), λ h. c.if-may_stop.true)

pub returns-else-may_stop-clause-lets : goal.returns-else-may_stop-clause-lets
returns-else-may_stop-clause-lets c =
    subst (λ m. IsTrue c.has.result ↔ AnswersMove c.args.self.now m) (sym c.in-Stopch.is) (
      λ t. inr (c.has.ensures.0 t),
      λ h. elim h [ inl free ↦ absurd (false≢true (sym c.if-may_stop.false ∙ c.may_stop.ensures.unwanted.1 free)) | inr there ↦ c.has.ensures.1 there ],
    )

pub returns-else-may_stop-clause-can : goal.returns-else-may_stop-clause-can
returns-else-may_stop-clause-can c =
    subst (λ m. IsTrue c.has.result ↔ HalfCan c.args.self.now m) (sym c.in-Stopch.is) (
      λ t. inr (c.has.ensures.0 t),
      λ h. elim h [ inl free ↦ absurd (false≢true (sym c.if-may_stop.false ∙ c.may_stop.ensures.can.1 free)) | inr there ↦ c.has.ensures.1 there ],
    )
