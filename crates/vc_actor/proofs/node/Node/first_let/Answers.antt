use Rattle.std.proofs.Common.{◌≡◌, ◌<◌, refl, sym, subst, arith, inl, inr, get_or}
use Rattle.std.proofs.lemmas.Bool.{cases_lt}
use Rattle.std.proofs.lemmas.List.Elements.{Contains-get_or}
use Rattle.vc_occam.specs.declared.moves.Move.TheVariants.{Offer}
use Rattle.vc_actor.specs.Able.{CanMove}
use Rattle.vc_actor.proofs.AbleMoves.{half_can, can_half}
use Rattle.vc_actor.proofs.Turns.{same_there, clash}
use Rattle.vc_actor.proofs.node.Node.first_let.Goals as goal

pub returns-then-channel_lets-clause-some : goal.returns-then-channel_lets-clause-some
returns-then-channel_lets-clause-some c = λ plan k is.
    let i = c.loop-made.made-index in
    (_, refl, half_can plan k c.args.self.now _ is (c.requires _ (Contains-get_or c.args.moves.now i (Offer 0 0) c.loop-made-test.true)) (c.if-channel_lets.ensures.can.0 refl))

pub loop-made-preserved : goal.loop-made-preserved
loop-made-preserved c = λ plan k is j m less there can.
    let i = c.loop-made.made-index in
    let xs = c.args.moves.now in
    elim (cases_lt j i) [
      | inl sooner ↦ c.loop-made.invariant plan k is j m sooner there can
      | inr later ↦ (let same : j ≡ i = omega arith in
          let it : get_or xs i (Offer 0 0) ≡ m = same_there xs i (Offer 0 0) m c.loop-made-test.true (subst (λ z. get_or xs z m ≡ m) same there) in
          clash c.channel_lets.result c.if-channel_lets.false (c.channel_lets.ensures.can.1 (can_half plan k c.args.self.now _ is (subst (CanMove plan k c.args.self.now) (sym it) can))))
    ]

pub returns-clause-none : goal.returns-clause-none
returns-clause-none c = λ plan k m is e h can.
    let past = c.loop-made-test.false in
    let within = h.1 in
    let less : h.0 < c.loop-made.made-index = omega arith in
    c.loop-made.invariant plan k is h.0 m less h.2 can
