use Rattle.std.proofs.Common.{◌≡◌, ◌<◌, length, slice_get, Some, refl, sym, ap, ◌∙◌, subst, inl, inr, arith}
use Rattle.std.proofs.lemmas.Bool.{cases_lt, false≢true}
use Rattle.std.proofs.lemmas.Option.{slice_get_read, slice_get_within}
use Rattle.vc_core.specs.State.{state_of}
use Rattle.vc_actor.specs.Private.Parts.{IsDone}
use Rattle.vc_actor.proofs.Turns.{clash}
use Rattle.vc_core.proofs.Turns.{ended, same_some}
use Rattle.vc_core.proofs.network.Network.ended.Goals as goal

pub returns-then-not-is_done : goal.returns-then-not-is_done
returns-then-not-is_done c = λ p is.
    let xs = c.deref-actor-items.result.now in
    let k = c.loop-actor.actor-index in
    let a = c.actor-item.result in
    let there : slice_get xs k ≡ Some a = slice_get_read xs (length xs) k a refl c.loop-actor-test.true c.actor-item.is in
    let here : slice_get c.args.self.now.actors.items k ≡ Some a = ap (λ z. slice_get z k) (sym c.deref-actor-items.ensures.value) ∙ there in
    ((λ t. absurd (false≢true t)), (λ have. absurd (clash c.is_done.result c.if-not-is_done.true (c.is_done.ensures.1 ((ended p (state_of c.args.self.now) is).1 have k a here)))))

pub loop-actor-preserved : goal.loop-actor-preserved
loop-actor-preserved c = λ j b less at.
    let xs = c.deref-actor-items.result.now in
    let k = c.loop-actor.actor-index in
    let a = c.actor-item.result in
    let there : slice_get xs k ≡ Some a = slice_get_read xs (length xs) k a refl c.loop-actor-test.true c.actor-item.is in
    let here : slice_get c.args.self.now.actors.items k ≡ Some a = ap (λ z. slice_get z k) (sym c.deref-actor-items.ensures.value) ∙ there in
    elim (cases_lt j k) [
      | inl sooner ↦ c.loop-actor.invariant j b sooner at
      | inr later ↦ (let same : k ≡ j = omega arith in
          let it : a ≡ b = same_some _ a b here (ap (slice_get c.args.self.now.actors.items) same ∙ at) in
          subst IsDone it (c.is_done.ensures.0 c.if-not-is_done.false))
    ]

pub returns : goal.returns
returns c = λ p is.
    let s = state_of c.args.self.now in
    let past = c.loop-actor-test.false in (
      (λ t. (ended p s is).0 (λ k a here.
          let real = slice_get_within s.actors k a here in
          let long = ap length c.deref-actor-items.ensures.value in
          let less : k < c.loop-actor.actor-index = omega arith in
          c.loop-actor.invariant k a less here)),
      (λ have. refl),
    )
