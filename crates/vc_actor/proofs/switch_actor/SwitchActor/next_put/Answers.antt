use Rattle.std.proofs.Common.{◌≡◌, ◌<◌, refl, sym, ◌∙◌, subst, arith, inl, inr}
use Rattle.std.proofs.lemmas.Bool.{cases_eq}
use Rattle.std.specs.Int.{bit_at}
use Rattle.vc_switch.specs.Able.{CanPut}
use Rattle.vc_switch.specs.SwitchView.{seen}
use Rattle.vc_switch.specs.State.{IsSwitch, plan_of}
use Rattle.vc_actor.specs.Acts.{SwitchMay}
use Rattle.vc_actor.specs.ActorView.{OfSwitch}
use Rattle.vc_actor.specs.Turns.{IsTurn}
use Rattle.vc_actor.specs.Private.Turns.{FindsAt}
use Rattle.vc_actor.specs.declared.act.Act.TheVariants.{Put}
use Rattle.vc_actor.proofs.Masks.{both_bits, bits_both, not_both, gone_more, left_more}
use Rattle.vc_actor.proofs.SwitchCalls.{may}
use Rattle.vc_actor.proofs.Turns.{clash}
use Rattle.vc_actor.proofs.switch_actor.SwitchActor.next_put.Goals as goal

pub loop-init : goal.loop-init
loop-init c = record {
  gone = λ j less. absurd (omega arith);
  tried = λ j m has. both_bits c.puts.result c.args.room j (c.puts.ensures.can j m.links m.can) has;
  room = λ j less h. (bits_both c.puts.result c.args.room j h).1;
}

pub returns-in_err-link-clause-finds : goal.returns-in_err-link-clause-finds
returns-in_err-link-clause-finds c = λ plan k.
    let s = c.args.self.now.switch in
    let holds = subst IsSwitch c.switch.ensures c.links.ensures.holds in
    subst (FindsAt (λ l. Put l) (IsTurn plan k (OfSwitch s) c.args.room)) (sym c.from_residual.ensures) (λ l turn.
    let m = may s holds (Put l) turn.can in
    not_both (c.in_err-link.ensures l) (c.loop.invariant.tried l m turn.lets))

pub returns-then-may_put-clause-may : goal.returns-then-may_put-clause-may
returns-then-may_put-clause-may c =
    let l = c.in_ok-link.link in
    let less = c.in_ok-link.ensures.0 in
    let few : l < 32 = omega arith in
    record { links = few; can = subst (λ z. CanPut (plan_of z) (seen z) l) c.switch-in-loop.ensures (c.if-may_put.ensures.0 refl) }

pub returns-then-may_put-clause-finds : goal.returns-then-may_put-clause-finds
returns-then-may_put-clause-finds c = λ plan k.
    let s = c.args.self.now.switch in
    let holds = subst IsSwitch c.switch.ensures c.links.ensures.holds in
    let l = c.in_ok-link.link in
    let less = c.in_ok-link.ensures.0 in
    let few : l < 32 = omega arith in
    let can = subst (λ z. CanPut (plan_of z) (seen z) l) c.switch-in-loop.ensures (c.if-may_put.ensures.0 refl) in (
      l,
      refl,
      record { can = can; lets = c.loop.invariant.room l few c.in_ok-link.ensures.1.0 },
      λ j low turn.
          not_both (c.in_ok-link.ensures.1.1 j low) (c.loop.invariant.tried j (may s holds (Put j) turn.can) turn.lets),
    )

pub loop-preserved : goal.loop-preserved
loop-preserved c =
    let s = c.args.self.now.switch in
    let room = c.args.room in
    let inv = c.loop.invariant in
    let l = c.in_ok-link.link in
    let old = c.loop.left in
    let new = c.without-left.result in
    let test = c.loop-test.true in
    let under : c.loop.counter < 32 = omega arith in
    record {
      gone = gone_more c.loop.counter old new l inv.gone c.in_ok-link.ensures.1.0 c.in_ok-link.ensures.1.1 c.without-left.ensures.gone c.without-left.ensures.others under;
      tried = λ j m has. left_more (λ z. SwitchMay s (Put z) × (bit_at room z ≡ 1)) old new l (λ z p. inv.tried z p.0 p.1) (λ z p. p.0.links) c.without-left.ensures.others
          (λ p. clash c.may_put.result c.if-may_put.false (c.may_put.ensures.1 (subst (λ z. CanPut (plan_of z) (seen z) l) (sym c.switch-in-loop.ensures) p.0.can))) j (m, has);
      room = λ j less h. elim (cases_eq j l) [
        | inl same ↦ absurd (not_both c.without-left.ensures.gone (subst (λ z. bit_at new z ≡ 1) same h))
        | inr ne ↦ inv.room j less (sym (c.without-left.ensures.others j less ne) ∙ h)
      ];
    }

pub returns-clause-finds : goal.returns-clause-finds
returns-clause-finds c = λ plan k l turn.
    let s = c.args.self.now.switch in
    let holds = subst IsSwitch c.switch.ensures c.links.ensures.holds in
    let m = may s holds (Put l) turn.can in
    let few = m.links in
    let test = c.loop-test.false in
    let past : l < c.loop.counter = omega arith in
    not_both (c.loop.invariant.gone l past) (c.loop.invariant.tried l m turn.lets)
