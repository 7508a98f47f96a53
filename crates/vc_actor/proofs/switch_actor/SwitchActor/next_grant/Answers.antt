use Rattle.std.proofs.Common.{◌<◌, refl, sym, subst, arith}
use Rattle.vc_actor.specs.ActorView.{OfSwitch}
use Rattle.vc_actor.specs.Turns.{IsTurn}
use Rattle.vc_actor.specs.Private.Turns.{FindsAt}
use Rattle.vc_actor.specs.declared.act.Act.TheVariants.{Fct}
use Rattle.vc_actor.proofs.Masks.{both_bits, bits_both, not_both}
use Rattle.vc_actor.proofs.switch_actor.SwitchActor.next_grant.Goals as goal

pub returns-in_err-link-clause-finds : goal.returns-in_err-link-clause-finds
returns-in_err-link-clause-finds c = λ plan k.
    let s = c.args.self.now.switch in
    subst (FindsAt (λ l. Fct l) (IsTurn plan k (OfSwitch s) c.args.room)) (sym c.from_residual.ensures) (λ l turn.
    let few = turn.can.0 in
    not_both (c.in_err-link.ensures l) (both_bits c.grants.result c.args.room l ((c.grants.ensures l few).1 turn.can.1) turn.lets))

pub returns-clause-may : goal.returns-clause-may
returns-clause-may c =
    let l = c.in_ok-link.link in
    let less = c.in_ok-link.ensures.0 in
    let few : l < 32 = omega arith in
    let bits = bits_both c.grants.result c.args.room l c.in_ok-link.ensures.1.0 in
    record { links = few; can = (few, (c.grants.ensures l few).0 bits.0) }

pub returns-clause-finds : goal.returns-clause-finds
returns-clause-finds c = λ plan k.
    let l = c.in_ok-link.link in
    let less = c.in_ok-link.ensures.0 in
    let few : l < 32 = omega arith in
    let bits = bits_both c.grants.result c.args.room l c.in_ok-link.ensures.1.0 in (
      l,
      refl,
      record { can = (few, (c.grants.ensures l few).0 bits.0); lets = bits.1 },
      λ j low turn.
          not_both (c.in_ok-link.ensures.1.1 j low) (both_bits c.grants.result c.args.room j ((c.grants.ensures j turn.can.0).1 turn.can.1) turn.lets),
    )

pub returns-clause-lets : goal.returns-clause-lets
returns-clause-lets c = (bits_both c.grants.result c.args.room c.in_ok-link.link c.in_ok-link.ensures.1.0).1
