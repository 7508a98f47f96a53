use Rattle.std.proofs.Common.{◌<◌, refl, sym, subst, arith}
use Rattle.vc_switch.specs.State.{IsSwitch}
use Rattle.vc_actor.specs.Able.{SwitchCan}
use Rattle.vc_actor.specs.Private.Turns.{FindsAt}
use Rattle.vc_actor.specs.declared.act.Act.TheVariants.{Pass}
use Rattle.vc_actor.proofs.Masks.{not_both}
use Rattle.vc_actor.proofs.SwitchCalls.{within}
use Rattle.vc_actor.proofs.switch_actor.SwitchActor.next_pass.Goals as goal

pub returns-in_err-link-clause-finds : goal.returns-in_err-link-clause-finds
returns-in_err-link-clause-finds c =
    let s = c.args.self.now.switch in
    let holds = subst IsSwitch c.switch.ensures c.links.ensures.holds in
    subst (FindsAt (λ l. Pass l) (SwitchCan s)) (sym c.from_residual.ensures) (λ l can.
    let few = within s holds (Pass l) can in
    not_both (c.in_err-link.ensures l) ((c.passes.ensures l few).1 can))

pub returns-clause-finds : goal.returns-clause-finds
returns-clause-finds c =
    let s = c.args.self.now.switch in
    let l = c.in_ok-link.link in
    let less = c.in_ok-link.ensures.0 in
    let few : l < 32 = omega arith in
    (l, refl, (c.passes.ensures l few).0 c.in_ok-link.ensures.1.0, λ j low can. (let small : j < 32 = omega arith in not_both (c.in_ok-link.ensures.1.1 j low) ((c.passes.ensures j small).1 can)))
