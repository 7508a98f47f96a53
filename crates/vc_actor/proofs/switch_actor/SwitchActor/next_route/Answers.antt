use Rattle.std.proofs.Common.{refl, sym, subst}
use Rattle.vc_switch.specs.State.{IsSwitch}
use Rattle.vc_actor.specs.Private.Turns.{FindsRoute}
use Rattle.vc_actor.specs.declared.act.Act.TheVariants.{Route}
use Rattle.vc_actor.proofs.SwitchCalls.{within}
use Rattle.vc_actor.proofs.switch_actor.SwitchActor.next_route.Goals as goal

pub returns-in_err-input-clause-finds : goal.returns-in_err-input-clause-finds
returns-in_err-input-clause-finds c =
    let s = c.args.self.now.switch in
    let holds = subst IsSwitch c.switch.ensures c.links.ensures.holds in
    subst (FindsRoute s) (sym c.from_residual.ensures) (λ i o can. c.in_err-input.ensures i o (within s holds (Route i o) can).0 can)

pub returns-clause-finds : goal.returns-clause-finds
returns-clause-finds c =
    let found = c.in_ok-input.ensures in
    (c.in_ok-input.input, c.in_ok-input.output, refl, found.2.can, found.2.least, found.2.first)
