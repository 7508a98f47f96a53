use Rattle.std.proofs.Common.{None, sym, subst}
use Rattle.vc_switch.specs.Forward.{IsDrawn}
use Rattle.vc_core.specs.State.{state_of}
use Rattle.vc_core.proofs.PortPlaces.{switch_plan_is, no_switch_there, no_switch_plan}
use Rattle.vc_core.proofs.network.Network.least_header.Goals as goal

pub returns-in-Some : goal.returns-in-Some
returns-in-Some c = λ p is.
    let x = c.in-Some.switch.now in
    subst (λ z. IsDrawn (z.random c.args.link) c.least_header.result) (switch_plan_is p (state_of c.args.self.now) c.args.switch x is c.in-Some.ensures) c.least_header.ensures.drawn

pub returns-in-None : goal.returns-in-None
returns-in-None c = λ p is.
    subst (λ z. IsDrawn (z.random c.args.link) None) (sym (no_switch_plan p c.args.switch (no_switch_there p (state_of c.args.self.now) c.args.switch is c.in-None.ensures))) tt
