use Rattle.std.proofs.Common.{◌≡◌, ℕ, List, [], sym, ap, subst}
use Rattle.vc_machine.specs.Paths.{Port, AtSwitch}
use Rattle.vc_machine.specs.PacketsOfTokens.{passed_on}
use Rattle.vc_network.specs.Plan.{net_of}
use Rattle.vc_network.specs.Views.{vcps, switches, arrived}
use Rattle.vc_switch.specs.Switch.{Switch}
use Rattle.vc_accepted.specs.NetworkOf.{network_of, port_at}
use Rattle.vc_core.specs.State.{state_of, shown}
use Rattle.vc_core.proofs.PortPlaces.{switch_shown, switch_plan_is, no_switch_shown, none_passed}
use Rattle.vc_core.proofs.network.Network.passed_at.Goals as goal

pub returns-in-Some-switch : goal.returns-in-Some-switch
returns-in-Some-switch c = λ p is.
    let s = state_of c.args.self.now in
    let net = net_of (network_of p) in
    let link = c.args.port.link in
    let k = c.in-Switch.number in
    let x = c.in-Some-switch.switch.now in
    let r = c.passed_into.result.now in
    let at = ap (λ z. port_at z link) c.in-Switch.is in
    subst (λ (q : Port). r ≡ passed_on net q (arrived (vcps (shown s)) (switches (network_of p) (shown s)) q).got (arrived (vcps (shown s)) (switches (network_of p) (shown s)) q).mark) (sym at)
    (subst (λ (z : Switch). r ≡ passed_on net (AtSwitch k link) (z.input link).got (z.input link).mark) (sym (switch_shown p s k x is c.in-Some-switch.ensures)) (c.passed_into.ensures net k (switch_plan_is p s k x is c.in-Some-switch.ensures)))

pub returns-in-None-switch : goal.returns-in-None-switch
returns-in-None-switch c = λ p is.
    let s = state_of c.args.self.now in
    let net = net_of (network_of p) in
    let link = c.args.port.link in
    let k = c.in-Switch.number in
    let at = ap (λ z. port_at z link) c.in-Switch.is in
    subst (λ (q : Port). ◌≡◌ {A = List ℕ} [] (passed_on net q (arrived (vcps (shown s)) (switches (network_of p) (shown s)) q).got (arrived (vcps (shown s)) (switches (network_of p) (shown s)) q).mark)) (sym at)
    (subst (λ (z : Switch). ◌≡◌ {A = List ℕ} [] (passed_on net (AtSwitch k link) (z.input link).got (z.input link).mark)) (sym (no_switch_shown p s k is c.in-None-switch.ensures)) (none_passed ((net.switch k).random link)))
