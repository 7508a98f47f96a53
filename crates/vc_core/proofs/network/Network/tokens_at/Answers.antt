use Rattle.std.proofs.Common.{List, sym, ap, ◌∙◌}
use Rattle.vc_plan.specs.declared.plan.Plan.{Plan}
use Rattle.vc_machine.specs.Paths.{Port}
use Rattle.vc_network.specs.Views.{vcps, switches, arrived}
use Rattle.vc_switch.specs.Switch.{Switch}
use Rattle.vc_tokens.specs.Tokens.{Token}
use Rattle.vc_vcp.specs.Links.{Vcp}
use Rattle.vc_accepted.specs.NetworkOf.{network_of, port_at}
use Rattle.vc_core.specs.State.{State, state_of, shown}
use Rattle.vc_core.proofs.PortPlaces.{switch_shown, no_switch_shown}
use Rattle.vc_core.proofs.network.Network.tokens_at.Goals as goal

abbrev buffer_at : Plan → State → Port → List Token
buffer_at p s port = (arrived (vcps (shown s)) (switches (network_of p) (shown s)) port).buffer

pub returns-in-Some : goal.returns-in-Some
returns-in-Some c = λ p is.
    let s = state_of c.args.self.now in
    let link = c.args.port.link in
    c.tokens_at.ensures ∙ ap (λ (v : Vcp). (v.link link).receiver.buffer) (sym c.in-Some.ensures) ∙ ap (buffer_at p s) (sym (ap (λ z. port_at z link) c.in-Node.is))

pub returns-in-None : goal.returns-in-None
returns-in-None c = λ p is.
    let s = state_of c.args.self.now in
    let link = c.args.port.link in
    ap (λ (v : Vcp). (v.link link).receiver.buffer) (sym c.in-None.ensures) ∙ ap (buffer_at p s) (sym (ap (λ z. port_at z link) c.in-Node.is))

pub returns-in-Some-switch : goal.returns-in-Some-switch
returns-in-Some-switch c = λ p is.
    let s = state_of c.args.self.now in
    let link = c.args.port.link in
    let x = c.in-Some-switch.switch.now in
    c.tokens.ensures ∙ ap (λ (z : Switch). (z.input link).receiver.buffer) (sym (switch_shown p s c.in-Switch.number x is c.in-Some-switch.ensures)) ∙ ap (buffer_at p s) (sym (ap (λ z. port_at z link) c.in-Switch.is))

pub returns-in-None-switch : goal.returns-in-None-switch
returns-in-None-switch c = λ p is.
    let s = state_of c.args.self.now in
    let link = c.args.port.link in
    ap (λ (z : Switch). (z.input link).receiver.buffer) (sym (no_switch_shown p s c.in-Switch.number is c.in-None-switch.ensures)) ∙ ap (buffer_at p s) (sym (ap (λ z. port_at z link) c.in-Switch.is))
