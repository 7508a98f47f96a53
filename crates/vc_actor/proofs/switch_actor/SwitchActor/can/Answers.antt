use Rattle.std.proofs.Common.{◌↔◌, ◌<◌, IsTrue, sym, subst}
use Rattle.vc_switch.specs.Able.{CanPass, CanPut, CanGrant, CanRoute}
use Rattle.vc_switch.specs.SwitchView.{seen}
use Rattle.vc_switch.specs.State.{IsSwitch, plan_of, limit_of}
use Rattle.vc_actor.specs.Able.{SwitchCan}
use Rattle.vc_actor.specs.Acts.{SwitchMay}
use Rattle.vc_actor.specs.declared.act.Act.TheVariants.{Put, Fct, Pass, Route}
use Rattle.vc_actor.proofs.SwitchCalls.{may_by}
use Rattle.vc_actor.proofs.switch_actor.SwitchActor.can.Goals as goal

pub returns-in-Put-clause-may : goal.returns-in-Put-clause-may
returns-in-Put-clause-may c =
    let s = c.args.self.now.switch in
    let holds = subst IsSwitch c.switch-switch.ensures c.links.ensures.holds in
    let is = subst (λ z. IsTrue c.may_put.result ↔ CanPut (plan_of z) (seen z) c.in-Put.link) c.switch-switch.ensures c.may_put.ensures in
    subst (λ a. IsTrue c.may_put.result ↔ SwitchMay s a) (sym c.in-Put.is) (may_by s holds (Put c.in-Put.link) c.may_put.result is)

pub returns-in-Put-clause-can : goal.returns-in-Put-clause-can
returns-in-Put-clause-can c =
    let s = c.args.self.now.switch in
    let is = subst (λ z. IsTrue c.may_put.result ↔ CanPut (plan_of z) (seen z) c.in-Put.link) c.switch-switch.ensures c.may_put.ensures in
    subst (λ a. IsTrue c.may_put.result ↔ SwitchCan s a) (sym c.in-Put.is) is

pub returns-in-Fct-clause-may : goal.returns-in-Fct-clause-may
returns-in-Fct-clause-may c =
    let s = c.args.self.now.switch in
    let holds = subst IsSwitch c.switch-switch.ensures c.links.ensures.holds in
    let is = subst (λ z. IsTrue c.may_grant.result ↔ ((c.in-Fct.link < 32) × CanGrant (seen z) c.in-Fct.link)) c.switch-switch.ensures c.may_grant.ensures in
    subst (λ a. IsTrue c.may_grant.result ↔ SwitchMay s a) (sym c.in-Fct.is) (may_by s holds (Fct c.in-Fct.link) c.may_grant.result is)

pub returns-in-Fct-clause-can : goal.returns-in-Fct-clause-can
returns-in-Fct-clause-can c =
    let s = c.args.self.now.switch in
    let is = subst (λ z. IsTrue c.may_grant.result ↔ ((c.in-Fct.link < 32) × CanGrant (seen z) c.in-Fct.link)) c.switch-switch.ensures c.may_grant.ensures in
    subst (λ a. IsTrue c.may_grant.result ↔ SwitchCan s a) (sym c.in-Fct.is) is

pub returns-in-Pass-clause-may : goal.returns-in-Pass-clause-may
returns-in-Pass-clause-may c =
    let s = c.args.self.now.switch in
    let holds = subst IsSwitch c.switch-switch.ensures c.links.ensures.holds in
    let is = subst (λ z. IsTrue c.may_pass.result ↔ CanPass (limit_of z.inputs) (plan_of z) (seen z) c.in-Pass.link) c.switch-switch.ensures c.may_pass.ensures in
    subst (λ a. IsTrue c.may_pass.result ↔ SwitchMay s a) (sym c.in-Pass.is) (may_by s holds (Pass c.in-Pass.link) c.may_pass.result is)

pub returns-in-Pass-clause-can : goal.returns-in-Pass-clause-can
returns-in-Pass-clause-can c =
    let s = c.args.self.now.switch in
    let is = subst (λ z. IsTrue c.may_pass.result ↔ CanPass (limit_of z.inputs) (plan_of z) (seen z) c.in-Pass.link) c.switch-switch.ensures c.may_pass.ensures in
    subst (λ a. IsTrue c.may_pass.result ↔ SwitchCan s a) (sym c.in-Pass.is) is

pub returns-in-Route-clause-may : goal.returns-in-Route-clause-may
returns-in-Route-clause-may c =
    let s = c.args.self.now.switch in
    let holds = subst IsSwitch c.switch-switch.ensures c.links.ensures.holds in
    let is = subst (λ z. IsTrue c.may_route.result ↔ CanRoute (plan_of z) (seen z) c.in-Route.input c.in-Route.output) c.switch-switch.ensures c.may_route.ensures in
    subst (λ a. IsTrue c.may_route.result ↔ SwitchMay s a) (sym c.in-Route.is) (may_by s holds (Route c.in-Route.input c.in-Route.output) c.may_route.result is)

pub returns-in-Route-clause-can : goal.returns-in-Route-clause-can
returns-in-Route-clause-can c =
    let s = c.args.self.now.switch in
    let is = subst (λ z. IsTrue c.may_route.result ↔ CanRoute (plan_of z) (seen z) c.in-Route.input c.in-Route.output) c.switch-switch.ensures c.may_route.ensures in
    subst (λ a. IsTrue c.may_route.result ↔ SwitchCan s a) (sym c.in-Route.is) is
