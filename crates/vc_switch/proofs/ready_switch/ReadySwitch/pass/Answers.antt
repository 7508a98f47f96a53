use Rattle.std.proofs.Common.{◌≡◌, true, sym, ◌∙◌, subst}
use Rattle.vc_switch.specs.Able.{CanPass}
use Rattle.vc_switch.specs.Private.Requests.{AreRouted}
use Rattle.vc_switch.specs.SwitchView.{seen}
use Rattle.vc_switch.specs.State.{plan_of, limit_of}
use Rattle.vc_switch.specs.Switch.{Passes}
use Rattle.vc_switch.proofs.RequestMasks.{asked_else, asked_idle, asked_still, routed_told}
use Rattle.vc_switch.proofs.Readiness.{ready_else, passes_else, passes_grants}
use Rattle.vc_switch.proofs.ready_switch.ReadySwitch.pass.Goals as goal
use Rattle.vc_switch.proofs.ready_switch.ReadySwitch.pass.Goals.{else-of-eq0-via-then-of-eq0+else-waits, else-of-eq0-via-else-of-eq0}

pub pass-passed-requires-clause-may : goal.pass-passed-requires-clause-may
pass-passed-requires-clause-may c = subst (λ s. CanPass (limit_of s.inputs) (plan_of s) (seen s) c.args.link) (sym c.self.view_is) c.requires.may

pub invariant_of-self : goal.invariant_of-self
invariant_of-self c =
    let s = c.self.inside.switch in
    let t = c.pass-passed.new.self in
    let kept = c.pass-passed.ensures.kept in
    let one = passes_else (limit_of s.inputs) (plan_of s) (seen s) c.args.link (seen t) c.pass-passed.ensures.passes in
    let asked = c.ask-self-inside.ensures in
    record {
      masks = ready_else s t c.args.link c.self.inside.ready c.look_after_pass.new.self kept one c.self.invariant.masks c.look_after_pass.ensures;
      asked = asked_else s t c.args.link c.self.inside.requests c.ask-self-inside.new.requests kept one.others c.self.invariant.asked asked.others asked.few (λ o less. asked.leave o);
      routed = routed_told c.self.inside.requests c.ask-self-inside.new.requests _ c.args.link c.self.inside.routes c.ask-self-inside.result
          (subst (λ m. AreRouted c.self.inside.requests m c.self.inside.routes) (sym c.look_after_pass.ensures.puts) c.self.invariant.routed) asked.others asked.routes;
    }

pub invariant_of-self-else-waits : goal.invariant_of-self-else-waits
invariant_of-self-else-waits c =
    let s = c.self.inside.switch in
    let t = c.pass-passed.new.self in
    let kept = c.pass-passed.ensures.kept in
    let passes = c.pass-passed.ensures.passes in
    let one = passes_else (limit_of s.inputs) (plan_of s) (seen s) c.args.link (seen t) passes in
    record {
      masks = ready_else s t c.args.link c.self.inside.ready c.look_after_pass.new.self kept one c.self.invariant.masks c.look_after_pass.ensures;
      asked = asked_idle s t c.args.link c.self.inside.requests kept passes c.self.invariant.asked c.requires.link (sym c.of.ensures ∙ c.if-of-eq0.true) (λ w. (let yes : c.waits.result ≡ true = c.waits.ensures.1 w in absurd (let f = c.if-waits.false in cc)));
      routed = subst (λ m. AreRouted c.self.inside.requests m c.self.inside.routes) (sym c.look_after_pass.ensures.puts) c.self.invariant.routed;
    }

pub invariant_of-self-else-of-eq0 : goal.invariant_of-self-else-of-eq0
invariant_of-self-else-of-eq0 c =
    let s = c.self.inside.switch in
    let t = c.pass-passed.new.self in
    let kept = c.pass-passed.ensures.kept in
    let passes = c.pass-passed.ensures.passes in
    let one = passes_else (limit_of s.inputs) (plan_of s) (seen s) c.args.link (seen t) passes in
    record {
      masks = ready_else s t c.args.link c.self.inside.ready c.look_after_pass.new.self kept one c.self.invariant.masks c.look_after_pass.ensures;
      asked = asked_still s t c.args.link c.self.inside.requests kept passes c.self.invariant.asked c.requires.link (λ none. c.if-of-eq0.false (c.of.ensures ∙ none));
      routed = subst (λ m. AreRouted c.self.inside.requests m c.self.inside.routes) (sym c.look_after_pass.ensures.puts) c.self.invariant.routed;
    }

pub returns-then-waits-clause-passes : goal.returns-then-waits-clause-passes
returns-then-waits-clause-passes c = subst (λ s. Passes (limit_of s.inputs) (plan_of s) (seen s) c.args.link (seen c.pass-passed.new.self)) c.self.view_is c.pass-passed.ensures.passes

pub returns-else-of-eq0-clause-passes : goal.returns-else-of-eq0-clause-passes
returns-else-of-eq0-clause-passes c =
    let passes = subst (λ s. Passes (limit_of s.inputs) (plan_of s) (seen s) c.args.link (seen c.pass-passed.new.self)) c.self.view_is c.pass-passed.ensures.passes in
    elim c.else-of-eq0.branch [
      | else-of-eq0-via-then-of-eq0+else-waits w ↦ rw w.self-is passes
      | else-of-eq0-via-else-of-eq0 w ↦ rw w.self-is passes
    ]

pub look_after_pass-requires-clause-passes : goal.look_after_pass-requires-clause-passes
look_after_pass-requires-clause-passes c =
    (c.self.invariant.masks.passes c.args.link c.requires.link).1 (subst (λ s. CanPass (limit_of s.inputs) (plan_of s) (seen s) c.args.link) (sym c.self.view_is) c.requires.may)

pub look_after_pass-requires-clause-grants : goal.look_after_pass-requires-clause-grants
look_after_pass-requires-clause-grants c = λ bit.
    let s = c.self.inside.switch in
    passes_grants (limit_of s.inputs) (plan_of s) (seen s) c.args.link (seen c.pass-passed.new.self) c.pass-passed.ensures.passes ((c.self.invariant.masks.grants c.args.link c.requires.link).0 bit)
