use Rattle.std.proofs.Common.{refl, subst, Some, None}
use Rattle.vc_vcp.specs.Links.{Passes}
use Rattle.vc_vcp.specs.VcpView.{seen, ends_of, passed_of}
use Rattle.vc_vcp.specs.State.{limit_of}
use Rattle.vc_actor.proofs.Passes.{makes_pass}
use Rattle.vc_actor.proofs.node.Node.pass_token.Goals as goal

pub returns-in-Some-clause-ok : goal.returns-in-Some-clause-ok
returns-in-Some-clause-ok c = λ plan k is.
    let v = c.args.self.now.vcp in
    makes_pass plan k c.args.self.now _ c.args.link (passed_of (Some c.in-Some.taken)) is
    (subst (λ o. Passes (limit_of v.ins) (ends_of v) (seen v) c.args.link (passed_of o) (seen c.pass.new.self)) c.in-Some.is (c.in_ok-taken.ensures.passes c.requires.waits))
    c.in_ok-taken.ensures.kept refl c.go_on.ensures.goes_on

pub returns-in-None-clause-ok : goal.returns-in-None-clause-ok
returns-in-None-clause-ok c = λ plan k is.
    let v = c.args.self.now.vcp in
    makes_pass plan k c.args.self.now _ c.args.link None is
    (subst (λ o. Passes (limit_of v.ins) (ends_of v) (seen v) c.args.link (passed_of o) (seen c.pass.new.self)) c.in-None.is (c.in_ok-taken.ensures.passes c.requires.waits))
    c.in_ok-taken.ensures.kept refl (λ w. refl)
