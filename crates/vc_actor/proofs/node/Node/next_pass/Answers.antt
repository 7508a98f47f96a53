use Rattle.std.proofs.Common.{◌≤◌, refl, subst, inl, inr, arith}
use Rattle.std.proofs.lemmas.Bool.{cases_lt}
use Rattle.vc_network.specs.Plan.{ends}
use Rattle.vc_vcp.specs.Able.{CanPass}
use Rattle.vc_vcp.specs.VcpView.{seen}
use Rattle.vc_vcp.specs.State.{limit_of}
use Rattle.vc_actor.proofs.AbleMoves.{no_pass}
use Rattle.vc_actor.proofs.node.Node.next_pass.Goals as goal

pub returns-then-may_pass-clause-finds : goal.returns-then-may_pass-clause-finds
returns-then-may_pass-clause-finds c = λ plan k is.
    let v = c.args.self.now.vcp in
    let can = c.if-may_pass.ensures.can.0 refl in
    (c.loop-link.link, refl, subst (λ m. CanPass m (ends plan k) (seen v) c.loop-link.link) is.limit (subst (λ es. CanPass (limit_of v.ins) es (seen v) c.loop-link.link) is.ends can), c.loop-link.invariant plan k is)

pub returns-clause-finds : goal.returns-clause-finds
returns-clause-finds c = λ plan k is link can. elim (cases_lt link c.loop-link.link) [
  | inl less ↦ c.loop-link.invariant plan k is link less can
  | inr later ↦ (let past = c.loop-link-test.false in
      let far : 4 ≤ link = omega arith in
      no_pass c.args.self.now.vcp link _ _ c.links.ensures.ends.1 4 refl far can)
]
