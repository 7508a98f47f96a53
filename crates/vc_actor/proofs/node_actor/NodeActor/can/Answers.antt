use Rattle.std.proofs.Common.{◌↔◌, IsTrue, sym, subst}
use Rattle.vc_network.specs.Plan.{ends}
use Rattle.vc_vcp.specs.Able.{CanPass}
use Rattle.vc_vcp.specs.VcpView.{seen}
use Rattle.vc_vcp.specs.State.{limit_of}
use Rattle.vc_actor.specs.Able.{NodeCan}
use Rattle.vc_actor.specs.Acts.{NodeMay}
use Rattle.vc_actor.specs.OfPlan.{IsNodeOf}
use Rattle.vc_actor.proofs.AbleMoves.{can_put_by, grant_by, pass_by, put_by}
use Rattle.vc_actor.proofs.node_actor.NodeActor.can.Goals as goal

pub returns-in-Proc-clause-can : goal.returns-in-Proc-clause-can
returns-in-Proc-clause-can c =
    subst (λ n. (plan : _) (k : _) → IsNodeOf plan k n → IsTrue c.can_move.result ↔ NodeCan plan k n c.args.act.now) c.self.view_is
    (λ plan k is. subst (λ a. IsTrue c.can_move.result ↔ NodeCan plan k c.self.inside.node a) (sym c.in-Proc.is) (c.can_move.ensures.can plan k is))

pub returns-in-Put-clause-may : goal.returns-in-Put-clause-may
returns-in-Put-clause-may c =
    let n = c.self.inside.node in
    subst (λ m. IsTrue c.may_put.result ↔ NodeMay m c.args.act.now) c.self.view_is
    (subst (λ a. IsTrue c.may_put.result ↔ NodeMay n a) (sym c.in-Put.is) (put_by n.vcp c.in-Put.link c.may_put.result c.links.ensures.ends.0 c.may_put.ensures.may))

pub returns-in-Put-clause-can : goal.returns-in-Put-clause-can
returns-in-Put-clause-can c =
    let n = c.self.inside.node in
    subst (λ m. (plan : _) (k : _) → IsNodeOf plan k m → IsTrue c.may_put.result ↔ NodeCan plan k m c.args.act.now) c.self.view_is
    (λ plan k is. subst (λ a. IsTrue c.may_put.result ↔ NodeCan plan k n a) (sym c.in-Put.is) (can_put_by n.vcp c.in-Put.link c.may_put.result c.links.ensures.ends.0 c.may_put.ensures.may c.may_put.ensures.can))

pub returns-in-Fct-clause-may : goal.returns-in-Fct-clause-may
returns-in-Fct-clause-may c =
    let n = c.self.inside.node in
    subst (λ m. IsTrue c.may_grant.result ↔ NodeMay m c.args.act.now) c.self.view_is
    (subst (λ a. IsTrue c.may_grant.result ↔ NodeMay n a) (sym c.in-Fct.is) (grant_by n.vcp c.in-Fct.link c.may_grant.result c.links.ensures.ends.1 c.may_grant.ensures.may))

pub returns-in-Fct-clause-can : goal.returns-in-Fct-clause-can
returns-in-Fct-clause-can c =
    let n = c.self.inside.node in
    subst (λ m. (plan : _) (k : _) → IsNodeOf plan k m → IsTrue c.may_grant.result ↔ NodeCan plan k m c.args.act.now) c.self.view_is
    (λ plan k is. subst (λ a. IsTrue c.may_grant.result ↔ NodeCan plan k n a) (sym c.in-Fct.is) (c.may_grant.ensures.can))

pub returns-in-Pass-clause-may : goal.returns-in-Pass-clause-may
returns-in-Pass-clause-may c =
    let n = c.self.inside.node in
    subst (λ m. IsTrue c.may_pass.result ↔ NodeMay m c.args.act.now) c.self.view_is
    (subst (λ a. IsTrue c.may_pass.result ↔ NodeMay n a) (sym c.in-Pass.is) (pass_by n.vcp c.in-Pass.link _ _ c.may_pass.result c.links.ensures.ends.1 c.may_pass.ensures.can c.may_pass.ensures.waits))

pub returns-in-Pass-clause-can : goal.returns-in-Pass-clause-can
returns-in-Pass-clause-can c =
    let n = c.self.inside.node in
    subst (λ m. (plan : _) (k : _) → IsNodeOf plan k m → IsTrue c.may_pass.result ↔ NodeCan plan k m c.args.act.now) c.self.view_is
    (λ plan k is. subst (λ a. IsTrue c.may_pass.result ↔ NodeCan plan k n a) (sym c.in-Pass.is) (subst (λ m. IsTrue c.may_pass.result ↔ CanPass m (ends plan k) (seen n.vcp) c.in-Pass.link) is.limit (subst (λ es. IsTrue c.may_pass.result ↔ CanPass (limit_of n.vcp.ins) es (seen n.vcp) c.in-Pass.link) is.ends c.may_pass.ensures.can)))
