use Rattle.std.proofs.Common.{IfOk, Some, sym, subst}
use Rattle.vc_actor.specs.Able.{NodeCan}
use Rattle.vc_actor.specs.OfPlan.{IsNodeOf}
use Rattle.vc_actor.specs.ActorView.{OfNode}
use Rattle.vc_actor.specs.Turns.{IsTurn}
use Rattle.vc_actor.specs.Private.Kinds.{FindsOf}
use Rattle.vc_actor.specs.Private.Turns.{FindsAt, FindsMove}
use Rattle.vc_actor.specs.declared.act.Act.TheVariants as act
use Rattle.vc_actor.specs.Private.Kinds as kind
use Rattle.vc_actor.proofs.Turns.{passes, puts, grants, moves, of_node, if_ok}
use Rattle.vc_actor.proofs.node_actor.NodeActor.next.Goals as goal

pub returns-in-Some-clause-finds : goal.returns-in-Some-clause-finds
returns-in-Some-clause-finds c = λ plan k is. (moves plan k c.args.self.now c.args.room (Some c.in-Some.act) (c.in-Some.ensures.finds plan k is)).0

pub returns-in-Some-clause-lets : goal.returns-in-Some-clause-lets
returns-in-Some-clause-lets c = c.in-Some.ensures.lets c.args.room

pub returns-in-Some-next_pass-clause-finds : goal.returns-in-Some-next_pass-clause-finds
returns-in-Some-next_pass-clause-finds c = λ plan k is.
    let n = c.args.self.now in
    (subst (FindsOf kind.Pass plan k (OfNode n) c.args.room) c.in-Some-next_pass.is
    (passes plan k n c.args.room c.next_pass.result (subst (λ z. FindsAt (λ l. act.Pass l) (NodeCan plan k z) c.next_pass.result) c.self.view_is (c.next_pass.ensures.finds plan k (subst (IsNodeOf plan k) (sym c.self.view_is) is))))).0

pub returns-in-Some-next_pass-clause-lets : goal.returns-in-Some-next_pass-clause-lets
returns-in-Some-next_pass-clause-lets c = c.in-Some-next_pass.ensures.lets c.args.room

pub returns-in-Some-next_put-clause-finds : goal.returns-in-Some-next_put-clause-finds
returns-in-Some-next_put-clause-finds c = λ plan k is.
    let n = c.args.self.now in
    (subst (FindsOf kind.Put plan k (OfNode n) c.args.room) c.in-Some-next_put.is
    (puts plan k (OfNode n) c.args.room c.next_put.result (subst (λ z. FindsAt (λ l. act.Put l) (IsTurn plan k (OfNode z) c.args.room) c.next_put.result) c.self.view_is (c.next_put.ensures.finds plan k (subst (IsNodeOf plan k) (sym c.self.view_is) is))))).0

pub returns-in-Some-next_grant-clause-finds : goal.returns-in-Some-next_grant-clause-finds
returns-in-Some-next_grant-clause-finds c = λ plan k is.
    let n = c.args.self.now in
    (subst (FindsOf kind.Fct plan k (OfNode n) c.args.room) c.in-Some-next_grant.is
    (grants plan k (OfNode n) c.args.room c.next_grant.result (subst (λ z. FindsAt (λ l. act.Fct l) (IsTurn plan k (OfNode z) c.args.room) c.next_grant.result) c.self.view_is (c.next_grant.ensures.finds plan k (subst (IsNodeOf plan k) (sym c.self.view_is) is))))).0

pub returns-clause-finds : goal.returns-clause-finds
returns-clause-finds c = λ plan k is.
    let n = c.args.self.now in
    let room = c.args.room in
    let is' = subst (IsNodeOf plan k) (sym c.self.view_is) is in
    let pass = subst (FindsOf kind.Pass plan k (OfNode n) room) c.in_default-next_pass.is (passes plan k n room c.next_pass.result (subst (λ z. FindsAt (λ l. act.Pass l) (NodeCan plan k z) c.next_pass.result) c.self.view_is (c.next_pass.ensures.finds plan k is'))) in
    let put = subst (FindsOf kind.Put plan k (OfNode n) room) c.in_default-next_put.is
    (puts plan k (OfNode n) room c.next_put.result (subst (λ z. FindsAt (λ l. act.Put l) (IsTurn plan k (OfNode z) room) c.next_put.result) c.self.view_is (c.next_put.ensures.finds plan k is'))) in
    let fct = subst (FindsOf kind.Fct plan k (OfNode n) room) c.in_default-next_grant.is
    (grants plan k (OfNode n) room c.next_grant.result (subst (λ z. FindsAt (λ l. act.Fct l) (IsTurn plan k (OfNode z) room) c.next_grant.result) c.self.view_is (c.next_grant.ensures.finds plan k is'))) in
    if_ok _ _ c.next_move.result (λ o found. of_node plan k n room o pass put fct (moves plan k n room o found))
    (subst (λ z. IfOk c.next_move.result (FindsMove plan k z)) c.self.view_is (c.next_move.ensures.finds plan k is'))
