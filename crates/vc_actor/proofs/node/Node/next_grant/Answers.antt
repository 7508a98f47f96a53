use Rattle.std.proofs.Common.{◌<◌, refl, arith}
use Rattle.vc_actor.specs.ActorView.{OfNode}
use Rattle.vc_actor.specs.Turns.{IsTurn}
use Rattle.vc_actor.specs.declared.act.Act.TheVariants.{Fct}
use Rattle.vc_actor.proofs.Turns.{none_more, clash}
use Rattle.vc_actor.proofs.node.Node.next_grant.Goals.{else-has_room-via-then-has_room+else-may_grant, else-has_room-via-else-has_room}
use Rattle.vc_actor.proofs.node.Node.next_grant.Goals as goal

pub returns-then-may_grant-clause-finds : goal.returns-then-may_grant-clause-finds
returns-then-may_grant-clause-finds c = λ plan k is.
    (c.loop-link.link, refl, record { can = c.if-may_grant.ensures.can.0 refl; lets = c.if-has_room.ensures.0 refl }, c.loop-link.invariant plan k is)

pub loop-link-preserved : goal.loop-link-preserved
loop-link-preserved c = λ plan k is.
    none_more (IsTurn plan k (OfNode c.args.self.now) c.args.room) (λ l. Fct l) c.loop-link.link (c.loop-link.invariant plan k is)
    (elim c.else-has_room.branch [
      | else-has_room-via-then-has_room+else-may_grant w ↦ (λ turn. clash w.may_grant.result w.if-may_grant.false (w.may_grant.ensures.can.1 turn.can))
      | else-has_room-via-else-has_room w ↦ (λ turn. clash c.has_room.result w.if-has_room.false (c.has_room.ensures.1 turn.lets))
    ])

pub returns-clause-finds : goal.returns-clause-finds
returns-clause-finds c = λ plan k is link turn.
    let past = c.loop-link-test.false in
    let few = turn.can.0 in
    let less : link < c.loop-link.link = omega arith in
    c.loop-link.invariant plan k is link less turn
