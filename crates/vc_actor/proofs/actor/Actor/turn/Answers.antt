use Rattle.std.proofs.Common.{sym, subst}
use Rattle.std.specs.Prelude.{IfSome}
use Rattle.vc_actor.specs.OfPlan.{IsActorOf}
use Rattle.vc_actor.specs.Turns.{FindsTurn, RoomLets}
use Rattle.vc_actor.specs.Private.Turns.{IsTold}
use Rattle.vc_actor.proofs.Turns.{turned, if_ok}
use Rattle.vc_actor.proofs.actor.Actor.turn.Goals as goal

pub returns-in-None-clause-makes : goal.returns-in-None-clause-makes
returns-in-None-clause-makes c = λ plan k is. (c.in_ok-next.ensures.same, subst (FindsTurn plan k c.args.self.now c.args.room) c.in-None.is (c.in_ok-next.ensures.finds plan k is))

pub returns-in-Some-clause-makes : goal.returns-in-Some-clause-makes
returns-in-Some-clause-makes c = λ plan k is.
    let same = c.in_ok-next.ensures.same in
    let may = subst (FindsTurn plan k c.args.self.now c.args.room) c.in-Some.is (c.in_ok-next.ensures.finds plan k is) in
    if_ok _ _ c.turn_by.result (λ t told. turned plan k c.args.self.now _ c.args.room c.in-Some.act t may (subst (λ x. IsTold plan k x c.in-Some.act t c.turn_by.new.self) same told))
    (c.turn_by.ensures.makes plan k (subst (IsActorOf plan k) (sym same) is))

pub returns-in-Some-clause-room : goal.returns-in-Some-clause-room
returns-in-Some-clause-room c =
    c.turn_by.ensures.room c.args.room (subst (λ o. IfSome o (RoomLets c.args.room)) c.in-Some.is c.in_ok-next.ensures.lets)
