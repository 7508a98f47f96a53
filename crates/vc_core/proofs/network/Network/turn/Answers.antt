use Rattle.std.proofs.Common.{IfSome, refl, sym, subst}
use Rattle.vc_core.specs.State.{state_of, IsNetworkOf, MayActAt, MakesEvent, WaysLet}
use Rattle.vc_core.proofs.Awake.{still_awake, then_awake}
use Rattle.vc_core.proofs.Takes.{happens_at}
use Rattle.vc_core.proofs.network.Network.turn.Goals as goal

pub make_turn-requires-clause-may : goal.make_turn-requires-clause-may
make_turn-requires-clause-may c =
    let s = state_of c.args.self.now in
    let e = c.in-Some.next in
    let m = subst (λ o. IfSome o (λ e. MayActAt s e.actor e.act)) c.in-Some.is c.in_ok-next.ensures.may in
    let lets = subst (λ o. IfSome o (λ e. WaysLet s e.actor e.act)) c.in-Some.is c.in_ok-next.ensures.lets in
    happens_at s _ e c.in_ok-next.ensures.same m lets

pub returns-clause-makes : goal.returns-clause-makes
returns-clause-makes c = λ p is.
    let same = c.in_ok-next.ensures.same in
    subst (λ z. MakesEvent p z c.in-Some.next (state_of c.make_turn.new.self)) same (c.in_ok-make_turn.ensures.makes p (subst (IsNetworkOf p) (sym same) is))

pub returns-clause-awake : goal.returns-clause-awake
returns-clause-awake c =
    let a = c.args.self.now in
    let b = c.next.new.self in
    let d = c.make_turn.new.self in
    then_awake (state_of a) (state_of b) (state_of d) c.args.awake.now c.args.awake.now c.make_turn.new.awake c.in_ok-next.ensures.same refl c.in_ok-make_turn.ensures.awake

pub returns-in_default-clause-awake : goal.returns-in_default-clause-awake
returns-in_default-clause-awake c =
    let a = c.args.self.now in
    let b = c.next.new.self in
    still_awake (state_of a) (state_of b) c.args.awake.now c.args.awake.now c.in_ok-next.ensures.same refl
