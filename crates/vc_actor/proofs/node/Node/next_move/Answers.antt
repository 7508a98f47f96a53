use Rattle.std.proofs.Common.{sym, subst, refl}
use Rattle.std.specs.List.{Contains}
use Rattle.vc_actor.proofs.AbleMoves.{can_listed}
use Rattle.vc_actor.proofs.MoveLists.{in_neither}
use Rattle.vc_actor.proofs.Turns.{found_move}
use Rattle.vc_actor.proofs.node.Node.next_move.Goals as goal

pub returns-in-None-clause-finds : goal.returns-in-None-clause-finds
returns-in-None-clause-finds c = λ plan k is.
    let n = c.args.self.now in
    found_move plan k n c.first_let-in-None.result (c.first_let-in-None.ensures.some plan k is)
    (λ e m can. in_neither c.args.moves.now c.first_from.result m
    (λ h. c.first_let-in-None.ensures.none plan k m is e (subst (λ xs. Contains xs m) (sym c.split_at.ensures.front) h) can)
    (λ h. c.in-None.ensures.none plan k m is refl (subst (λ xs. Contains xs m) (sym c.split_at.ensures.back) h) can)
    (subst (λ xs. Contains xs m) (sym c.requires) (can_listed plan k n m can)))
