use Rattle.std.proofs.Common.{sym, subst}
use Rattle.vc_core.specs.PacketPlace.{FindsPlace}
use Rattle.vc_core.specs.State.{state_of}
use Rattle.vc_core.proofs.PacketPlaces.{are_owned, none_stands, unfinished}
use Rattle.vc_core.proofs.network.Network.place.Goals as goal

pub returns-clause-unfinished : goal.returns-clause-unfinished
returns-clause-unfinished c = λ p events replays less.
    unfinished p events (state_of c.args.self.now) c.args.chan c.place_by.result replays less
    (c.place_by.ensures p replays.is (are_owned p events (state_of c.args.self.now) (record { is = replays.is; happen = replays.runs.happen })) (sym (c.in_ok-ends.ensures p replays.is)))

pub returns-clause-finds : goal.returns-clause-finds
returns-clause-finds c = λ p events reached.
    c.place_by.ensures p reached.is (are_owned p events (state_of c.args.self.now) reached) (sym (c.in_ok-ends.ensures p reached.is))

pub returns-in_err-ends-clause-finds : goal.returns-in_err-ends-clause-finds
returns-in_err-ends-clause-finds c = λ p events reached.
    let s = state_of c.args.self.now in
    subst (FindsPlace p s c.args.chan) (sym c.from_residual.ensures) (none_stands p s c.args.chan (sym (c.in_err-ends.ensures p reached.is)))

pub returns-in_err-ends-clause-unfinished : goal.returns-in_err-ends-clause-unfinished
returns-in_err-ends-clause-unfinished c = λ p events replays less.
    let s = state_of c.args.self.now in
    unfinished p events s c.args.chan c.from_residual.result replays less
    (subst (FindsPlace p s c.args.chan) (sym c.from_residual.ensures) (none_stands p s c.args.chan (sym (c.in_err-ends.ensures p replays.is))))
