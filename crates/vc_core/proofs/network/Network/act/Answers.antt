use Rattle.std.proofs.Common.{◌≡◌, ◌<◌, length, slice_get, slice_set, Some, refl, sym, subst}
use Rattle.std.proofs.lemmas.Option.{slice_get_read, slice_get_within}
use Rattle.vc_vcp.proofs.ListWrites.{on_ok}
use Rattle.vc_core.specs.State.{state_of, MakesEvent}
use Rattle.vc_core.proofs.Events.{own_happens}
use Rattle.vc_core.proofs.ActorLists.{is_there, may_there, unchanged}
use Rattle.vc_core.proofs.network.Network.act.Goals as goal
use Rattle.vc_core.proofs.ByEnd.{on_err}

pub index_mut-requires : goal.index_mut-requires
index_mut-requires c =
    let n = c.args.self.now in
    let e = c.args.event.now in
    subst (λ z. c.from.result < z) (sym n.actors.ok.0) (is_there (state_of n) e.actor c.from.result e.act c.requires.may c.from.ensures)

pub make-requires-clause-may : goal.make-requires-clause-may
make-requires-clause-may c =
    let e = c.args.event.now in
    may_there (state_of c.args.self.now) e.actor c.from.result c.index_mut.result.now e.act c.requires.may c.from.ensures c.index_mut.ensures.value

pub returns-clause-refused : goal.returns-clause-refused
returns-clause-refused c =
    let s = state_of c.args.self.now in
    let e = c.args.event.now in
    on_err c.make.result (unchanged s c.from.result c.index_mut.result.now c.make.new.self (is_there s e.actor c.from.result e.act c.requires.may c.from.ensures) c.index_mut.ensures.value) c.make.ensures.err

pub returns-clause-makes : goal.returns-clause-makes
returns-clause-makes c = λ p is.
    let n = c.args.self.now in
    let m = c.requires.may in
    let e = c.args.event.now in
    let less = subst (λ z. z < length n.actors.items) (sym c.from.ensures) (slice_get_within n.actors.items e.actor m.actor m.here) in
    let read = slice_get_read n.actors.items (length n.actors.items) c.from.result c.index_mut.result.now refl less c.index_mut.ensures.value in
    let here = subst (λ z. slice_get n.actors.items z ≡ Some c.index_mut.result.now) c.from.ensures read in
    on_ok c.make.result (λ made.
    subst (MakesEvent p (state_of n) e)
    (λ i. record { actors = slice_set n.actors.items (sym c.from.ensures i) c.make.new.self; nodes = n.nodes; ways = n.lines.ways; wiring = n.lines.wiring; wires = n.wires; channels = n.channels.items })
    (own_happens p (state_of n) e c.index_mut.result.now c.make.new.self is here made)) (c.make.ensures.ok _ e.actor (is.actors e.actor c.index_mut.result.now here))
