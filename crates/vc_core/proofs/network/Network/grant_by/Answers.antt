use Rattle.std.proofs.Common.{◌≡◌, ◌<◌, length, slice_get, slice_set, Some, refl, sym, subst}
use Rattle.std.proofs.lemmas.Option.{slice_get_read, slice_get_within}
use Rattle.vc_actor.specs.declared.act.Act.TheVariants as act
use Rattle.vc_core.specs.State.{state_of}
use Rattle.vc_core.proofs.ActorLists.{is_there, may_there}
use Rattle.vc_core.proofs.network.Network.grant_by.Goals as goal

pub index_mut-requires : goal.index_mut-requires
index_mut-requires c =
    let n = c.args.self.now in
    subst (λ z. c.from.result < z) (sym n.actors.ok.0) (is_there (state_of n) c.args.actor c.from.result (act.Fct c.args.link) c.requires c.from.ensures)

pub grant-requires : goal.grant-requires
grant-requires c =
    may_there (state_of c.args.self.now) c.args.actor c.from.result c.index_mut.result.now (act.Fct c.args.link) c.requires c.from.ensures c.index_mut.ensures.value

pub returns : goal.returns
returns c =
    let n = c.args.self.now in
    let less = subst (λ z. z < length n.actors.items) (sym c.from.ensures) (slice_get_within n.actors.items c.args.actor c.requires.actor c.requires.here) in
    let here = slice_get_read n.actors.items (length n.actors.items) c.from.result c.index_mut.result.now refl less c.index_mut.ensures.value in
    record {
      grants = record {
        before = c.index_mut.result.now;
        after = c.grant.new.self;
        here = subst (λ z. slice_get n.actors.items z ≡ Some c.index_mut.result.now) c.from.ensures here;
        new_is = (λ i. record { actors = slice_set n.actors.items (c.from.ensures i) c.grant.new.self; nodes = n.nodes; ways = n.lines.ways; wiring = n.lines.wiring; wires = n.wires; channels = n.channels.items });
        grants = c.grant.ensures;
      };
    }
