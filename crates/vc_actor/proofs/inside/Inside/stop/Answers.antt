use Rattle.std.proofs.Common.{refl, true}
use Rattle.vc_actor.proofs.Insides.{is_at, stops_at, keeps_names}
use Rattle.vc_actor.proofs.inside.Inside.stop.Goals as goal

pub returns-clause-stops : goal.returns-clause-stops
returns-clause-stops c =
    let xs = c.self.inside.channels.items in
    let x = c.index_mut.result.now in
    stops_at xs c.args.self.now c.args.chan c.in-Some.at x c.self.view_is
    (is_at xs c.args.self.now c.args.chan c.in-Some.at x c.self.invariant c.self.view_is c.in-Some.ensures.within c.in-Some.ensures.found c.index_mut.ensures.value)

pub returns-clause-names : goal.returns-clause-names
returns-clause-names c =
    let xs = c.self.inside.channels.items in
    let x = c.index_mut.result.now in
    keeps_names xs c.args.self.now c.args.chan c.in-Some.at x (record x { stopped = true }) c.self.view_is
    (is_at xs c.args.self.now c.args.chan c.in-Some.at x c.self.invariant c.self.view_is c.in-Some.ensures.within c.in-Some.ensures.found c.index_mut.ensures.value) refl
