use Rattle.std.proofs.Common.{refl, ap, ◌∙◌, slice_set}
use Rattle.vc_vcp.proofs.ListWrites.{on_ok}
use Rattle.vc_actor.specs.ActorView.{views_of}
use Rattle.vc_actor.proofs.Insides.{is_at, exchanges_at, keeps_names, still_differ}
use Rattle.vc_actor.proofs.inside.Inside.exchange.Goals as goal

pub returns-clause-ok : goal.returns-clause-ok
returns-clause-ok c =
    let xs = c.self.inside.channels.items in
    let x = c.index_mut.result.now in
    on_ok c.push.result (λ pushed. ap (λ z. views_of (slice_set xs c.in-Some.at (record x { messages = z }))) pushed
    ∙ exchanges_at xs c.args.self.now c.args.chan c.in-Some.at x c.args.message.now c.self.view_is
    (is_at xs c.args.self.now c.args.chan c.in-Some.at x c.self.invariant c.self.view_is c.in-Some.ensures.within c.in-Some.ensures.found c.index_mut.ensures.value)) c.push.ensures.ok

pub returns-clause-names : goal.returns-clause-names
returns-clause-names c =
    let xs = c.self.inside.channels.items in
    let x = c.index_mut.result.now in
    keeps_names xs c.args.self.now c.args.chan c.in-Some.at x (record x { messages = c.push.new.self }) c.self.view_is
    (is_at xs c.args.self.now c.args.chan c.in-Some.at x c.self.invariant c.self.view_is c.in-Some.ensures.within c.in-Some.ensures.found c.index_mut.ensures.value) refl

pub invariant_of-self : goal.invariant_of-self
invariant_of-self c =
    let xs = c.self.inside.channels.items in
    let x = c.index_mut.result.now in
    let at = is_at xs c.args.self.now c.args.chan c.in-Some.at x c.self.invariant c.self.view_is c.in-Some.ensures.within c.in-Some.ensures.found c.index_mut.ensures.value in
    still_differ xs c.in-Some.at x (record x { messages = c.push.new.self }) c.self.invariant at.here refl
