use Rattle.std.proofs.Common.{◌≡◌, ◌<◌, length, slice_get, Some, sym, ap, ◌∙◌, subst}
use Rattle.vc_core.specs.Lines.{Lined}
use Rattle.vc_core.specs.Private.Fronts.{Marked}
use Rattle.vc_core.specs.Private.ByEnd.{ByEnd}
use Rattle.vc_core.specs.Private.Lines.{with_way}
use Rattle.vc_core.specs.Wiring.{in_at, Comes}
use Rattle.vc_core.specs.declared.ends.End.{End}
use Rattle.vc_core.proofs.ByEnd.{actor_kept, comes_in, last_went, link_low, one_went}
use Rattle.vc_core.proofs.LineBits.{not_empty}
use Rattle.vc_actor.proofs.Turns.{clash}
use Rattle.vc_core.proofs.lines.Lines.take_front.Goals as goal

pub take_front-token-requires : goal.take_front-token-requires
take_front-token-requires c =
    let f = c.requires in
    let into = ap (λ (z : Lined). in_at z.wiring c.args.actor c.args.link) c.self.view_is ∙ f.into in
    let there = subst (λ k. in_at c.self.inside.wiring k c.args.link ≡ Some f.way) (sym c.from.ensures) into in
    record { way = f.way; token = f.token; rest = f.rest; leads = (c.self.invariant.1 c.from.result c.args.link f.way).0 there; stands = ap (λ (z : Lined). slice_get z.ways f.way) c.self.view_is ∙ f.stands }

pub clear-requires-clause-actor : goal.clear-requires-clause-actor
clear-requires-clause-actor c =
    let x = c.self.inside in
    let f = c.take_front-token.ensures.0 in
    subst (λ k. k < length x.fronts) c.from.ensures (actor_kept x.wiring x.ways x.fronts c.self.invariant.0 c.self.invariant.1 (record { actor = c.from.result; link = c.args.link }) f.way f.leads)

pub clear-requires-clause-link : goal.clear-requires-clause-link
clear-requires-clause-link c =
    let x = c.self.inside in
    let f = c.take_front-token.ensures.0 in
    link_low x.wiring x.ways x.fronts c.self.invariant.0 c.self.invariant.1 (record { actor = c.from.result; link = c.args.link }) f.way f.leads

pub invariant_of-self : goal.invariant_of-self
invariant_of-self c =
    let x = c.self.inside in
    let took = c.take_front-token.ensures in
    let f = took.0 in
    last_went x.wiring x.ways x.fronts c.self.invariant.0 c.self.invariant.1 (record { actor = c.from.result; link = c.args.link }) f.way f.leads c.take_front-token.new.self c.clear.new.self f.rest took.2 (took.3.0 c.if-is_last.true)
    (subst (λ k. Marked x.fronts k c.args.link 0 c.clear.new.self) (sym c.from.ensures) c.clear.ensures)

pub invariant_of-self-else-is_last : goal.invariant_of-self-else-is_last
invariant_of-self-else-is_last c =
    let x = c.self.inside in
    let took = c.take_front-token.ensures in
    let f = took.0 in
    let e : End = record { actor = c.from.result; link = c.args.link } in
    let some = not_empty f.rest (λ none. clash c.take_front-token.result.1 c.if-is_last.false (took.3.1 none)) in
    one_went x.wiring x.ways x.fronts c.self.invariant.0 c.self.invariant.1 e f.way f.leads c.take_front-token.new.self f.rest some.0 some.1 took.2 some.2
    (record { way = f.way; token = f.token; rest = f.rest; into = comes_in x.wiring x.ways x.fronts c.self.invariant.0 c.self.invariant.1 e f.way f.leads; stands = f.stands })

pub returns-then-is_last : goal.returns-then-is_last
returns-then-is_last c =
    let x = c.self.inside in
    let took = c.take_front-token.ensures in
    let f = took.0 in
    let into = subst (λ k. in_at x.wiring k c.args.link ≡ Some f.way) c.from.ensures (comes_in x.wiring x.ways x.fronts c.self.invariant.0 c.self.invariant.1 (record { actor = c.from.result; link = c.args.link }) f.way f.leads) in
    let front : Comes c.args.self.now.wiring c.args.self.now.ways c.args.actor c.args.link = record {
      way = f.way;
      token = f.token;
      rest = f.rest;
      into = ap (λ (z : Lined). in_at z.wiring c.args.actor c.args.link) (sym c.self.view_is) ∙ into;
      stands = ap (λ (z : Lined). slice_get z.ways f.way) (sym c.self.view_is) ∙ f.stands;
    } in
    (front, took.1, ap (λ (z : ByEnd). record { ways = z.ways; wiring = x.wiring }) took.2 ∙ ap (λ (z : Lined). with_way z f.way f.rest) c.self.view_is)

pub returns-else-is_last : goal.returns-else-is_last
returns-else-is_last c =
    let x = c.self.inside in
    let took = c.take_front-token.ensures in
    let f = took.0 in
    let into = subst (λ k. in_at x.wiring k c.args.link ≡ Some f.way) c.from.ensures (comes_in x.wiring x.ways x.fronts c.self.invariant.0 c.self.invariant.1 (record { actor = c.from.result; link = c.args.link }) f.way f.leads) in
    let front : Comes c.args.self.now.wiring c.args.self.now.ways c.args.actor c.args.link = record {
      way = f.way;
      token = f.token;
      rest = f.rest;
      into = ap (λ (z : Lined). in_at z.wiring c.args.actor c.args.link) (sym c.self.view_is) ∙ into;
      stands = ap (λ (z : Lined). slice_get z.ways f.way) (sym c.self.view_is) ∙ f.stands;
    } in
    (front, took.1, ap (λ (z : ByEnd). record { ways = z.ways; wiring = x.wiring }) took.2 ∙ ap (λ (z : Lined). with_way z f.way f.rest) c.self.view_is)
