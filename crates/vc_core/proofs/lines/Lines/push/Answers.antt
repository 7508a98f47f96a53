use Rattle.std.proofs.Common.{◌≡◌, ◌<◌, [], ◌∷◌, ◌++◌, length, slice_get, slice_set, Some, sym, ap, ◌∙◌, subst}
use Rattle.vc_tokens.specs.CodeTokens.{token as spelt}
use Rattle.vc_core.specs.Lines.{Lined}
use Rattle.vc_core.specs.Private.ByEnd.{ByEnd}
use Rattle.vc_core.specs.Private.Lines.{LeadsTo, with_way}
use Rattle.vc_core.proofs.ByEnd.{actor_kept, actor_low, leads_there, link_low, same_way, token_came}
use Rattle.vc_core.proofs.LineBits.{end_first}
use Rattle.vc_core.proofs.lines.Lines.push.Goals as goal
use Rattle.vc_switch.proofs.ListWrites.{some_at}

pub push-requires : goal.push-requires
push-requires c =
    let here = some_at c.self.inside.ways.ways c.args.way (subst (λ (z : Lined). c.args.way < length z.ways) (sym c.self.view_is) c.requires) in
    record { way = c.args.way; tokens = here.0; leads = c.end-end.ensures; stand = here.1 }

pub set-requires-clause-actor : goal.set-requires-clause-actor
set-requires-clause-actor c = let x = c.self.inside in actor_kept x.wiring x.ways x.fronts c.self.invariant.0 c.self.invariant.1 c.end-end.result c.args.way c.end-end.ensures

pub set-requires-clause-link : goal.set-requires-clause-link
set-requires-clause-link c = let x = c.self.inside in link_low x.wiring x.ways x.fronts c.self.invariant.0 c.self.invariant.1 c.end-end.result c.args.way c.end-end.ensures

pub invariant_of-self-2 : goal.invariant_of-self-2
invariant_of-self-2 c =
    let x = c.self.inside in
    let f = c.in_ok-push.ensures.ok in
    let first = end_first f.0.tokens (spelt c.args.token) in
    token_came x.wiring x.ways x.fronts c.self.invariant.0 c.self.invariant.1 c.end-end.result f.0.way f.0.leads c.push.new.self c.set.new.self (f.0.tokens ++ spelt c.args.token ∷ []) first.0 first.1 f.1 first.2 c.set.ensures

pub returns-clause-ok : goal.returns-clause-ok
returns-clause-ok c = λ ts stand.
    let x = c.self.inside in
    let f = c.in_ok-push.ensures.ok in
    let way_is = same_way x.wiring x.ways.ends c.end-end.result f.0.way c.args.way c.self.invariant.1 f.0.leads c.end-end.ensures in
    let both : Some f.0.tokens ≡ Some ts = sym f.0.stand ∙ ap (slice_get x.ways.ways) way_is ∙ ap (λ (z : Lined). slice_get z.ways c.args.way) c.self.view_is ∙ stand in
    let same : f.0.tokens ≡ ts = cc in
    ap (λ (z : ByEnd). record { ways = z.ways; wiring = x.wiring }) f.1
    ∙ (λ i. record { ways = slice_set x.ways.ways (way_is i) (same i ++ spelt c.args.token ∷ []); wiring = x.wiring })
    ∙ ap (λ z. with_way z c.args.way (ts ++ spelt c.args.token ∷ [])) c.self.view_is

pub returns-clause-to : goal.returns-clause-to
returns-clause-to c =
    let x = c.self.inside in
    subst (λ (z : Lined). LeadsTo z.wiring c.args.way c.end-end.result.actor) c.self.view_is (leads_there x.wiring x.ways x.fronts c.self.invariant.0 c.self.invariant.1 c.end-end.result c.args.way c.end-end.ensures)

pub returns-clause-few : goal.returns-clause-few
returns-clause-few c = let x = c.self.inside in actor_low x.wiring x.ways x.fronts c.self.invariant.0 c.self.invariant.1 c.end-end.result c.args.way c.end-end.ensures
