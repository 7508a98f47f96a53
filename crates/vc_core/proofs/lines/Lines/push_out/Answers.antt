use Rattle.std.proofs.Common.{◌≡◌, [], ◌∷◌, ◌++◌, slice_get, slice_set, Some, sym, ap, ◌∙◌, subst}
use Rattle.vc_tokens.specs.CodeTokens.{token as spelt}
use Rattle.vc_core.specs.Lines.{Lined}
use Rattle.vc_core.specs.Private.ByEnd.{ByEnd}
use Rattle.vc_core.specs.Private.Lines.{LeadsTo, with_way}
use Rattle.vc_core.specs.Wiring.{out_at}
use Rattle.vc_core.proofs.ByEnd.{actor_kept, actor_low, far_way, leads_there, link_low, token_came}
use Rattle.vc_core.proofs.LineBits.{end_first}
use Rattle.vc_core.proofs.lines.Lines.push_out.Goals as goal

pub push-requires : goal.push-requires
push-requires c =
    let x = c.self.inside in
    let goes = c.requires in
    let e = c.far-end.result in
    let out = ap (λ (z : Lined). out_at z.wiring c.args.actor c.args.link) c.self.view_is ∙ goes.out in
    record {
      way = goes.way;
      tokens = goes.tokens;
      leads = (c.self.invariant.1 e.actor e.link goes.way).0 (c.far-end.ensures goes.way out);
      stand = ap (λ (z : Lined). slice_get z.ways goes.way) c.self.view_is ∙ goes.stand;
    }

pub set-requires-clause-actor : goal.set-requires-clause-actor
set-requires-clause-actor c = let x = c.self.inside in let f = c.in_ok-push.ensures.ok.0 in actor_kept x.wiring x.ways x.fronts c.self.invariant.0 c.self.invariant.1 c.far-end.result f.way f.leads

pub set-requires-clause-link : goal.set-requires-clause-link
set-requires-clause-link c = let x = c.self.inside in let f = c.in_ok-push.ensures.ok.0 in link_low x.wiring x.ways x.fronts c.self.invariant.0 c.self.invariant.1 c.far-end.result f.way f.leads

pub invariant_of-self-2 : goal.invariant_of-self-2
invariant_of-self-2 c =
    let x = c.self.inside in
    let f = c.in_ok-push.ensures.ok in
    let first = end_first f.0.tokens (spelt c.args.token) in
    token_came x.wiring x.ways x.fronts c.self.invariant.0 c.self.invariant.1 c.far-end.result f.0.way f.0.leads c.push.new.self c.set.new.self (f.0.tokens ++ spelt c.args.token ∷ []) first.0 first.1 f.1 first.2 c.set.ensures

pub returns-clause-ok : goal.returns-clause-ok
returns-clause-ok c = λ way ts out stand.
    let x = c.self.inside in
    let f = c.in_ok-push.ensures.ok in
    let way_is = far_way x.wiring x.ways c.far-end.result c.self.invariant.1 f.0 way (c.far-end.ensures way (ap (λ (z : Lined). out_at z.wiring c.args.actor c.args.link) c.self.view_is ∙ out)) in
    let both : Some f.0.tokens ≡ Some ts = sym f.0.stand ∙ ap (slice_get x.ways.ways) way_is ∙ ap (λ (z : Lined). slice_get z.ways way) c.self.view_is ∙ stand in
    let same : f.0.tokens ≡ ts = cc in
    ap (λ (z : ByEnd). record { ways = z.ways; wiring = x.wiring }) f.1
    ∙ (λ i. record { ways = slice_set x.ways.ways (way_is i) (same i ++ spelt c.args.token ∷ []); wiring = x.wiring })
    ∙ ap (λ z. with_way z way (ts ++ spelt c.args.token ∷ [])) c.self.view_is

pub returns-clause-to : goal.returns-clause-to
returns-clause-to c = λ way out.
    let x = c.self.inside in
    let into = c.far-end.ensures way (ap (λ (z : Lined). out_at z.wiring c.args.actor c.args.link) c.self.view_is ∙ out) in
    let e = c.far-end.result in
    subst (λ (z : Lined). LeadsTo z.wiring way e.actor) c.self.view_is (leads_there x.wiring x.ways x.fronts c.self.invariant.0 c.self.invariant.1 e way ((c.self.invariant.1 e.actor e.link way).0 into))

pub returns-clause-few : goal.returns-clause-few
returns-clause-few c = let x = c.self.inside in let f = c.in_ok-push.ensures.ok.0 in actor_low x.wiring x.ways x.fronts c.self.invariant.0 c.self.invariant.1 c.far-end.result f.way f.leads
