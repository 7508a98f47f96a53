use Rattle.std.proofs.Common.{slice_get, slice_set, sym, ap, ◌∙◌, subst}
use Rattle.vc_core.specs.Lines.{Lined}
use Rattle.vc_core.specs.Private.ByEnd.{ByEnd}
use Rattle.vc_core.specs.Private.Lines.{LeadsTo, with_way}
use Rattle.vc_core.specs.Wiring.{out_at}
use Rattle.vc_core.proofs.ByEnd.{actor_kept, actor_low, far_way, leads_there, link_low, token_came}
use Rattle.vc_core.proofs.LineBits.{end_first}
use Rattle.vc_core.proofs.lines.Lines.put.Goals as goal

pub put-requires-clause-leads : goal.put-requires-clause-leads
put-requires-clause-leads c =
    let x = c.self.inside in
    let goes = c.requires.way in
    let e = c.far-end.result in
    let out = ap (λ (z : Lined). out_at z.wiring c.args.actor c.args.link) c.self.view_is ∙ goes.out in
    record {
      way = goes.way;
      tokens = goes.tokens;
      leads = (c.self.invariant.1 e.actor e.link goes.way).0 (c.far-end.ensures goes.way out);
      stand = ap (λ (z : Lined). slice_get z.ways goes.way) c.self.view_is ∙ goes.stand;
    }

pub set-requires-clause-actor : goal.set-requires-clause-actor
set-requires-clause-actor c = let x = c.self.inside in let f = c.in_ok-put.ensures.ok.to in actor_kept x.wiring x.ways x.fronts c.self.invariant.0 c.self.invariant.1 c.far-end.result f.way f.leads

pub set-requires-clause-link : goal.set-requires-clause-link
set-requires-clause-link c = let x = c.self.inside in let f = c.in_ok-put.ensures.ok.to in link_low x.wiring x.ways x.fronts c.self.invariant.0 c.self.invariant.1 c.far-end.result f.way f.leads

pub invariant_of-self-2 : goal.invariant_of-self-2
invariant_of-self-2 c =
    let x = c.self.inside in
    let f = c.in_ok-put.ensures.ok in
    let first = end_first f.to.tokens f.puts.token in
    token_came x.wiring x.ways x.fronts c.self.invariant.0 c.self.invariant.1 c.far-end.result f.to.way f.to.leads c.put.new.self c.set.new.self f.more first.0 first.1 f.new_is (f.puts.ends ∙ first.2) c.set.ensures

pub returns-clause-ok : goal.returns-clause-ok
returns-clause-ok c = λ way out.
    let x = c.self.inside in
    let f = c.in_ok-put.ensures.ok in
    let way_is = far_way x.wiring x.ways c.far-end.result c.self.invariant.1 f.to way (c.far-end.ensures way (ap (λ (z : Lined). out_at z.wiring c.args.actor c.args.link) c.self.view_is ∙ out)) in
    record {
      tokens = f.to.tokens;
      more = f.more;
      stand = ap (λ (z : Lined). slice_get z.ways way) (sym c.self.view_is) ∙ ap (slice_get x.ways.ways) (sym way_is) ∙ f.to.stand;
      new_is = ap (λ (z : ByEnd). record { ways = z.ways; wiring = x.wiring }) f.new_is ∙ (λ i. record { ways = slice_set x.ways.ways (way_is i) f.more; wiring = x.wiring }) ∙ ap (λ z. with_way z way f.more) c.self.view_is;
      puts = f.puts;
    }

pub returns-clause-to : goal.returns-clause-to
returns-clause-to c = λ way out.
    let x = c.self.inside in
    let into = c.far-end.ensures way (ap (λ (z : Lined). out_at z.wiring c.args.actor c.args.link) c.self.view_is ∙ out) in
    let e = c.far-end.result in
    subst (λ (z : Lined). LeadsTo z.wiring way e.actor) c.self.view_is (leads_there x.wiring x.ways x.fronts c.self.invariant.0 c.self.invariant.1 e way ((c.self.invariant.1 e.actor e.link way).0 into))

pub returns-clause-few : goal.returns-clause-few
returns-clause-few c = let x = c.self.inside in let f = c.in_ok-put.ensures.ok.to in actor_low x.wiring x.ways x.fronts c.self.invariant.0 c.self.invariant.1 c.far-end.result f.way f.leads
