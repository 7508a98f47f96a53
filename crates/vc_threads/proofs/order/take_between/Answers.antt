use Rattle.std.proofs.Common.{◌≡◌, ◌<◌, length, sym, subst, ◌∙◌}
use Rattle.vc_threads.specs.Private.Order.{AtLinks, HasEnd, IsLeft, TakenBy}
use Rattle.vc_threads.specs.Wires.{OutLooked}
use Rattle.vc_threads.specs.Works.{Out, In}
use Rattle.vc_threads.proofs.RingViews.{found, one_end, taken_none}
use Rattle.vc_threads.proofs.Goings.{any_default}
use Rattle.vc_threads.proofs.Looks.{looked_same, looked_then}
use Rattle.vc_threads.proofs.Zips.{zip_same, zip_set, zip_step}
use Rattle.vc_threads.proofs.order.take_between.Goals as goal
use Rattle.vc_actor.proofs.Turns.{if_ok}

pub take_rest-requires : goal.take_rest-requires
take_rest-requires c =
    let x = c.index_mut.result.now in
    let y = c.index_mut-2.result.now in
    let f = found c.as_slice.result.now c.args.outs.now.items c.place_out-a.result c.args.from x c.as_slice.ensures.value c.place_out-a.ensures.within c.index_mut.ensures.value c.place_out-a.ensures.link in
    let g = found c.as_slice-2.result.now c.args.ins.now.items c.place_in-b.result c.args.to y c.as_slice-2.ensures.value c.place_in-b.ensures.within c.index_mut-2.ensures.value c.place_in-b.ensures.link in
    c.requires.pair x y f.0 g.0 f.1 g.1

pub returns : goal.returns
returns c =
    let os = c.args.outs.now.items in
    let is = c.args.ins.now.items in
    let a = c.place_out-a.result in
    let b = c.place_in-b.result in
    let x = c.index_mut.result.now in
    let y = c.index_mut-2.result.now in
    let new = c.take_rest.new.into in
    let f = found c.as_slice.result.now os a c.args.from x c.as_slice.ensures.value c.place_out-a.ensures.within c.index_mut.ensures.value c.place_out-a.ensures.link in
    let g = found c.as_slice-2.result.now is b c.args.to y c.as_slice-2.ensures.value c.place_in-b.ensures.within c.index_mut-2.ensures.value c.place_in-b.ensures.link in
    let within = subst (λ w. a < length w) c.as_slice.ensures.value c.place_out-a.ensures.within in
    let within2 = subst (λ w. b < length w) c.as_slice-2.ensures.value c.place_in-b.ensures.within in
    let By : In → In → Type 0 = TakenBy (λ link. link ≡ c.args.to) in
    record {
      outs = zip_step OutLooked looked_then os os a x c.take_rest.new.out (zip_same OutLooked looked_same os) within (subst (λ v. OutLooked v c.take_rest.new.out) c.index_mut.ensures.value c.take_rest.ensures.out);
      ins = zip_set By is is b new (zip_same By (taken_none (λ link. link ≡ c.args.to)) is) within2 (λ d.
          subst (λ v. By v new) (c.index_mut-2.ensures.value ∙ any_default is b y d within2) (c.take_rest.ensures.into, λ none. absurd (none g.1)));
      left = if_ok (λ tokens. IsLeft tokens.items x y) (λ tokens. AtLinks (IsLeft tokens.items) os is c.args.from c.args.to) c.take_rest.result
          (λ tokens left o i co ci eo ei.
          subst (λ (v : Out). IsLeft tokens.items v i) (one_end os x o c.requires.outs_apart f.0 co (f.1 ∙ sym eo))
          (subst (λ (w : In). IsLeft tokens.items x w) (one_end is y i c.requires.ins_apart g.0 ci (g.1 ∙ sym ei)) left))
          c.take_rest.ensures.left;
    }

pub place_out-a-requires : goal.place_out-a-requires
place_out-a-requires c = subst (λ xs. HasEnd xs c.args.from) (sym c.as_slice.ensures.value) c.requires.out

pub place_in-b-requires : goal.place_in-b-requires
place_in-b-requires c = subst (λ xs. HasEnd xs c.args.to) (sym c.as_slice-2.ensures.value) c.requires.into
