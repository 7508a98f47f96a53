use Rattle.std.proofs.Common.{◌≡◌, Some, ◌∙◌, ap, sym, arith}
use Rattle.std.proofs.lemmas.Option.{slice_get-get_or, slice_get_within}
use Rattle.std.specs.Prelude.{slice_get}
use Rattle.vc_plan.specs.declared.vlink.Vlink.{Vlink}
use Rattle.vc_plan.specs.Delivery.{IsLabelledLink}
use Rattle.vc_plan.proofs.Marks.{each-more}
use Rattle.vc_plan.proofs.Summaries.{no-summaries}
use Rattle.vc_plan.proofs.labelling.labelling_fault.Goals as goal

pub loop-k-init : goal.loop-k-init
loop-k-init c = record {
  known = no-summaries c.args.net.now c.new-known.result.items c.new-known.ensures.items;
  labelled = λ j v lt at. absurd (omega (arith, lt));
}

pub returns-in-Some-clause-first : goal.returns-in-Some-clause-first
returns-in-Some-clause-first c =
    let vlinks = c.args.vlinks.now in
    let k = c.loop-k.k in
    let v = c.index-vlinks-k.result in
    let place = rw c.in-Some.is at c.in_ok-fault.ensures.place in
    let at : slice_get vlinks k ≡ Some v = slice_get-get_or vlinks k v c.loop-k-test.true ∙ ap (λ (x : Vlink). Some x) (sym c.index-vlinks-k.is) in
    record {
      vlink = v;
      there = ap (slice_get vlinks) place ∙ at;
      earlier = λ j x lt. c.loop-k.invariant.labelled j x (omega (arith, lt, place));
      fault = rw c.in-Some.is at c.in_ok-fault.ensures.fault;
    }

pub loop-k-preserved : goal.loop-k-preserved
loop-k-preserved c =
    let vlinks = c.args.vlinks.now in
    let k = c.loop-k.k in
    let v = c.index-vlinks-k.result in
    let at : slice_get vlinks k ≡ Some v = slice_get-get_or vlinks k v c.loop-k-test.true ∙ ap (λ (x : Vlink). Some x) (sym c.index-vlinks-k.is) in
    record {
      known = c.in_ok-fault.ensures.known;
      labelled = each-more (IsLabelledLink c.args.net.now) vlinks k v at c.loop-k.invariant.labelled (rw c.in_default.is at c.in_ok-fault.ensures.delivers);
    }

pub returns-clause-labelled : goal.returns-clause-labelled
returns-clause-labelled c = λ k v at.
    c.loop-k.invariant.labelled k v (omega (arith, slice_get_within c.args.vlinks.now k v at, c.loop-k-test.false)) at
