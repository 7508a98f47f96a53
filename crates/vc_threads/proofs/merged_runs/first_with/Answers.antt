use Rattle.std.proofs.Common.{◌≡◌, inl, inr, None, true, ap, subst, ◌∙◌, arith}
use Rattle.std.proofs.lemmas.Bool.{cases_eq}
use Rattle.std.proofs.lemmas.Option.{get_or_from_slice_get, slice_get_within}
use Rattle.vc_threads.specs.Private.MergedRuns.{IsNext}
use Rattle.vc_threads.specs.declared.merged_runs.Front.{Front}
use Rattle.vc_threads.proofs.merged_runs.first_with.Goals as goal

pub loop-k-preserved : goal.loop-k-preserved
loop-k-preserved c =
    let fs = c.args.fronts.now in
    let k = c.loop-k.k in
    let at = c.args.stamp in
    let d : Front = record { place = 0; at = None } in
    let not_here : IsNext fs k at → ⊥ = λ next.
    let sure : c.comes_at.result ≡ true = c.comes_at.ensures.1 (ap (λ (f : Front). f.at) (get_or_from_slice_get fs k next.0 d next.1) ∙ next.2) in
    let no = c.if-comes_at.false in
    absurd (cc)
    in
    λ j from less next. elim (cases_eq j k) [
      | inl e ↦ not_here (subst (λ z. IsNext fs z at) e next)
      | inr ne ↦ c.loop-k.invariant j from (omega arith) next
    ]

pub returns : goal.returns
returns c = λ j from next.
    c.loop-k.invariant j from
    (let within = slice_get_within c.args.fronts.now j next.0 next.1 in
    let all = c.loop-k-test.false in
    omega (arith, within, all))
    next
