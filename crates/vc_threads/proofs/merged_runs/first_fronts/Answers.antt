use Rattle.std.proofs.Common.{[], ◌∷◌, ◌++◌, map, take, ap, sym, ◌∙◌, take_all}
use Rattle.std.proofs.lemmas.List.{take_more, map-append}
use Rattle.vc_threads.specs.Private.MergedRuns.{front_of}
use Rattle.vc_threads.proofs.merged_runs.first_fronts.Goals as goal

pub loop-run-preserved : goal.loop-run-preserved
loop-run-preserved c =
    let xs = c.args.runs.now in
    let i = c.loop-run.run-index in
    let r = c.run-item.result in
    c.in_ok-push.ensures.items ∙ (ap (λ fs. fs ++ c.front_at.result ∷ []) c.loop-run.invariant ∙ (ap (λ f. map (λ r. front_of r 0) (take i xs) ++ f ∷ []) c.front_at.ensures
    ∙ sym (ap (map (λ r. front_of r 0)) (take_more xs i r c.loop-run-test.true ∙ ap (λ x. take i xs ++ x ∷ []) (sym c.run-item.is)) ∙ map-append (λ r. front_of r 0) (take i xs) (r ∷ []))))

pub returns : goal.returns
returns c = c.loop-run.invariant ∙ ap (map (λ r. front_of r 0)) (take_all c.loop-run.run-index c.args.runs.now c.loop-run-test.false)
