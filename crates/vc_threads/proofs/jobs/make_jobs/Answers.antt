use Rattle.std.proofs.Common.{ap, arith, get_or, length, sym, subst, ◌∙◌}
use Rattle.std.proofs.lemmas.List.{length-map}
use Rattle.std.proofs.lemmas.Option.{slice_get-get_or}
use Rattle.vc_accepted.specs.NetworkOf.{network_of}
use Rattle.vc_core.proofs.WayTable.{few}
use Rattle.vc_threads.specs.Private.Threads.{actor_in}
use Rattle.vc_threads.specs.Private.Works.{IsOfSomePlan}
use Rattle.vc_actor.specs.Begin.{AreFirst}
use Rattle.vc_actor.specs.Turns.{actors}
use Rattle.vc_threads.proofs.JobEnds.{by_recursion, actors_kept}
use Rattle.vc_threads.proofs.jobs.make_jobs.Goals as goal

pub jobs_of-requires-clause-few : goal.jobs_of-requires-clause-few
jobs_of-requires-clause-few c =
    let small = few c.args.accepted.now c.plan-plan.ensures.accepted in
    let n = small.0 in
    let m = small.1 in
    let same = c.plan-plan.ensures.plan in
    let count = c.in_ok-actors.ensures.count in
    grind (arith)

pub jobs_of-requires-clause-actors : goal.jobs_of-requires-clause-actors
jobs_of-requires-clause-actors c =
    let xs = c.in_ok-actors.field-0.items in
    by_recursion IsOfSomePlan xs (λ k d l. (network_of c.args.accepted.now, k, (c.in_ok-actors.ensures.each k (get_or xs k d) (slice_get-get_or xs k d l)).is))

pub add_rings-requires-clause-count : goal.add_rings-requires-clause-count
add_rings-requires-clause-count c =
    sym (length-map c.in_ok-jobs.jobs.items actor_in) ∙ (ap length c.in_ok-jobs.ensures.actors ∙ (c.in_ok-actors.ensures.count ∙ ap actors (sym c.plan-plan.ensures.plan)))

pub returns-clause-begins : goal.returns-clause-begins
returns-clause-begins c =
    let p = c.args.accepted.now in
    subst (AreFirst p (actors p)) (sym (actors_kept c.in_ok-jobs.jobs.items c.add_rings.new.jobs.items c.in_ok-add_rings.ensures.same ∙ c.in_ok-jobs.ensures.actors)) c.in_ok-actors.ensures
