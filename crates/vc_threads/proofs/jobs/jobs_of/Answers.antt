use Rattle.std.proofs.Common.{◌≡◌, ◌≤◌, [], ◌∷◌, ◌++◌, length, map, sym, subst, ap, ◌∙◌, arith, length-append}
use Rattle.std.specs.List.{All, AllByRecursion}
use Rattle.std.proofs.lemmas.List.{map-append, length-map}
use Rattle.std.proofs.lemmas.List.Elements.{All-push}
use Rattle.vc_threads.specs.Private.Jobs.{IsFit}
use Rattle.vc_threads.specs.Private.Threads.{AreNumbered, who}
use Rattle.vc_threads.specs.Private.Works.{IsOfSomePlan}
use Rattle.vc_threads.proofs.JobEnds.{numbered_push, actors_step}
use Rattle.vc_threads.proofs.Rings.{none_more}
use Rattle.vc_threads.specs.Private.Rings.{AreBare, outs_in, ins_in}
use Rattle.vc_threads.proofs.jobs.jobs_of.Goals as goal

pub job_of-requires : goal.job_of-requires
job_of-requires c = (subst (AllByRecursion IsOfSomePlan) c.in-Some.ensures.steps.0 c.loop-actor.invariant.rest).0

pub loop-actor-preserved : goal.loop-actor-preserved
loop-actor-preserved c =
    let jobs = c.loop-actor.jobs.items in
    let job = c.job_of.result in
    let inv = c.loop-actor.invariant in
    let steps = c.in-Some.ensures.steps.0 in
    let pushed : c.push.new.self.items ≡ jobs ++ job ∷ [] = c.in_ok-push.ensures.items in
    let shorter = ap length steps in
    let longer = ap length pushed ∙ length-append jobs (job ∷ []) in
    let few = inv.few in
    let here : length jobs ≤ 255 = omega (arith, few) in
    record {
      rest = (subst (AllByRecursion IsOfSomePlan) steps inv.rest).1;
      few = omega (arith, few, shorter, longer);
      fit = subst (All IsFit) (sym pushed) (All-push IsFit jobs job inv.fit c.job_of.ensures.fit);
      numbered = subst (AreNumbered 0) (sym (ap (map who) pushed ∙ map-append who jobs (job ∷ [])))
          (numbered_push 0 (map who jobs) (who job) inv.numbered (ap (λ w. w.id) c.job_of.ensures.who ∙ grind (arith, length-map)));
      all = actors_step jobs c.push.new.self.items job pushed (ap (λ w. w.actor) c.job_of.ensures.who) steps inv.all;
      bare = subst AreBare (sym pushed) (λ k. (none_more outs_in jobs job (λ i. (inv.bare i).0) c.job_of.ensures.bare.0 k, none_more ins_in jobs job (λ i. (inv.bare i).1) c.job_of.ensures.bare.1 k));
    }
