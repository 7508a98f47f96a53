use Rattle.std.proofs.Common.{sym, ◌∙◌, subst}
use Rattle.vc_actor.specs.OfPlan.{IsActorOf}
use Rattle.vc_threads.proofs.Goings.{has_run}
use Rattle.vc_threads.proofs.work.run_job.Goals as goal

pub returns-clause-ran : goal.returns-clause-ran
returns-clause-ran g c =
    let job = c.args.job in
    let d = c.new-worker.ensures in
    let e = c.into_run.ensures in
    let did = c.in-Some.ensures.ends in (
      e.id,
      λ plan n of.
          has_run g.L.ActLog.holds (g.G.Gate.refuses c.args.gate.now) plan n did.made c.args.turns job.id c.args.seed c.new-worker.result did.last c.make_turns.new.worker job.actor job.ends c.into_run.result
          (did.uses plan n (subst (λ a. IsActorOf plan n a) (sym d.actor) of)) did.stays did.within
          d.actor d.clock d.log d.outs d.ins d.words e.actor e.log e.outs e.ins
          (λ h. did.all (sym e.stop ∙ h)) (λ h. did.gate (sym e.stop ∙ h)) (λ h. did.full (sym e.stop ∙ h)),
    )
