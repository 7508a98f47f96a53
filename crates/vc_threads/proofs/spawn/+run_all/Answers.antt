use Rattle.std.proofs.Common.{rules, ◌≡◌, ℕ, [], ◌∷◌, ◌++◌, Some, sym, subst}
use denote.Param.Send.{sendable}
use Rattle.std.specs.List.{AllZip}
use Rattle.std.proofs.lemmas.List.Elements.{All-pop}
use Rattle.vc_threads.specs.Private.Jobs.{IsFit}
use Rattle.vc_threads.specs.Jobs.{Ran}
use Rattle.vc_threads.specs.declared.run.ActorRun.{ActorRun}
use Rattle.vc_threads.proofs.Sent.{run_send}
use Rattle.vc_threads.proofs.spawn.+run_all.Goals as goal
use Rattle.vc_machine.proofs.Ways.{zip_push}

pub spawn_with-started-requires-clause-runs : goal.spawn_with-started-requires-clause-runs
spawn_with-started-requires-clause-runs g t c κs within =
    let fit = (All-pop (λ j. IsFit (g.J.HasJob.job j)) c.args.jobs.items c.pop.new.self.items (Some c.in-Some.job) c.in-Some.ensures.items c.requires).1 in
    (fit, search (rules, sendable) depth 20)

pub spawn_with-started-requires-send-T : goal.spawn_with-started-requires-send-T
spawn_with-started-requires-send-T g t c κs within = search (sendable, run_send) depth 20

pub run_all-others-requires-after_bounds : goal.run_all-others-requires-after_bounds
run_all-others-requires-after_bounds g t c κs within =
    (All-pop (λ j. IsFit (g.J.HasJob.job j)) c.args.jobs.items c.pop.new.self.items (Some c.in-Some.job) c.in-Some.ensures.items c.requires).0

pub returns : goal.returns
returns g t c =
    let n = c.args.turns in
    let s = c.args.seed in
    let ran : g.row.G.Denot → ℕ → ℕ → g.row.J.Denot → ActorRun g.row.L.Denot → Type 0 = λ gate t s j r. Ran g.L.ActLog.holds (g.G.Gate.refuses gate) t s (g.J.HasJob.job j) r in
    let gate = c.args.gate.now in
    let run = c.in-Some-run.run' in
    let job = c.in-Some.job in
    let child = c.in-Ok.child.promise in
    let others : AllZip (ran gate n s) c.pop.new.self.items c.in_ok-runs.runs.items = c.in_ok-runs.ensures in
    let kept : ran child.gate.value child.turns child.seed child.job.value run = c.in-Some-run.ensures in
    let one : ran c.of-2.result.value n s c.of.result.value run = subst (λ p. ran p.gate.value p.turns p.seed p.job.value run) c.in-Ok.ensures.ok kept in
    let two : ran gate n s job run = subst (λ v. ran v n s job run) c.of-2.ensures (subst (λ a. ran c.of-2.result.value n s a run) c.of.ensures one) in
    let pushed : c.add_run.new.runs.items ≡ c.in_ok-runs.runs.items ++ run ∷ [] = c.in_ok-add_run.ensures in
    subst (λ w. AllZip (ran gate n s) w c.add_run.new.runs.items) (sym c.in-Some.ensures.items)
    (subst (λ w. AllZip (ran gate n s) (c.pop.new.self.items ++ job ∷ []) w) (sym pushed)
    (zip_push (ran gate n s) c.pop.new.self.items c.in_ok-runs.runs.items job run others two))
