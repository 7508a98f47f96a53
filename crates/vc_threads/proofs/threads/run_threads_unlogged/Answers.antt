use Rattle.vc_threads.proofs.threads.run_threads_unlogged.Goals as goal

pub returns : goal.returns
returns g c = let ran = c.in_ok-logged.ensures in (ran.events, ran.run)
