use Rattle.vc_threads.proofs.work.worker.Goals as goal

pub returns-clause-id : goal.returns-clause-id
returns-clause-id g c = c.in-Some.ensures.ran.0

pub returns-clause-run : goal.returns-clause-run
returns-clause-run g c = c.in-Some.ensures.ran.1
