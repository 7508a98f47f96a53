use denote.Param.Send.{sendable}
use Rattle.vc_threads.proofs.Sent.{job_send}
use Rattle.vc_threads.proofs.spawn.fn.run_jobs.scope.Goals as goal

pub run_all-requires-send-J : goal.run_all-requires-send-J
run_all-requires-send-J g c κs within = search (sendable, job_send) depth 20
