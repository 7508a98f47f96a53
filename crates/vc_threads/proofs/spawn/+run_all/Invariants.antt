use Rattle.std.proofs.Common.{length}
use Rattle.vc_threads.proofs.spawn.+run_all.Given as goal

abbrev pub decreases-run_all : goal.decreases-run_all
decreases-run_all g l = length l.jobs.items
