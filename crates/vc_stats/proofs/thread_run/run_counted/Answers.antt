use Rattle.std.proofs.Common.{arith}
use Rattle.vc_core.specs.State.{state_of}
use Rattle.vc_threads.specs.Gates.{once_ended}
use Rattle.vc_stats.proofs.AddedCounts.{run_counts}
use Rattle.vc_stats.proofs.thread_run.run_counted.Goals as goal

pub returns : goal.returns
returns g c =
    let r = c.in_ok-logged.logged in
    let ran = c.in_ok-logged.ensures in
    let fits = c.ranges.turns.fits in (
      ran.events,
      ran.run,
      run_counts c.args.accepted.now (once_ended c.args.accepted.now (state_of r.ending.state)) c.args.turns c.args.seed r ran c.in_ok-stats.stats (omega (arith, fits))
          (rw c.as_slice.ensures.value at c.in_ok-stats.ensures),
    )
