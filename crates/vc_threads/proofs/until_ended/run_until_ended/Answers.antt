use Rattle.std.proofs.Common.{◌≢◌, length, subst}
use Rattle.vc_core.specs.State.{state_of}
use Rattle.vc_core.specs.declared.close.Close.TheVariants.{Done}
use Rattle.vc_threads.specs.Close.{NoneStopped, stop_among}
use Rattle.vc_threads.specs.declared.run.Stop.TheVariants.{Gate}
use Rattle.vc_threads.proofs.Gates.{ended_by}
use Rattle.vc_threads.proofs.until_ended.run_until_ended.Goals as goal

pub returns : goal.returns
returns g c =
    let r = c.in_ok-report.report in
    ended_by c.args.accepted.now _ c.args.turns c.args.seed r.steps.items (state_of r.state) r.stops.items r.close (subst (λ xs. r.close ≢ Done → NoneStopped (length xs) (stop_among xs) Gate) c.as_slice.ensures.value c.in_ok-check_stops.ensures) c.in_ok-report.ensures
