use Rattle.std.proofs.Common.{◌≢◌, length, subst}
use Rattle.vc_core.specs.State.{state_of}
use Rattle.vc_core.specs.declared.close.Close.TheVariants.{Done}
use Rattle.vc_threads.specs.Close.{NoneStopped, stop_among}
use Rattle.vc_threads.specs.declared.run.Stop.TheVariants.{Gate}
use Rattle.vc_threads.proofs.Gates.{ended_by}
use Rattle.vc_threads.proofs.until_ended.run_until_ended_into.Goals as goal

pub returns : goal.returns
returns g c =
    let e = c.in_ok-logged.logged.ending in
    let ran = c.in_ok-logged.ensures in
    record {
      events = ran.events;
      run = ended_by c.args.accepted.now _ c.args.turns c.args.seed ran.events (state_of e.state) e.stops.items e.close
          (subst (λ xs. e.close ≢ Done → NoneStopped (length xs) (stop_among xs) Gate) c.as_slice.ensures.value c.in_ok-check_stops.ensures) ran.run;
      count = ran.count;
      logs = ran.logs;
    }
