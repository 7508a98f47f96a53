-- The headline.
use Rattle.std.proofs.Common.{List, arith}
use Rattle.vc_machine.specs.Paths.{Net, IsAccepted}
use Rattle.vc_machine.specs.Machine.{State, start, Event, Run}
use Rattle.vc_machine.specs.Headline.{Headline}
use Rattle.vc_machine.proofs.Labels.{Inv}
use Rattle.vc_machine.proofs.Runs.{at_start, ran, run_told, parts_run, nothing_after_stop}
use Rattle.vc_machine.proofs.Views.{chan_logs}
use Rattle.vc_machine.proofs.Exactly.{exactly, offered_at_most}

pub headline : (net : Net) (es : List Event) (s : State) → IsAccepted net → Run net start es s → Headline net es s
headline net es s acc run =
    let i : Inv net s = ran net es start s acc (at_start net) run in
    record {
      each = λ c real. record {
        in_order = (chan_logs net s c i real).prefix;
        finished = (chan_logs net s c i real).finished;
        one_output = (let h = (offered_at_most net s c i real).1 in omega arith);
        one_packet = λ e. exactly net s c 1 acc i real (omega arith);
        no_packet = λ e. exactly net s c 0 acc i real (omega arith);
      };
      told = (let q = run_told net es start s acc (at_start net) run in (q.0, q.1, λ c. parts_run net es q.0 start s c q.1));
      stopped = λ fs t c real more e. nothing_after_stop net fs s t c acc i more e;
      no_strays = i.strays;
      none_lost = i.lost;
    }
