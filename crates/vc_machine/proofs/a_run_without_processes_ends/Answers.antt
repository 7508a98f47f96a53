-- Each such event makes what is under way lighter.
use Rattle.vc_machine.proofs.Descent.{runs_end}
use Rattle.vc_machine.proofs.a_run_without_processes_ends.Goals as goal

pub returns : goal.returns
returns c = λ net back waiting most accepted headers ranks wires stay. runs_end net back waiting most accepted headers ranks wires stay
