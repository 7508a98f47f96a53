use Rattle.vc_text.proofs.OneRun.{one_run}
use Rattle.vc_text.proofs.laws.a_seed_has_one_run.Goals as goal

pub returns : goal.returns
returns c = one_run
