use Rattle.std.proofs.Common.{refl}
use Rattle.vc_threads.proofs.worker_state.is_ready.Goals as goal

pub returns-clause-looked : goal.returns-clause-looked
returns-clause-looked c = (refl, c.is_empty.ensures.looked)
