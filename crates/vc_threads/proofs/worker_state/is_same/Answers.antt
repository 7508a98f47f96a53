use Rattle.std.proofs.lemmas.Bool.{false≢true}
use Rattle.vc_threads.proofs.worker_state.is_same.Goals as goal

pub returns-in-None : goal.returns-in-None
returns-in-None c = λ t. absurd (false≢true t)
