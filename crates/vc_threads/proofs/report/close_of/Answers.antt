use Rattle.std.proofs.Common.{◌≡◌, true, refl}
use Rattle.vc_threads.proofs.report.close_of.Goals as goal

pub returns-else-ended-clause-done : goal.returns-else-ended-clause-done
returns-else-ended-clause-done c = λ p is.
    (λ done. absurd (c.requires done), λ ended. (let t : c.ended.result ≡ true = (c.ended.ensures p is).1 ended in absurd (cc)))

pub returns-else-ended-clause-other : goal.returns-else-ended-clause-other
returns-else-ended-clause-other c = λ not. refl
