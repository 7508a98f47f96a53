use Rattle.vc_occam.proofs.Preservation.{begins, steps_keep_use, doing_keeps_use, doing_is_traced}
use Rattle.vc_occam.proofs.laws.lawful_use_is_kept.Goals as goal

pub returns-clause-at_first : goal.returns-clause-at_first
returns-clause-at_first c = begins

pub returns-clause-steps : goal.returns-clause-steps
returns-clause-steps c = steps_keep_use

pub returns-clause-doing : goal.returns-clause-doing
returns-clause-doing c = doing_keeps_use

pub returns-clause-traced : goal.returns-clause-traced
returns-clause-traced c = doing_is_traced
