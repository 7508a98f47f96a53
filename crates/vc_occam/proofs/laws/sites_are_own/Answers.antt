use Rattle.vc_occam.proofs.Sites.{steps_keep, doing_keeps}
use Rattle.vc_occam.proofs.Preorder.{at_first}
use Rattle.vc_occam.proofs.laws.sites_are_own.Goals as goal

pub returns-clause-at_first : goal.returns-clause-at_first
returns-clause-at_first c = at_first

pub returns-clause-steps : goal.returns-clause-steps
returns-clause-steps c = steps_keep

pub returns-clause-doing : goal.returns-clause-doing
returns-clause-doing c = doing_keeps
