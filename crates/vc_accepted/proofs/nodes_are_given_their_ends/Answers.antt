-- The lemmas.
use Rattle.vc_accepted.proofs.NodeEnds.{given_ends, given_distinct}
use Rattle.vc_accepted.proofs.nodes_are_given_their_ends.Goals as goal

pub returns-clause-ends : goal.returns-clause-ends
returns-clause-ends c = λ p n acc. given_ends p acc n

pub returns-clause-distinct : goal.returns-clause-distinct
returns-clause-distinct c = λ p n acc. given_distinct p acc n
