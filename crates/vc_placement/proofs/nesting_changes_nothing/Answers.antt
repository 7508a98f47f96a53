use Rattle.vc_placement.proofs.Nesting.{nests, regrouped}
use Rattle.vc_placement.proofs.nesting_changes_nothing.Goals as goal

pub returns-clause-nested : goal.returns-clause-nested
returns-clause-nested c = nests

pub returns-clause-grouped : goal.returns-clause-grouped
returns-clause-grouped c = regrouped
