use Rattle.vc_explain.proofs.Lawfulness.{nothing_told}
use Rattle.vc_explain.proofs.Offences.{are_found}
use Rattle.vc_explain.proofs.laws.offences_are_found.Goals as goal

pub returns-clause-found : goal.returns-clause-found
returns-clause-found c = are_found

pub returns-clause-lawful : goal.returns-clause-lawful
returns-clause-lawful c = nothing_told
