use Rattle.vc_process.proofs.Verdicts.{unlawful, only}
use Rattle.vc_process.proofs.laws.a_first_offender_refutes.Goals as goal

pub returns-clause-unlawful : goal.returns-clause-unlawful
returns-clause-unlawful c = unlawful

pub returns-clause-one : goal.returns-clause-one
returns-clause-one c = only
