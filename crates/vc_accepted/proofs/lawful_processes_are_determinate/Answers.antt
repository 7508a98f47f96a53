use Rattle.vc_accepted.proofs.Determinate.{one_state, stay_lawful}
use Rattle.vc_accepted.proofs.lawful_processes_are_determinate.Goals as goal

pub returns-clause-next : goal.returns-clause-next
returns-clause-next c = one_state

pub returns-clause-kept : goal.returns-clause-kept
returns-clause-kept c = stay_lawful
