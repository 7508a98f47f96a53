use Rattle.vc_machine.proofs.Refinement as refinement
use Rattle.vc_machine.proofs.buffers_hold.Goals as goal

pub returns : goal.returns
returns c = λ net back waiting wires. refinement.buffers_hold net back wires waiting
