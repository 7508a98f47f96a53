-- Laws of processes of any kind, said of processes that are numbered by their states, with steps that a test tells.
use Rattle.std.specs.Prelude.{ℕ, Bool}
use Rattle.vc_network.specs.Plan.{Plan}
use Rattle.vc_process.specs.ProcessStep.{ProcessStep}
use Rattle.vc_network.specs.Processes.{StepRelation, by_test}
use Rattle.vc_switch.specs.Waiting.{Waiting}

-- of every plan, waiting rule, test and opening states
abbrev pub OfNumbered : (Plan → Waiting → StepRelation ℕ → (ℕ → ℕ) → Type 0) → Type 0
OfNumbered Law =
    (plan : Plan) (waiting : Waiting) (does : ℕ → ProcessStep → ℕ → Bool) (begin : ℕ → ℕ) → Law plan waiting (by_test does) begin
