-- What a checker answers of a plan, as a run does.
use Rattle.std.specs.Prelude.{◌≡◌, Result, Ok, Err}
use Rattle.vc_plan.specs.declared.plan.Plan.{Plan as Network}
use Rattle.vc_plan.specs.Accepted.{IsAccepted}
use Rattle.vc_plan.specs.Check.{IsCause}
use Rattle.vc_text.specs.declared.fault.RunFault.{RunFault}
use Rattle.vc_text.specs.declared.fault.RunFault.TheVariants.{Plan}

-- the plan is accepted, or refused for what is wrong first
abbrev pub AcceptsPlan : Network → Result Network RunFault → Type 0
AcceptsPlan plan (Ok accepted) = (accepted ≡ plan) × IsAccepted plan
AcceptsPlan plan (Err (Plan refusal)) = (refusal.plan ≡ plan) × IsCause plan refusal.why
AcceptsPlan plan (Err fault) = ⊥
