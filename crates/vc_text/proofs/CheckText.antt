-- What was read and written, together.
use Rattle.std.proofs.Common.{List, ℕ, Bool, true, false, Option, Some, None, Result, Ok, Err, inl}
use Rattle.vc_plan.specs.declared.plan.Plan.{Plan as Network}
use Rattle.vc_text.specs.declared.fault.RunFault.{RunFault}
use Rattle.vc_text.specs.declared.fault.RunFault.TheVariants.{Write, Memory}
use Rattle.vc_text.specs.Streams.{Writes}
use Rattle.vc_text.specs.CheckText.{ReadsAccepted, TellsAccepted}
use Rattle.vc_text.specs.OneNode.{ReadsAs}

pub memory_any : (known : Option (List ℕ)) → ReadsAccepted known (Err Memory)
memory_any None = tt
memory_any (Some text) = tt

pub memory_as : (together : Bool) (known : Option (List ℕ)) → ReadsAs together known (Err Memory)
memory_as false known = memory_any known
memory_as true known = inl (memory_any known)

-- a text of the plan that was read was written
pub tells_accepted : (text_of : Network → List ℕ) (known old new : Option (List ℕ)) (plan : Network) (result : Result (Unit {0}) RunFault) → ReadsAccepted known (Ok plan) →
    Writes old new (text_of plan) result → TellsAccepted text_of known old new result
tells_accepted text_of known old new plan (Ok u) r w = (plan, r, w)
tells_accepted text_of known old new plan (Err Write) r w = (plan, r, w)
tells_accepted text_of known old new plan (Err Memory) r w = (memory_any known, w)
tells_accepted text_of known old new plan x r w = absurd w
