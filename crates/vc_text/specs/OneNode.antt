-- All processes of the reader's network on one node.
use Rattle.std.specs.Prelude.{◌≡◌, ◌⊎◌, ℕ, ◌<◌, Bool, true, false, List, length, Option, Result, Ok, Err, ⊤}
use Rattle.vc_plan.specs.Accepted.{IsAccepted}
use Rattle.vc_plan.specs.Check.{IsCause}
use Rattle.vc_plan.specs.OneNode.{all_vars, IsOneNodeOf}
use Rattle.vc_plan.specs.declared.check_refused.CheckRefused.TheVariants.{Limit}
use Rattle.vc_plan.specs.declared.check_refused.Refusal.{Refusal}
use Rattle.vc_plan.specs.declared.limit_word.LimitWord.TheVariants.{Vars}
use Rattle.vc_plan.specs.declared.plan.Plan.{Plan as Network}
use Rattle.vc_text.specs.CheckText.{ReadsAccepted}
use Rattle.vc_text.specs.declared.fault.RunFault.{RunFault}
use Rattle.vc_text.specs.declared.fault.RunFault.TheVariants.{Plan, Memory}

-- the nodes have more variables together than a node may have, or the checker refuses the plan of one node for what is wrong first
abbrev pub IsTooLarge : Network → Refusal → Type 0
IsTooLarge plan refusal =
    ((64 < length (all_vars plan.nodes)) × (refusal.plan ≡ plan) × (refusal.why ≡ Limit Vars)) ⊎ (IsOneNodeOf plan refusal.plan × IsCause refusal.plan refusal.why)

-- the plan of one node that runs all processes of this plan side by side is accepted, or refused
abbrev pub JoinsNodes : Network → Result Network RunFault → Type 0
JoinsNodes plan (Ok one) = IsOneNodeOf plan one × IsAccepted one
JoinsNodes plan (Err (Plan refusal)) = IsTooLarge plan refusal
JoinsNodes plan (Err Memory) = ⊤
JoinsNodes plan (Err fault) = ⊥

-- that of the reader's network, where it is accepted itself
abbrev pub ReadsTogether : Option (List ℕ) → Result Network RunFault → Type 0
ReadsTogether known (Ok one) = (plan : Network) × ReadsAccepted known (Ok plan) × JoinsNodes plan (Ok one)
ReadsTogether known (Err fault) = ReadsAccepted known (Err fault) ⊎ ((plan : Network) × ReadsAccepted known (Ok plan) × JoinsNodes plan (Err fault))

-- the reader's network itself, or the plan of one node for it
abbrev pub ReadsAs : (together : Bool) → Option (List ℕ) → Result Network RunFault → Type 0
ReadsAs false known = ReadsAccepted known
ReadsAs true known = ReadsTogether known
