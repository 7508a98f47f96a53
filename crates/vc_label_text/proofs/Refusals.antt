-- Plans that are refused.
use Rattle.std.proofs.Common.{◌≡◌, ℕ, List, Ok, sym, subst}
use Rattle.vc_plan.specs.declared.plan.Plan.{Plan}
use Rattle.vc_plan.specs.declared.check_refused.Refusal.{Refusal}
use Rattle.vc_plan.specs.Check.{IsCause}
use Rattle.vc_reader.specs.NetworkText.{Reads}

pub refused_of : (text : List ℕ) (plan : Plan) (refusal : Refusal) → Reads text (Ok plan) → (refusal.plan ≡ plan) × IsCause plan refusal.why →
    ((made : List ℕ) × Reads made (Ok refusal.plan)) × IsCause refusal.plan refusal.why
refused_of text plan refusal read is =
    ((text, subst (λ q. Reads text (Ok q)) (sym is.0) read), subst (λ q. IsCause q refusal.why) (sym is.0) is.1)
