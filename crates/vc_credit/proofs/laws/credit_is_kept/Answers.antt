use Rattle.vc_credit.proofs.CreditSum.{credit_kept}
use Rattle.vc_credit.proofs.laws.credit_is_kept.Goals as goal

pub returns : goal.returns
returns c = credit_kept
