use Rattle.vc_explain.proofs.Told.{told_cause}
use Rattle.vc_explain.proofs.explanation.tell_refusal.Goals as goal

pub returns-in_ok-told-in-Network : goal.returns-in_ok-told-in-Network
returns-in_ok-told-in-Network c = told_cause _ _ _ _ c.in-Network.is c.in_ok-told-in-Network.ensures
