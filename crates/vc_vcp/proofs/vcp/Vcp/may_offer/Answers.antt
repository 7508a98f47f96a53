use Rattle.std.proofs.Common.{sym}
use Rattle.vc_vcp.proofs.Enablement.{offer_iff}
use Rattle.vc_vcp.proofs.vcp.Vcp.may_offer.Goals as goal

pub returns-in-Some-clause-can : goal.returns-in-Some-clause-can
returns-in-Some-clause-can c = λ m. offer_iff c.args.self.now c.args.chan m c.in-Some.output.now c.is_idle.result (sym c.in-Some.ensures) c.is_idle.ensures
