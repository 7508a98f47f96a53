use Rattle.std.proofs.Common.{sym}
use Rattle.vc_vcp.proofs.Enablement.{stop_iff, not_iff}
use Rattle.vc_vcp.proofs.vcp.Vcp.may_stop.Goals as goal

pub returns-in-Some-clause-can : goal.returns-in-Some-clause-can
returns-in-Some-clause-can c =
    let a = c.in-Some.input.now in
    stop_iff c.args.self.now c.args.chan a _ (sym c.in-Some.ensures.named) (not_iff c.wants.result a.half.wants c.wants.ensures)
