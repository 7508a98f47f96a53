use Rattle.std.proofs.Common.{sym}
use Rattle.vc_vcp.proofs.Enablement.{fetch_iff}
use Rattle.vc_vcp.proofs.vcp.Vcp.ready.Goals as goal

pub returns-in-Some-clause-can : goal.returns-in-Some-clause-can
returns-in-Some-clause-can c =
    fetch_iff c.args.self.now c.args.chan c.in-Some.input.now c.ready.result c.in-Some.ensures.is (sym c.in-Some.ensures.named) c.ready.ensures
