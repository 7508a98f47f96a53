use Rattle.std.proofs.Common.{sym, ◌∙◌}
use Rattle.vc_vcp.proofs.Enablement.{want_iff, both_iff}
use Rattle.vc_vcp.proofs.vcp.Vcp.may_want.Goals as goal

pub returns-then-not-wants-clause-can : goal.returns-then-not-wants-clause-can
returns-then-not-wants-clause-can c =
    let a = c.in-Some.input.now in
    want_iff c.args.self.now c.args.chan a _ c.in-Some.ensures.is (sym c.in-Some.ensures.named)
    (both_iff a.half.wants c.is_stopped.result a.half.stopped (sym c.wants.ensures ∙ c.if-not-wants.true) c.is_stopped.ensures)
