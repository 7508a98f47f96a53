use Rattle.std.proofs.Common.{◌∙◌, sym}
use Rattle.vc_explain.proofs.Details.{next_link}
use Rattle.vc_explain.proofs.detail.loose_link.Goals as goal

pub loop-link-preserved : goal.loop-link-preserved
loop-link-preserved c =
    sym (next_link c.args.wires.now c.args.n c.args.last c.loop-link.link c.loop-link-test.true (sym c.is_wired.ensures ∙ c.if-not-is_wired.false)) ∙ c.loop-link.invariant
