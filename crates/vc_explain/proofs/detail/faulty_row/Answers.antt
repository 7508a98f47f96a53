use Rattle.std.proofs.Common.{◌∙◌, ap, is_some, length, sym}
use Rattle.vc_explain.proofs.Details.{next_row}
use Rattle.vc_explain.proofs.detail.faulty_row.Goals as goal

pub loop-k-preserved : goal.loop-k-preserved
loop-k-preserved c =
    sym (next_row c.args.rows.now (length c.args.rows.now) c.loop-k.k c.loop-k-test.true (ap is_some (sym c.fault_of_rows.ensures) ∙ sym c.if-is_some.ensures)) ∙ c.loop-k.invariant
