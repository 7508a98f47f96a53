use Rattle.std.proofs.Common.{sym, ◌∙◌}
use Rattle.vc_stats.proofs.ActCounts.{of_ok, one_more}
use Rattle.vc_stats.proofs.counted_acts.CountedActsActLog.record.Goals as goal

pub returns-else-is_err : goal.returns-else-is_err
returns-else-is_err c = λ actor acts h.
    let own = c.args.self.now in
    let counted = of_ok _ c.count_event.result (sym c.is_err.ensures.value ∙ c.if-is_err.false) c.count_event.ensures in
    (h.0, one_more actor own.actor c.args._stamp c.args.act acts own.stats c.count_event.new.stats h.0 counted h.1)
