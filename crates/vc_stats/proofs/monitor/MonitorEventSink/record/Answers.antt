use Rattle.std.proofs.lemmas.Result.{on_ok_weaker}
use Rattle.vc_stats.proofs.monitor.MonitorEventSink.record.Goals as goal

pub returns-clause-ok : goal.returns-clause-ok
returns-clause-ok c = λ from p es s monitors made. on_ok_weaker c.follow.result (λ f. f p es s monitors made) c.follow.ensures
