use Rattle.std.proofs.Common.{refl}
use Rattle.vc_trace.proofs.StoppedTraces.{failed_more, passed_more}
use Rattle.vc_trace.proofs.trace_sink.TraceSinkEventSink.record.Goals as goal

pub returns-in-Ok-clause-ok : goal.returns-in-Ok-clause-ok
returns-in-Ok-clause-ok g c = λ from p es s has makes. passed_more g.W.Write.contents from c.args.self.now _ p es c.args.event has refl refl refl c.in-Ok.ensures.ok

pub returns-in-Err-clause-err : goal.returns-in-Err-clause-err
returns-in-Err-clause-err g c = λ from p es s has makes. failed_more g.W.Write.contents from c.args.self.now _ p es c.args.event has refl refl c.in-Err.ensures.err
