use Rattle.vc_core.specs.State.{state_of}
use Rattle.vc_trace.specs.Private.EventReader.{IsReaderOf}
use Rattle.vc_trace.proofs.EventTexts.{HasMade}
use Rattle.vc_trace.proofs.replay.make_lines.Given as goal

abbrev pub invariant-loop-number : goal.invariant-loop-number
invariant-loop-number g l = record {
  reader : IsReaderOf l.plan l.reader;
  made : HasMade l.plan (g.E.Read.remaining l.fn.events) (g.E.Read.remaining l.events) (state_of l.network) l.number;
}
