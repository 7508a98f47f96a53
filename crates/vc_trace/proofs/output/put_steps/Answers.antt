use Rattle.vc_trace.specs.EventText.{event_line}
use Rattle.vc_text.proofs.TextWrites.{any_err, fails_there, passes_more}
use Rattle.vc_trace.proofs.output.put_steps.Goals as goal

pub returns-in_err-put_event-clause-err : goal.returns-in_err-put_event-clause-err
returns-in_err-put_event-clause-err g c =
    any_err c.from_residual.result (fails_there (event_line c.args.plan.now) c.args.steps.now c.loop-event.event-index _ _ _ _ c.args.piece.now.items _ c.loop-event-test.true c.loop-event.invariant c.in_err-put_event.ensures.err)

pub loop-event-preserved : goal.loop-event-preserved
loop-event-preserved g c =
    passes_more (event_line c.args.plan.now) c.args.steps.now c.loop-event.event-index _ _ _ _ c.args.piece.now.items _ _ c.loop-event-test.true c.loop-event.invariant c.in_ok-put_event.ensures.ok
