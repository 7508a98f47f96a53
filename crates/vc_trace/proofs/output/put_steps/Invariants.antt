use Rattle.std.proofs.Common.{take}
use Rattle.vc_trace.specs.EventText.{events_text}
use Rattle.vc_text.specs.Pieces.{Passes}
use Rattle.vc_trace.proofs.output.put_steps.Given as goal

abbrev pub invariant-loop-event : goal.invariant-loop-event
invariant-loop-event g l =
    Passes (g.W.Write.contents l.fn.writer) l.fn.piece.items (g.W.Write.contents l.writer) l.piece.items (events_text l.plan (take l.event-index l.steps))
