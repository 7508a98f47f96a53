use Rattle.std.proofs.Common.{subst, sym}
use Rattle.vc_core.specs.PossibleEvents.{CanHappen}
use Rattle.vc_core.specs.State.{state_of}
use Rattle.vc_trace.specs.Private.EventReader.{ReadsEvent}
use Rattle.vc_trace.proofs.replay.make_line.Goals as goal

pub returns-in-Err-NotEnabled-clause-made : goal.returns-in-Err-NotEnabled-clause-made
returns-in-Err-NotEnabled-clause-made c = λ p reader is.
    let step = c.in-Err-NotEnabled.ensures in
    let read = subst (ReadsEvent p c.args.line.now) c.in-Some.is (c.in_ok-event.ensures.reads p reader) in
    let cannot = (step.not_enabled p is).0 c.in-Err-NotEnabled.field-0-is in (
      step.refused,
      λ names e its can line. cannot (subst (CanHappen p (state_of c.args.network.now)) (sym (read.1 (record { accepted = is.accepted; names = names }) e its line)) can),
    )
