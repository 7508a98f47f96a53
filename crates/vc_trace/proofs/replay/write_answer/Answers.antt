use Rattle.std.proofs.Common.{subst, sym}
use Rattle.vc_core.specs.State.{shown, state_of}
use Rattle.vc_text.proofs.StepText.{handed_on}
use Rattle.vc_text.specs.Tail.{IsTail, tail_text}
use Rattle.vc_trace.specs.Private.Replay.{MakesEvents}
use Rattle.vc_trace.specs.Replay.{ReplaysPlan, refused_text}
use Rattle.vc_trace.specs.declared.replayed.Replayed.TheVariants.{Ended, Refused}
use Rattle.vc_trace.proofs.Replays.{ended_text, replay_unwritten, told_refused}
use Rattle.vc_trace.proofs.replay.write_answer.Goals as goal

pub returns-in_err-write_refused : goal.returns-in_err-write_refused
returns-in_err-write_refused g c = λ known made.
    let why = c.args.is_why in
    let p = c.args.plan.now in
    let refused = c.in-Some.refused in
    let old = g.W.Write.contents c.args.writer.now in
    let new = g.W.Write.contents c.write_refused.new.writer in
    let fault = c.in_err-write_refused.field-0.0 in
    let is = told_refused why known p (state_of c.args.network.now) refused (subst (MakesEvents known p (state_of c.args.network.now)) c.in-Some.is made) in
    subst (ReplaysPlan why known p old new) (sym (handed_on c.from_residual.result fault c.from_residual.ensures))
    (replay_unwritten why known p old new Refused (refused_text refused.number refused.line.items) fault is c.in_err-write_refused.ensures)

pub returns-in-Some : goal.returns-in-Some
returns-in-Some g c = λ known made.
    let why = c.args.is_why in
    let p = c.args.plan.now in
    let refused = c.in-Some.refused in
    let is = told_refused why known p (state_of c.args.network.now) refused (subst (MakesEvents known p (state_of c.args.network.now)) c.in-Some.is made) in
    (refused_text refused.number refused.line.items, is, c.in_ok-write_refused.ensures)

pub returns-in_err-write : goal.returns-in_err-write
returns-in_err-write g c = λ known made.
    let why = c.args.is_why in
    let p = c.args.plan.now in
    let s = state_of c.args.network.now in
    let close = c.in_ok-close.close in
    let old = g.W.Write.contents c.args.writer.now in
    let new = g.W.Write.contents c.write.new.writer in
    let fault = c.in_err-write.field-0.0 in
    let text = tail_text c.in_ok-tail.tail in
    let is = ended_text why known p s close text (subst (MakesEvents known p s) c.in_default.is made) c.in_ok-close.ensures.closes c.in_ok-close.ensures.waits
    (λ events. subst (λ z. IsTail why p events (shown z) close text) c.in_ok-close.ensures.same (c.in_ok-tail.ensures.text events)) in
    subst (ReplaysPlan why known p old new) (sym (handed_on c.from_residual-in_err-write.result fault c.from_residual-in_err-write.ensures))
    (replay_unwritten why known p old new (Ended close) text fault is c.in_err-write.ensures)

pub returns : goal.returns
returns g c = λ known made.
    let why = c.args.is_why in
    let p = c.args.plan.now in
    let s = state_of c.args.network.now in
    let close = c.in_ok-close.close in
    let text = tail_text c.in_ok-tail.tail in
    let is = ended_text why known p s close text (subst (MakesEvents known p s) c.in_default.is made) c.in_ok-close.ensures.closes c.in_ok-close.ensures.waits
    (λ events. subst (λ z. IsTail why p events (shown z) close text) c.in_ok-close.ensures.same (c.in_ok-tail.ensures.text events)) in
    (text, is, c.in_ok-write.ensures)
