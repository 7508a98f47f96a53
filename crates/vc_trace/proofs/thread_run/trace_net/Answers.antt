use Rattle.std.proofs.Common.{◌≡◌, Err, List, ◌++◌, refl, rules, subst, sym}
use Rattle.vc_core.specs.Replay.{Reached}
use Rattle.vc_core.specs.State.{shown, state_of}
use Rattle.vc_core.specs.declared.event.Event.{Event}
use Rattle.vc_plan.specs.declared.plan.Plan.{Plan}
use Rattle.vc_threads.specs.declared.report.Ending.{Ending}
use Rattle.vc_text.specs.Streams.{Writes}
use Rattle.vc_text.specs.Tail.{IsTail, tail_text}
use Rattle.vc_text.specs.ThreadsText.{WritesThreads}
use Rattle.vc_text.proofs.CheckText.{memory_any}
use Rattle.vc_text.proofs.StepText.{handed_on, writes_one}
use Rattle.vc_text.proofs.ThreadText.{threads_unwritten}
use Rattle.vc_trace.specs.EventText.{events_text}
use Rattle.vc_trace.specs.TraceText.{IsTracedText}
use Rattle.vc_trace.proofs.RunTexts.{traced}
use Rattle.vc_trace.proofs.thread_run.trace_net.Goals as goal

pub new-requires : goal.new-requires
new-requires g c =
    let r = c.in_ok-report.report in
    let ran = c.in_ok-report.ensures in
    subst (λ (p : Plan). (events : List Event) × Reached p events (state_of r.state)) (sym c.plan-plan.ensures.plan) (r.steps.items, record { is = ran.replays.is; happen = ran.replays.runs.happen })

pub returns-in_err-write_steps : goal.returns-in_err-write_steps
returns-in_err-write_steps g c =
    let options = c.args.options in
    let why = options.is_why in
    let p = c.in_ok-accepted.accepted in
    let r = c.in_ok-report.report in
    let e : Ending = record { state = r.state; stops = r.stops; close = r.close } in
    let x = shown (state_of r.state) in
    let events = r.steps.items in
    let tail = tail_text c.in_ok-tail.tail in
    let is = subst (λ (q : Plan). IsTail why q events x r.close tail) c.plan-plan.ensures.plan (c.in_ok-tail.ensures.text events) in
    let known = g.R.Read.remaining c.args.reader.now in
    let old = g.W.Write.contents c.args.writer.now in
    let new = g.W.Write.contents c.write_steps.new.writer in
    let fault = c.in_err-write_steps.field-0.0 in
    let raw : Writes old new (events_text c.plan-plan.result.now c.as_slice.result.now ++ tail) (Err fault) = c.in_err-write_steps.ensures in
    let same : events_text c.plan-plan.result.now c.as_slice.result.now ++ tail ≡ events_text p events ++ tail = rw (c.plan-plan.ensures.plan, c.as_slice.ensures.value) refl in
    let wrote = subst (λ t. Writes old new t (Err fault)) same raw in
    subst (WritesThreads (IsTracedText why) options.turns options.seed known old new) (sym (handed_on c.from_residual-in_err-write_steps.result fault c.from_residual-in_err-write_steps.ensures))
    (threads_unwritten (IsTracedText why) options.turns options.seed known old new p e events fault c.in_ok-accepted.ensures c.in_ok-report.ensures
    (writes_one (IsTracedText why p events x r.close) old new (events_text p events ++ tail) (Err fault) (traced why p events x r.close tail is) wrote))

pub returns : goal.returns
returns g c =
    let why = c.args.options.is_why in
    let p = c.in_ok-accepted.accepted in
    let r = c.in_ok-report.report in
    let x = shown (state_of r.state) in
    let events = r.steps.items in
    let tail = tail_text c.in_ok-tail.tail in
    let is = subst (λ (q : Plan). IsTail why q events x r.close tail) c.plan-plan.ensures.plan (c.in_ok-tail.ensures.text events) in
    let wrote = rw (c.plan-plan.ensures.plan, c.as_slice.ensures.value) at c.in_ok-write_steps.ensures in
    rw (c.into_ending.ensures) (p, c.in_ok-accepted.ensures, (events_text p events ++ tail, (events, c.in_ok-report.ensures, traced why p events x r.close tail is), wrote))

pub returns-in_err-tail : goal.returns-in_err-tail
returns-in_err-tail g c = search (rules, memory_any)
