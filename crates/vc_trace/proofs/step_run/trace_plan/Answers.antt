use Rattle.std.proofs.Common.{◌++◌, ◌∙◌, inl, inr, rules, subst}
use Rattle.vc_core.specs.State.{shown, state_of}
use Rattle.vc_plan.specs.declared.plan.Plan.{Plan}
use Rattle.vc_text.specs.Tail.{IsTail, tail_text}
use Rattle.vc_text.proofs.StepText.{handed_on}
use Rattle.vc_trace.specs.EventText.{events_text}
use Rattle.vc_trace.proofs.RunTexts.{traced}
use Rattle.vc_trace.proofs.StoppedTraces.{ended, fails_ending, fails_writing, stopped}
use Rattle.vc_trace.proofs.step_run.trace_plan.Goals as goal

-- the run ended early
pub returns-in_default : goal.returns-in_default
returns-in_default g c =
    let options = c.args.options in
    let trace = c.new-trace in
    stopped g.W.Write.contents options.is_why c.args.accepted.now trace.result c.run_into-ran.new.events options.schedule options.limit _ c.args.writer.now c.stop.new.self.0 _ c.stop.result
    trace.ensures.same_writer trace.ensures.writer (trace.ensures.plan ∙ c.plan-plan.ensures.plan) trace.ensures.empty trace.ensures.works c.plan-plan.ensures.accepted
    c.in_default.ensures.stops c.stop.ensures.works c.stop.ensures.fails c.stop.ensures.same (search rules)

-- there was no memory for the traffic
pub returns-in_default-new : goal.returns-in_default-new
returns-in_default-new g c =
    let options = c.args.options in
    let trace = c.new-trace in
    let stop = c.stop-in_default-new in
    let ran = c.in-Ok.ensures.run in
    stopped g.W.Write.contents options.is_why c.args.accepted.now trace.result c.run_into-ran.new.events options.schedule options.limit _ c.args.writer.now stop.new.self.0 _ stop.result
    trace.ensures.same_writer trace.ensures.writer (trace.ensures.plan ∙ c.plan-plan.ensures.plan) trace.ensures.empty trace.ensures.works c.plan-plan.ensures.accepted
    (inr (ran.0, state_of c.in-Ok.network, ran.2.so_far, inl ran.1)) stop.ensures.works stop.ensures.fails stop.ensures.same (search rules)

-- the writer failed at the end
pub returns-in_err-end : goal.returns-in_err-end
returns-in_err-end g c =
    let options = c.args.options in
    let why = options.is_why in
    let p = c.args.accepted.now in
    let trace = c.new-trace in
    let x = shown (state_of c.in-Ok.network) in
    let close = c.in-Ok.close in
    let ran = c.in-Ok.ensures.run in
    let events = ran.0 in
    let tail = tail_text c.in-Ok-new.tail in
    let is = subst (λ (q : Plan). IsTail why q events x close tail) c.plan-plan.ensures.plan (c.in-Ok-new.ensures.text events) in
    fails_writing why p _ _ options.schedule options.limit c.from_residual.result c.in_err-end.field-0.0 events x close (events_text p events ++ tail)
    (handed_on c.from_residual.result c.in_err-end.field-0.0 c.from_residual.ensures) c.in_err-end.ensures.fault ran.2 (traced why p events x close tail is)
    (fails_ending g.W.Write.contents trace.result c.run_into-ran.new.events p events tail _ c.args.writer.now c.end.new.self.0 _
    trace.ensures.same_writer trace.ensures.writer trace.ensures.empty ran.1 c.in_err-end.ensures.err (search rules))

pub returns : goal.returns
returns g c =
    let why = c.args.options.is_why in
    let p = c.args.accepted.now in
    let trace = c.new-trace in
    let x = shown (state_of c.in-Ok.network) in
    let close = c.in-Ok.close in
    let ran = c.in-Ok.ensures.run in
    let events = ran.0 in
    let tail = tail_text c.in-Ok-new.tail in
    let is = subst (λ (q : Plan). IsTail why q events x close tail) c.plan-plan.ensures.plan (c.in-Ok-new.ensures.text events) in
    let all = ended g.W.Write.contents trace.result c.run_into-ran.new.events p events tail _ c.args.writer.now c.end.new.self.0 _
    trace.ensures.same_writer trace.ensures.writer trace.ensures.empty ran.1 c.in_ok-end.ensures.ok (search rules) in
    (events, x, ran.2, (events_text p events ++ tail, traced why p events x close tail is, all))
