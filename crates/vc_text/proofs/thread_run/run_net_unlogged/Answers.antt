use Rattle.std.proofs.Common.{Err, Ok, subst, sym}
use Rattle.vc_core.specs.State.{shown, state_of}
use Rattle.vc_plan.specs.declared.plan.Plan.{Plan}
use Rattle.vc_text.specs.Private.Streams.{WritesOne}
use Rattle.vc_text.specs.Tail.{IsTail}
use Rattle.vc_text.specs.ThreadsText.{WritesThreads}
use Rattle.vc_text.proofs.StepText.{handed_on}
use Rattle.vc_text.proofs.ThreadText.{threads_unwritten}
use Rattle.vc_text.proofs.thread_run.run_net_unlogged.Goals as goal

pub returns-in_err-write_tail : goal.returns-in_err-write_tail
returns-in_err-write_tail g c =
    let options = c.args.options in
    let why = options.is_why in
    let p = c.in_ok-accepted.accepted in
    let e = c.in_ok-ending.ending in
    let x = shown (state_of e.state) in
    let ran = c.in_ok-ending.ensures in
    let known = g.R.Read.remaining c.args.reader.now in
    let old = g.W.Write.contents c.args.writer.now in
    let new = g.W.Write.contents c.write_tail.new.writer in
    let fault = c.in_err-write_tail.field-0.0 in
    let wrote = subst (λ (q : Plan). WritesOne (IsTail why q ran.0 x e.close) old new (Err fault)) c.plan.ensures.plan (c.in_err-write_tail.ensures ran.0) in
    subst (WritesThreads (IsTail why) options.turns options.seed known old new) (sym (handed_on c.from_residual-in_err-write_tail.result c.in_err-write_tail.field-0.0 c.from_residual-in_err-write_tail.ensures))
    (threads_unwritten (IsTail why) options.turns options.seed known old new p e ran.0 fault c.in_ok-accepted.ensures ran.1 wrote)

pub returns : goal.returns
returns g c =
    let why = c.args.options.is_why in
    let p = c.in_ok-accepted.accepted in
    let e = c.in_ok-ending.ending in
    let x = shown (state_of e.state) in
    let ran = c.in_ok-ending.ensures in
    let old = g.W.Write.contents c.args.writer.now in
    let new = g.W.Write.contents c.write_tail.new.writer in
    let wrote = subst (λ (q : Plan). WritesOne (IsTail why q ran.0 x e.close) old new (Ok tt)) c.plan.ensures.plan (c.in_ok-write_tail.ensures ran.0) in
    (p, c.in_ok-accepted.ensures, (wrote.0, (ran.0, ran.1, wrote.1), wrote.2))
