use Rattle.std.proofs.Common.{Err, Ok, subst, sym}
use Rattle.vc_core.specs.State.{shown, state_of}
use Rattle.vc_plan.specs.declared.plan.Plan.{Plan}
use Rattle.vc_text.specs.RunText.{WritesRun}
use Rattle.vc_text.specs.Private.Streams.{WritesOne}
use Rattle.vc_text.specs.Tail.{IsTail}
use Rattle.vc_text.proofs.StepText.{handed_on, run_unwritten}
use Rattle.vc_text.proofs.unlogged.run_plan.Goals as goal

pub returns-in_err-write_tail : goal.returns-in_err-write_tail
returns-in_err-write_tail g c =
    let options = c.args.options in
    let why = options.is_why in
    let plan = c.args.accepted.now in
    let x = shown (state_of c.in_ok-network.network) in
    let close = c.in_ok-network.close in
    let ran = c.in_ok-network.ensures.run in
    let old = g.W.Write.contents c.args.writer.now in
    let new = g.W.Write.contents c.write_tail.new.writer in
    let fault = c.in_err-write_tail.field-0.0 in
    let wrote = subst (λ (p : Plan). WritesOne (IsTail why p ran.0 x close) old new (Err fault)) c.plan.ensures.plan (c.in_err-write_tail.ensures ran.0) in
    subst (WritesRun (IsTail why) plan old new options.schedule options.limit) (sym (handed_on c.from_residual-in_err-write_tail.result c.in_err-write_tail.field-0.0 c.from_residual-in_err-write_tail.ensures))
    (run_unwritten (IsTail why) old new options.schedule options.limit plan ran.0 x close fault ran.1 wrote)

pub returns : goal.returns
returns g c =
    let why = c.args.options.is_why in
    let x = shown (state_of c.in_ok-network.network) in
    let close = c.in_ok-network.close in
    let ran = c.in_ok-network.ensures.run in
    let old = g.W.Write.contents c.args.writer.now in
    let new = g.W.Write.contents c.write_tail.new.writer in
    (ran.0, x, ran.1, subst (λ (p : Plan). WritesOne (IsTail why p ran.0 x close) old new (Ok tt)) c.plan.ensures.plan (c.in_ok-write_tail.ensures ran.0))
