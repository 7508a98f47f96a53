use Rattle.std.proofs.Common.{Err, rules, subst, sym}
use Rattle.vc_core.specs.State.{shown, state_of}
use Rattle.vc_plan.specs.declared.plan.Plan.{Plan}
use Rattle.vc_text.specs.RunText.{RunText}
use Rattle.vc_text.specs.ThreadsText.{WritesThreads}
use Rattle.vc_text.proofs.CheckText.{memory_any}
use Rattle.vc_text.proofs.StepText.{handed_on, writes_one}
use Rattle.vc_text.proofs.ThreadText.{threads_unwritten}
use Rattle.vc_stats.specs.Private.Told.{told_text}
use Rattle.vc_stats.specs.Texts.{IsCountedText, IsEventsText}
use Rattle.vc_stats.proofs.thread_run.stats_net.Goals as goal

pub returns-in_err-tail : goal.returns-in_err-tail
returns-in_err-tail g c = search (rules, memory_any)

pub returns-in_err-write_told : goal.returns-in_err-write_told
returns-in_err-write_told g c =
    let options = c.args.options in
    let p = c.in_ok-accepted.accepted in
    let e = c.in_ok-ending.ending in
    let (events, run, counts) = c.in_ok-ending.ensures in
    let x = shown (state_of e.state) in
    let IsText : RunText = IsEventsText c.args.form options.is_why in
    let known = g.R.Read.remaining c.args.reader.now in
    let old = g.W.Write.contents c.args.writer.now in
    let new = g.W.Write.contents c.write_told.new.writer in
    let fault = c.in_err-write_told.field-0.0 in
    let text = told_text c.args.form c.in_ok-tail.tail in
    let made = subst (λ states. IsCountedText c.args.form options.is_why states c.plan.result.now events x e.close text) c.unknown.ensures (c.in_ok-tail.ensures events counts) in
    let is = subst (λ (q : Plan). IsText q events x e.close text) c.plan.ensures.plan made in
    let wrote = c.in_err-write_told.ensures in
    subst (WritesThreads IsText options.turns options.seed known old new) (sym (handed_on c.from_residual-in_err-write_told.result fault c.from_residual-in_err-write_told.ensures))
    (threads_unwritten IsText options.turns options.seed known old new p e events fault c.in_ok-accepted.ensures run (writes_one (IsText p events x e.close) old new text (Err fault) is wrote))
