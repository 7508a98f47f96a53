use Rattle.std.proofs.Common.{Err, rules, subst, sym}
use Rattle.vc_core.specs.State.{shown, state_of}
use Rattle.vc_text.specs.ThreadsText.{WritesThreads}
use Rattle.vc_text.proofs.CheckText.{memory_any}
use Rattle.vc_text.proofs.StepText.{handed_on, writes_one}
use Rattle.vc_text.proofs.ThreadText.{threads_unwritten}
use Rattle.vc_stats.specs.declared.form.Form.TheVariants.{Json}
use Rattle.vc_stats.specs.Private.Told.{told_text}
use Rattle.vc_stats.specs.Texts.{IsTrafficJson}
use Rattle.vc_stats.proofs.thread_run.json_net.Goals as goal

pub returns-in_err-tail : goal.returns-in_err-tail
returns-in_err-tail g c = search (rules, memory_any)

pub returns-in_err-write_told : goal.returns-in_err-write_told
returns-in_err-write_told g c =
    let options = c.args.options in
    let p = c.in_ok-accepted.accepted in
    let e = c.in_ok-ending.ending in
    let x = shown (state_of e.state) in
    let ran = c.in_ok-ending.ensures in
    let known = g.R.Read.remaining c.args.reader.now in
    let old = g.W.Write.contents c.args.writer.now in
    let new = g.W.Write.contents c.write_told.new.writer in
    let fault = c.in_err-write_told.field-0.0 in
    let text = told_text Json c.in_ok-tail.tail in
    let is = c.in_ok-tail.ensures p ran.0 ran.1.replays.is in
    let wrote = c.in_err-write_told.ensures in
    subst (WritesThreads IsTrafficJson options.turns options.seed known old new) (sym (handed_on c.from_residual-in_err-write_told.result fault c.from_residual-in_err-write_told.ensures))
    (threads_unwritten IsTrafficJson options.turns options.seed known old new p e ran.0 fault c.in_ok-accepted.ensures ran.1 (writes_one (IsTrafficJson p ran.0 x e.close) old new text (Err fault) is wrote))
