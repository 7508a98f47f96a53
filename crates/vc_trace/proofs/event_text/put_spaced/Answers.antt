use Rattle.std.proofs.Common.{codes}
use Rattle.std.proofs.lemmas.Result.{on_err_weaker, on_ok_weaker}
use Rattle.vc_trace.specs.Private.EventText.{word_text}
use Rattle.vc_text.proofs.TextWrites.{any_err, front_first, passes_front, passes_two}
use Rattle.vc_trace.proofs.event_text.put_spaced.Goals as goal

pub returns-in_err-put-clause-err : goal.returns-in_err-put-clause-err
returns-in_err-put-clause-err g c = any_err c.from_residual.result (front_first _ _ c.args.piece.now.items (codes " ") (word_text c.args.word.now) c.in_err-put.ensures.err)

pub returns-clause-ok : goal.returns-clause-ok
returns-clause-ok g c =
    on_ok_weaker c.put_word.result (passes_two _ _ _ c.args.piece.now.items _ _ (codes " ") (word_text c.args.word.now) c.in_ok-put.ensures.ok) c.put_word.ensures.ok

pub returns-clause-err : goal.returns-clause-err
returns-clause-err g c =
    on_err_weaker c.put_word.result (passes_front _ _ _ c.args.piece.now.items _ (codes " ") (word_text c.args.word.now) c.in_ok-put.ensures.ok) c.put_word.ensures.err
