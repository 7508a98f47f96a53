use Rattle.vc_trace.specs.Private.EventText.{spaced_word}
use Rattle.vc_text.proofs.TextWrites.{any_err, fails_there, passes_more}
use Rattle.vc_trace.proofs.event_text.put_words.Goals as goal

pub returns-in_err-put_spaced-clause-err : goal.returns-in_err-put_spaced-clause-err
returns-in_err-put_spaced-clause-err g c =
    any_err c.from_residual.result (fails_there spaced_word c.args.words.now c.loop-word.word-index _ _ _ _ c.args.piece.now.items _ c.loop-word-test.true c.loop-word.invariant c.in_err-put_spaced.ensures.err)

pub loop-word-preserved : goal.loop-word-preserved
loop-word-preserved g c =
    passes_more spaced_word c.args.words.now c.loop-word.word-index _ _ _ _ c.args.piece.now.items _ _ c.loop-word-test.true c.loop-word.invariant c.in_ok-put_spaced.ensures.ok
