use Rattle.vc_text.proofs.TextWrites.{any_err, fails_there, passes_more}
use Rattle.vc_text.proofs.pieces.put_texts.Goals as goal

pub returns-in_err-put-clause-err : goal.returns-in_err-put-clause-err
returns-in_err-put-clause-err g c =
    any_err c.from_residual.result (fails_there (λ text. text.now) c.args.texts.now c.loop-text.text-index _ _ _ _ c.args.piece.now.items _ c.loop-text-test.true c.loop-text.invariant c.in_err-put.ensures.err)

pub loop-text-preserved : goal.loop-text-preserved
loop-text-preserved g c =
    passes_more (λ text. text.now) c.args.texts.now c.loop-text.text-index _ _ _ _ c.args.piece.now.items _ _ c.loop-text-test.true c.loop-text.invariant c.in_ok-put.ensures.ok
