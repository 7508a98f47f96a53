use Rattle.std.proofs.Common.{◌∙◌, ◌++◌, append_assoc, subst}
use Rattle.hex.specs.Hex.{encode_lower}
use Rattle.vc_text.specs.Pieces.{Passes}
use Rattle.vc_text.proofs.DigitTexts.{all_digits, more_digits}
use Rattle.vc_text.proofs.TextWrites.{any_err, fails_among, passes_two}
use Rattle.vc_text.proofs.digits.put_digits.Goals as goal

pub returns-in_err-put_first-clause-err : goal.returns-in_err-put_first-clause-err
returns-in_err-put_first-clause-err g c =
    let (done, went, is) = c.loop-rest.invariant in
    let first = c.split_at.result.0.now in
    let others = c.split_at.result.1.now in
    any_err c.from_residual.result
    (fails_among _ _ _ c.args.piece.now.items _ done (encode_lower first) (encode_lower others) (encode_lower c.args.bytes.now) went
    (more_digits done first others c.loop-rest.rest.now c.args.bytes.now c.split_at.ensures.by_index.0 is) c.in_err-put_first.ensures.err)

pub loop-rest-preserved : goal.loop-rest-preserved
loop-rest-preserved g c =
    let (done, went, is) = c.loop-rest.invariant in
    let first = c.split_at.result.0.now in
    let others = c.split_at.result.1.now in (
      done ++ encode_lower first,
      passes_two _ _ _ c.args.piece.now.items _ _ done (encode_lower first) went c.in_ok-put_first.ensures.ok,
      append_assoc done (encode_lower first) (encode_lower others) ∙ more_digits done first others c.loop-rest.rest.now c.args.bytes.now c.split_at.ensures.by_index.0 is,
    )

pub returns-clause-ok : goal.returns-clause-ok
returns-clause-ok g c =
    let (done, went, is) = c.loop-rest.invariant in
    subst (Passes (g.W.Write.contents c.args.writer.now) c.args.piece.now.items (g.W.Write.contents c.loop-rest.writer) c.loop-rest.piece.items)
    (all_digits done c.loop-rest.rest.now c.args.bytes.now c.loop-rest-test.ensures is) went
