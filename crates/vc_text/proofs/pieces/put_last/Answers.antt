use Rattle.std.proofs.lemmas.Result.{on_err_weaker}
use Rattle.vc_text.proofs.TextWrites.{passes_held}
use Rattle.vc_text.proofs.pieces.put_last.Goals as goal

pub returns-clause-err : goal.returns-clause-err
returns-clause-err g c = on_err_weaker c.flush.result (passes_held _ _ _ c.args.piece.now.items _ c.args.text.now c.in_ok-put.ensures.ok) c.flush.ensures.err
