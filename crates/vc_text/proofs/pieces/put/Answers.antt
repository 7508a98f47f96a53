use Rattle.std.proofs.lemmas.Result.{on_err_weaker}
use Rattle.vc_text.proofs.TextWrites.{front_behind}
use Rattle.vc_text.proofs.pieces.put.Goals as goal

pub returns-then-text-gt-ROOM-clause-err : goal.returns-then-text-gt-ROOM-clause-err
returns-then-text-gt-ROOM-clause-err g c =
    on_err_weaker c.pass.result (front_behind _ _ _ c.args.piece.now.items c.args.text.now c.in_ok-flush.ensures.ok) c.pass.ensures.err
