use Rattle.std.proofs.Common.{[], map}
use Rattle.std.proofs.lemmas.Result.{on_err_weaker, on_ok_weaker}
use Rattle.vc_text.specs.Traffic.{traffic}
use Rattle.vc_text.specs.Views.{shown}
use Rattle.vc_text.proofs.TextWrites.{any_err, passes_all, passes_held}
use Rattle.vc_text.proofs.traffic.pass_traffic.Goals as goal

pub returns-in_err-put_traffic-clause-err : goal.returns-in_err-put_traffic-clause-err
returns-in_err-put_traffic-clause-err g c = any_err c.from_residual.result (rw c.new-piece.ensures at c.in_err-put_traffic.ensures.err)

pub returns-clause-ok : goal.returns-clause-ok
returns-clause-ok g c =
    let text = traffic (map shown c.args.views.now) c.args.close in
    on_ok_weaker c.flush.result (passes_all _ _ _ [] _ text (rw c.new-piece.ensures at c.in_ok-put_traffic.ensures.ok)) c.flush.ensures.ok

pub returns-clause-err : goal.returns-clause-err
returns-clause-err g c =
    let text = traffic (map shown c.args.views.now) c.args.close in
    on_err_weaker c.flush.result (passes_held _ _ _ [] _ text (rw c.new-piece.ensures at c.in_ok-put_traffic.ensures.ok)) c.flush.ensures.err
