use Rattle.std.proofs.Common.{map}
use Rattle.std.proofs.lemmas.Result.{on_err_weaker, on_ok_weaker}
use Rattle.vc_text.specs.Traffic.{traffic}
use Rattle.vc_text.specs.Views.{shown}
use Rattle.vc_text.proofs.TextWrites.{any_err, front_first, passes_front, passes_last}
use Rattle.vc_text.proofs.tail.Tail.put_last.Goals as goal

pub returns-in_err-put_traffic-clause-err : goal.returns-in_err-put_traffic-clause-err
returns-in_err-put_traffic-clause-err g c =
    let tail = c.args.self.now in
    any_err c.from_residual.result
    (front_first _ _ c.args.piece.now.items (traffic (map shown tail.views.items) tail.close) tail.after.items (rw c.as_slice.ensures.value at c.in_err-put_traffic.ensures.err))

pub returns-clause-ok : goal.returns-clause-ok
returns-clause-ok g c =
    let tail = c.args.self.now in
    on_ok_weaker c.put_last.result
    (λ last. passes_last _ _ _ c.args.piece.now.items _ (traffic (map shown tail.views.items) tail.close) tail.after.items (rw c.as_slice.ensures.value at c.in_ok-put_traffic.ensures.ok) (rw c.as_slice-2.ensures.value at last)) c.put_last.ensures.ok

pub returns-clause-err : goal.returns-clause-err
returns-clause-err g c =
    let tail = c.args.self.now in
    on_err_weaker c.put_last.result
    (λ last. passes_front _ _ _ c.args.piece.now.items _ (traffic (map shown tail.views.items) tail.close) tail.after.items (rw c.as_slice.ensures.value at c.in_ok-put_traffic.ensures.ok) (rw c.as_slice-2.ensures.value at last)) c.put_last.ensures.err
