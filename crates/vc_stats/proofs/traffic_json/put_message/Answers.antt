use Rattle.std.proofs.Common.{refl}
use Rattle.vc_stats.specs.Json.{comma, message_json, value_json}
use Rattle.vc_text.proofs.TextWrites.{any_err, ends_err, ends_ok, fails_first}
use Rattle.vc_stats.proofs.traffic_json.put_message.Goals as goal

pub returns-in_err-put-clause-err : goal.returns-in_err-put-clause-err
returns-in_err-put-clause-err g c =
    let kind = c.args.kind in
    let n = c.args.n in
    let m = c.args.message.now in
    any_err c.from_residual.result
    (fails_first _ _ c.args.piece.now.items (comma n) (value_json kind m) (message_json kind (n, m)) refl (rw c.comma_before.ensures at c.in_err-put.ensures.err))

pub returns-clause-ok : goal.returns-clause-ok
returns-clause-ok g c =
    let kind = c.args.kind in
    let n = c.args.n in
    let m = c.args.message.now in
    ends_ok c.put_json.result _ _ _ c.args.piece.now.items _ _ (comma n) (value_json kind m) (message_json kind (n, m)) (rw c.comma_before.ensures at c.in_ok-put.ensures.ok) refl c.put_json.ensures.ok

pub returns-clause-err : goal.returns-clause-err
returns-clause-err g c =
    let kind = c.args.kind in
    let n = c.args.n in
    let m = c.args.message.now in
    ends_err c.put_json.result _ _ _ c.args.piece.now.items _ (comma n) (value_json kind m) (message_json kind (n, m)) (rw c.comma_before.ensures at c.in_ok-put.ensures.ok) refl c.put_json.ensures.err
