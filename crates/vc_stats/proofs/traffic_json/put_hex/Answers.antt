use Rattle.std.proofs.Common.{◌++◌, codes, refl}
use Rattle.hex.specs.Hex.{encode_lower}
use Rattle.vc_process.specs.declared.value_kind.ValueKind.TheVariants.{Bytes}
use Rattle.vc_stats.specs.Json.{value_json}
use Rattle.vc_text.proofs.TextWrites.{any_err, ends_err, ends_ok, fails_among, fails_first, passes_two}
use Rattle.vc_stats.proofs.traffic_json.put_hex.Goals as goal

pub returns-in_err-put-clause-err : goal.returns-in_err-put-clause-err
returns-in_err-put-clause-err g c =
    let digits = encode_lower c.args.message.now in
    any_err c.from_residual.result (fails_first _ _ c.args.piece.now.items (codes "\"") (digits ++ codes "\"") (value_json Bytes c.args.message.now) refl c.in_err-put.ensures.err)

pub returns-in_err-put_digits-clause-err : goal.returns-in_err-put_digits-clause-err
returns-in_err-put_digits-clause-err g c =
    let digits = encode_lower c.args.message.now in
    any_err c.from_residual-in_err-put_digits.result
    (fails_among _ _ _ c.args.piece.now.items _ (codes "\"") digits (codes "\"") (value_json Bytes c.args.message.now) c.in_ok-put.ensures.ok refl c.in_err-put_digits.ensures.err)

pub returns-clause-ok : goal.returns-clause-ok
returns-clause-ok g c =
    let digits = encode_lower c.args.message.now in
    let done = passes_two _ _ _ c.args.piece.now.items _ _ (codes "\"") digits c.in_ok-put.ensures.ok c.in_ok-put_digits.ensures.ok in
    ends_ok c.put-2.result _ _ _ c.args.piece.now.items _ _ (codes "\"" ++ digits) (codes "\"") (value_json Bytes c.args.message.now) done refl c.put-2.ensures.ok

pub returns-clause-err : goal.returns-clause-err
returns-clause-err g c =
    let digits = encode_lower c.args.message.now in
    let done = passes_two _ _ _ c.args.piece.now.items _ _ (codes "\"") digits c.in_ok-put.ensures.ok c.in_ok-put_digits.ensures.ok in
    ends_err c.put-2.result _ _ _ c.args.piece.now.items _ (codes "\"" ++ digits) (codes "\"") (value_json Bytes c.args.message.now) done refl c.put-2.ensures.err
