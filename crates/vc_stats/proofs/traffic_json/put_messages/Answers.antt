use Rattle.std.proofs.Common.{◌+◌, ◌++◌, ℕ, List, [], refl, sym, ap, ◌∙◌, arith, append_assoc, drop, subst}
use Rattle.std.proofs.lemmas.List.{append-nil}
use Rattle.std.specs.List.{enumerate_from, flat_map}
use Rattle.std.specs.Option.{option_copied}
use Rattle.vc_blocks.specs.Messages.{listed}
use Rattle.vc_blocks.proofs.Logs.{drop_past}
use Rattle.vc_process.specs.declared.value_kind.ValueKind.{ValueKind}
use Rattle.vc_stats.specs.Json.{message_json}
use Rattle.vc_text.specs.Pieces.{Passes}
use Rattle.vc_text.proofs.Texts.{none_past, rest_at}
use Rattle.vc_text.proofs.TextWrites.{any_err, fails_among, passes_none, passes_two}
use Rattle.vc_stats.proofs.traffic_json.put_messages.Goals as goal

-- the messages from the n-th on
from : ValueKind → ℕ → List (List ℕ) → List ℕ
from kind n ms = flat_map (message_json kind) (enumerate_from n ms)

pub unreachable-requires : goal.unreachable-requires
unreachable-requires g c = none_past (listed c.args.messages) c.loop-n.n (omega (arith, c.loop-n-test.true, c.len-n-end.ensures)) (ap option_copied (sym c.in_default.is) ∙ c.get.ensures)

pub loop-n-init : goal.loop-n-init
loop-n-init g c = ([], passes_none _ c.args.piece.now.items, refl)

pub returns-in_err-put_message-clause-err : goal.returns-in_err-put_message-clause-err
unfolding from
returns-in_err-put_message-clause-err g c =
    let ms = listed c.args.messages in
    let n = c.loop-n.n in
    let (done, went, is) = c.loop-n.invariant in
    let m = c.in-Some.message.now in
    any_err c.from_residual.result
    (fails_among _ _ _ c.args.piece.now.items _ done (message_json c.args.kind (n, m)) (from c.args.kind (n + 1) (drop (n + 1) ms)) (from c.args.kind 0 ms) went
    (ap (λ xs. done ++ from c.args.kind n xs) (sym (rest_at ms n m c.in-Some.ensures)) ∙ is) c.in_err-put_message.ensures.err)

pub loop-n-preserved : goal.loop-n-preserved
unfolding from
loop-n-preserved g c =
    let ms = listed c.args.messages in
    let n = c.loop-n.n in
    let (done, went, is) = c.loop-n.invariant in
    let m = c.in-Some.message.now in
    let one = message_json c.args.kind (n, m) in
    let rest = from c.args.kind (n + 1) (drop (n + 1) ms) in (
      done ++ one,
      passes_two _ _ _ c.args.piece.now.items _ _ done one went c.in_ok-put_message.ensures.ok,
      append_assoc done one rest ∙ ap (λ xs. done ++ from c.args.kind n xs) (sym (rest_at ms n m c.in-Some.ensures)) ∙ is,
    )

pub returns-clause-ok : goal.returns-clause-ok
unfolding from
returns-clause-ok g c =
    let ms = listed c.args.messages in
    let n = c.loop-n.n in
    let (done, went, is) = c.loop-n.invariant in
    let past = drop_past ms n (omega (arith, c.loop-n-test.false, c.len-n-end.ensures)) in
    let all = sym (append-nil done) ∙ ap (λ xs. done ++ from c.args.kind n xs) (sym past) ∙ is in
    subst (Passes (g.W.Write.contents c.args.writer.now) c.args.piece.now.items (g.W.Write.contents c.loop-n.writer) c.loop-n.piece.items) all went
