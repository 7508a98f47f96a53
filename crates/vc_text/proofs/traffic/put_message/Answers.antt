use Rattle.std.proofs.Common.{◌≡◌, ◌∙◌, ◌++◌, [], ℕ, List, codes, decimal, append_assoc, ap, subst, sym}
use Rattle.std.proofs.lemmas.Result.{on_err_weaker, on_ok_weaker}
use Rattle.vc_process.specs.declared.value_kind.ValueKind.{ValueKind}
use Rattle.vc_waits.specs.Waits.{newline}
use Rattle.vc_text.specs.Pieces.{Passes}
use Rattle.vc_text.specs.Streams.{AppendsFront}
use Rattle.vc_text.specs.Traffic.{message_line, value_text}
use Rattle.vc_text.proofs.TextWrites.{any_err, fails_among, fails_first, passes_front, passes_two}
use Rattle.vc_text.proofs.traffic.put_message.Goals as goal

-- what stands in front of the value, by the digits of the message's number
head : List ℕ → List ℕ
head number = codes "  " ++ (number ++ (codes " " ++ []))

whole_is : (kind : ValueKind) (number : List ℕ) (n : ℕ) (m : List ℕ) → number ≡ decimal n → (head number ++ value_text kind m) ++ newline ≡ message_line kind n m
unfolding head
whole_is kind number n m is = ap (λ t. (head t ++ value_text kind m) ++ newline) is

line_is : (kind : ValueKind) (number : List ℕ) (n : ℕ) (m : List ℕ) → number ≡ decimal n → head number ++ (value_text kind m ++ newline) ≡ message_line kind n m
line_is kind number n m is = sym (append_assoc (head number) (value_text kind m) newline) ∙ whole_is kind number n m is

pub returns-in_err-put_texts-clause-err : goal.returns-in_err-put_texts-clause-err
unfolding head
returns-in_err-put_texts-clause-err g c =
    let number = c.as_bytes.result.now in
    let m = c.args.message.now in
    let kind = c.args.kind in
    let is = line_is kind number c.args.n m (c.as_bytes.ensures.value ∙ c.format.ensures.text) in
    any_err c.from_residual.result (fails_first _ _ c.args.piece.now.items (head number) (value_text kind m ++ newline) (message_line kind c.args.n m) is c.in_err-put_texts.ensures.err)

pub returns-in_err-put_value-clause-err : goal.returns-in_err-put_value-clause-err
unfolding head
returns-in_err-put_value-clause-err g c =
    let number = c.as_bytes.result.now in
    let m = c.args.message.now in
    let kind = c.args.kind in
    let is = line_is kind number c.args.n m (c.as_bytes.ensures.value ∙ c.format.ensures.text) in
    any_err c.from_residual-in_err-put_value.result
    (fails_among _ _ _ c.args.piece.now.items _ (head number) (value_text kind m) newline (message_line kind c.args.n m) c.in_ok-put_texts.ensures.ok is c.in_err-put_value.ensures.err)

pub returns-clause-ok : goal.returns-clause-ok
unfolding head
returns-clause-ok g c =
    let number = c.as_bytes.result.now in
    let m = c.args.message.now in
    let kind = c.args.kind in
    let held = c.args.piece.now.items in
    let is = whole_is kind number c.args.n m (c.as_bytes.ensures.value ∙ c.format.ensures.text) in
    let old = g.W.Write.contents c.args.writer.now in
    let new = g.W.Write.contents c.put.new.writer in
    let front = passes_two old _ _ held _ _ (head number) (value_text kind m) c.in_ok-put_texts.ensures.ok c.in_ok-put_value.ensures.ok in
    on_ok_weaker c.put.result (λ last. subst (Passes old held new c.put.new.piece.items) is (passes_two old _ new held _ _ (head number ++ value_text kind m) newline front last)) c.put.ensures.ok

pub returns-clause-err : goal.returns-clause-err
unfolding head
returns-clause-err g c =
    let number = c.as_bytes.result.now in
    let m = c.args.message.now in
    let kind = c.args.kind in
    let held = c.args.piece.now.items in
    let is = whole_is kind number c.args.n m (c.as_bytes.ensures.value ∙ c.format.ensures.text) in
    let old = g.W.Write.contents c.args.writer.now in
    let new = g.W.Write.contents c.put.new.writer in
    let front = passes_two old _ _ held _ _ (head number) (value_text kind m) c.in_ok-put_texts.ensures.ok c.in_ok-put_value.ensures.ok in
    on_err_weaker c.put.result (λ last. subst (λ t. AppendsFront old new (held ++ t)) is (passes_front old _ new held _ (head number ++ value_text kind m) newline front last)) c.put.ensures.err
