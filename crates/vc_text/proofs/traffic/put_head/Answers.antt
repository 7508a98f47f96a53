use Rattle.std.proofs.Common.{◌≡◌, ◌++◌, [], ℕ, List, codes, decimal, length, append_assoc, arith, subst, ◌∙◌, ap, rules}
use Rattle.std.proofs.lemmas.Result.{on_err_weaker}
use Rattle.vc_waits.specs.Waits.{newline, stop_text}
use Rattle.vc_text.specs.Streams.{AppendsFront}
use Rattle.vc_text.specs.Traffic.{ChannelTraffic, channel_line}
use Rattle.vc_text.specs.Views.{shown}
use Rattle.vc_text.proofs.traffic.put_head.Goals as goal

-- the parts of the line, as they are put
line_is : (name offered taken finished stop : List ℕ) (x : ChannelTraffic) → name ≡ x.name → offered ≡ decimal x.offered → taken ≡ decimal (length x.taken) → finished ≡ decimal x.finished → stop ≡ stop_text x.is_stopped →
    codes "channel " ++ (name ++ (codes " offered " ++ (offered ++ (codes " taken " ++ (taken ++ (codes " finished " ++ (finished ++ (stop ++ (newline ++ []))))))))) ≡ channel_line x
line_is name offered taken finished stop x a b c d e = grind (arith, append_assoc)

pub returns-clause-err : goal.returns-clause-err
returns-clause-err g c =
    let x = shown c.args.view.now in
    let stop : c.if-view.texts.now ≡ stop_text x.is_stopped = search rules in
    let is = line_is c.as_bytes.result.now c.as_bytes-2.result.now c.as_bytes-3.result.now c.as_bytes-4.result.now c.if-view.texts.now x c.as_bytes.ensures.value (c.as_bytes-2.ensures.value ∙ c.format.ensures.text)
    (c.as_bytes-3.ensures.value ∙ c.format-2.ensures.text ∙ ap decimal c.len.ensures) (c.as_bytes-4.ensures.value ∙ c.format-3.ensures.text) stop in
    on_err_weaker c.put_texts.result (λ front. subst (λ t. AppendsFront (g.W.Write.contents c.args.writer.now) (g.W.Write.contents c.put_texts.new.writer) (c.args.piece.now.items ++ t)) is front) c.put_texts.ensures.err
