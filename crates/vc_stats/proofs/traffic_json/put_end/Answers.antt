use Rattle.std.proofs.Common.{◌≡◌, ◌∙◌, ◌++◌, [], ℕ, List, codes, decimal, append_assoc, arith, subst}
use Rattle.std.proofs.lemmas.Result.{on_err_weaker, on_ok_weaker}
use Rattle.vc_stats.specs.Json.{stop_json}
use Rattle.vc_stats.specs.Private.Json.{end_json}
use Rattle.vc_text.specs.Pieces.{Passes}
use Rattle.vc_text.specs.Streams.{AppendsFront}
use Rattle.vc_text.specs.Traffic.{ChannelTraffic}
use Rattle.vc_text.specs.Views.{shown}
use Rattle.vc_stats.proofs.traffic_json.put_end.Goals as goal

-- the parts, as they are put
end_is : (finished stop : List ℕ) (x : ChannelTraffic) → finished ≡ decimal x.finished → stop ≡ stop_json x.is_stopped → codes "],\"finished\":" ++ (finished ++ (stop ++ [])) ≡ end_json x
unfolding end_json
end_is finished stop x a b = grind (arith, append_assoc)

pub returns-clause-ok : goal.returns-clause-ok
returns-clause-ok g c =
    let is = end_is c.as_bytes.result.now c.stop_word.result.now (shown c.args.view.now) (c.as_bytes.ensures.value ∙ c.format.ensures.text) c.stop_word.ensures in
    on_ok_weaker c.put_texts.result (subst (Passes (g.W.Write.contents c.args.writer.now) c.args.piece.now.items (g.W.Write.contents c.put_texts.new.writer) c.put_texts.new.piece.items) is) c.put_texts.ensures.ok

pub returns-clause-err : goal.returns-clause-err
returns-clause-err g c =
    let is = end_is c.as_bytes.result.now c.stop_word.result.now (shown c.args.view.now) (c.as_bytes.ensures.value ∙ c.format.ensures.text) c.stop_word.ensures in
    on_err_weaker c.put_texts.result (subst (λ t. AppendsFront (g.W.Write.contents c.args.writer.now) (g.W.Write.contents c.put_texts.new.writer) (c.args.piece.now.items ++ t)) is) c.put_texts.ensures.err
