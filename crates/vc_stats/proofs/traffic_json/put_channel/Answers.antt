use Rattle.std.proofs.Common.{◌≡◌, ◌∙◌, ◌++◌, ℕ, List, codes, append_assoc, arith}
use Rattle.std.specs.List.{enumerate_from, flat_map}
use Rattle.vc_stats.specs.Fields.{field_text}
use Rattle.vc_stats.specs.Json.{channel_json, kind_json, message_json, messages_json, named, stop_json}
use Rattle.vc_stats.specs.Private.Json.{end_json, head_json}
use Rattle.vc_stats.specs.declared.form.Form.TheVariants.{Json}
use Rattle.vc_text.specs.Traffic.{ChannelTraffic}
use Rattle.vc_text.specs.Views.{shown}
use Rattle.vc_text.proofs.TextWrites.{any_err, ends_err, ends_ok, fails_among, fails_first, passes_two}
use Rattle.vc_stats.proofs.traffic_json.put_channel.Goals as goal

-- the messages
taken : ChannelTraffic → List ℕ
taken x = flat_map (message_json x.kind) (enumerate_from 0 x.taken)

parts : (a b c d e f g h : List ℕ) → (((a ++ b) ++ c) ++ d) ++ (e ++ ((f ++ g) ++ h)) ≡ ((((a ++ b) ++ c) ++ ((d ++ e) ++ f)) ++ g) ++ h
parts a b c d e f g h = grind (arith, append_assoc)

channel_is : (n : ℕ) (x : ChannelTraffic) → head_json n x ++ (taken x ++ end_json x) ≡ channel_json (n, x)
unfolding taken head_json end_json channel_json messages_json
channel_is n x =
    parts (named n x.name) (kind_json x.kind) (field_text Json (codes "offered") x.offered) (codes ",\"taken\":[") (taken x) (codes "]") (field_text Json (codes "finished") x.finished) (stop_json x.is_stopped)

whole_is : (n : ℕ) (x : ChannelTraffic) → (head_json n x ++ taken x) ++ end_json x ≡ channel_json (n, x)
whole_is n x = append_assoc (head_json n x) (taken x) (end_json x) ∙ channel_is n x

pub returns-in_err-put_head-clause-err : goal.returns-in_err-put_head-clause-err
returns-in_err-put_head-clause-err g c =
    let n = c.args.n in
    let x = shown c.args.view.now in
    any_err c.from_residual.result (fails_first _ _ c.args.piece.now.items (head_json n x) (taken x ++ end_json x) (channel_json (n, x)) (channel_is n x) c.in_err-put_head.ensures.err)

pub returns-in_err-put_messages-clause-err : goal.returns-in_err-put_messages-clause-err
unfolding taken
returns-in_err-put_messages-clause-err g c =
    let n = c.args.n in
    let x = shown c.args.view.now in
    any_err c.from_residual-in_err-put_messages.result
    (fails_among _ _ _ c.args.piece.now.items _ (head_json n x) (taken x) (end_json x) (channel_json (n, x)) c.in_ok-put_head.ensures.ok (channel_is n x) c.in_err-put_messages.ensures.err)

pub returns-clause-ok : goal.returns-clause-ok
unfolding taken
returns-clause-ok g c =
    let n = c.args.n in
    let x = shown c.args.view.now in
    let done = passes_two _ _ _ c.args.piece.now.items _ _ (head_json n x) (taken x) c.in_ok-put_head.ensures.ok c.in_ok-put_messages.ensures.ok in
    ends_ok c.put_end.result _ _ _ c.args.piece.now.items _ _ (head_json n x ++ taken x) (end_json x) (channel_json (n, x)) done (whole_is n x) c.put_end.ensures.ok

pub returns-clause-err : goal.returns-clause-err
unfolding taken
returns-clause-err g c =
    let n = c.args.n in
    let x = shown c.args.view.now in
    let done = passes_two _ _ _ c.args.piece.now.items _ _ (head_json n x) (taken x) c.in_ok-put_head.ensures.ok c.in_ok-put_messages.ensures.ok in
    ends_err c.put_end.result _ _ _ c.args.piece.now.items _ (head_json n x ++ taken x) (end_json x) (channel_json (n, x)) done (whole_is n x) c.put_end.ensures.err
