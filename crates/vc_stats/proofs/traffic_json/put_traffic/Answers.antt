use Rattle.std.proofs.Common.{◌≡◌, ◌∙◌, ◌++◌, ℕ, List, codes, map, append_assoc, arith}
use Rattle.std.specs.List.{enumerate_from, flat_map}
use Rattle.vc_core.specs.declared.close.Close.{Close}
use Rattle.vc_stats.specs.Json.{channel_json, end_word, traffic_json}
use Rattle.vc_text.specs.Traffic.{ChannelTraffic}
use Rattle.vc_text.specs.Views.{shown}
use Rattle.vc_text.proofs.TextWrites.{any_err, ends_err, ends_ok, fails_among, fails_first, passes_two}
use Rattle.vc_stats.proofs.traffic_json.put_traffic.Goals as goal

-- the channels, and how the run ended
all : List ChannelTraffic → List ℕ
all xs = flat_map channel_json (enumerate_from 0 xs)

last : Close → List ℕ
last close = (codes "],\"end\":\"" ++ end_word close) ++ codes "\""

parts : (a b c d e : List ℕ) → a ++ (b ++ ((c ++ d) ++ e)) ≡ (((a ++ b) ++ c) ++ d) ++ e
parts a b c d e = grind (arith, append_assoc)

traffic_is : (xs : List ChannelTraffic) (close : Close) → codes "{\"channels\":[" ++ (all xs ++ last close) ≡ traffic_json xs close
unfolding all last traffic_json
traffic_is xs close = parts (codes "{\"channels\":[") (all xs) (codes "],\"end\":\"") (end_word close) (codes "\"")

whole_is : (xs : List ChannelTraffic) (close : Close) → (codes "{\"channels\":[" ++ all xs) ++ last close ≡ traffic_json xs close
whole_is xs close = append_assoc (codes "{\"channels\":[") (all xs) (last close) ∙ traffic_is xs close

pub returns-in_err-put-clause-err : goal.returns-in_err-put-clause-err
returns-in_err-put-clause-err g c =
    let xs = map shown c.args.views.now in
    let close = c.args.close in
    any_err c.from_residual.result
    (fails_first _ _ c.args.piece.now.items (codes "{\"channels\":[") (all xs ++ last close) (traffic_json xs close) (traffic_is xs close) c.in_err-put.ensures.err)

pub returns-in_err-put_channels-clause-err : goal.returns-in_err-put_channels-clause-err
unfolding all
returns-in_err-put_channels-clause-err g c =
    let xs = map shown c.args.views.now in
    let close = c.args.close in
    any_err c.from_residual-in_err-put_channels.result
    (fails_among _ _ _ c.args.piece.now.items _ (codes "{\"channels\":[") (all xs) (last close) (traffic_json xs close) c.in_ok-put.ensures.ok (traffic_is xs close) c.in_err-put_channels.ensures.err)

pub returns-clause-ok : goal.returns-clause-ok
unfolding all last
returns-clause-ok g c =
    let xs = map shown c.args.views.now in
    let close = c.args.close in
    let done = passes_two _ _ _ c.args.piece.now.items _ _ (codes "{\"channels\":[") (all xs) c.in_ok-put.ensures.ok c.in_ok-put_channels.ensures.ok in
    ends_ok c.put-2.result _ _ _ c.args.piece.now.items _ _ (codes "{\"channels\":[" ++ all xs) (last close) (traffic_json xs close) done (whole_is xs close) (rw c.end_text.ensures at c.put-2.ensures.ok)

pub returns-clause-err : goal.returns-clause-err
unfolding all last
returns-clause-err g c =
    let xs = map shown c.args.views.now in
    let close = c.args.close in
    let done = passes_two _ _ _ c.args.piece.now.items _ _ (codes "{\"channels\":[") (all xs) c.in_ok-put.ensures.ok c.in_ok-put_channels.ensures.ok in
    ends_err c.put-2.result _ _ _ c.args.piece.now.items _ (codes "{\"channels\":[" ++ all xs) (last close) (traffic_json xs close) done (whole_is xs close) (rw c.end_text.ensures at c.put-2.ensures.err)
