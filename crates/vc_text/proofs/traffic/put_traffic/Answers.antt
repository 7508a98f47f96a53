use Rattle.std.proofs.Common.{◌≡◌, ◌∙◌, ◌++◌, List, map, ap, append_assoc, subst, sym}
use Rattle.std.proofs.lemmas.Result.{on_err_weaker, on_ok_weaker}
use Rattle.std.specs.List.{flat_map}
use Rattle.vc_core.specs.declared.close.Close.{Close}
use Rattle.vc_waits.specs.Waits.{newline}
use Rattle.vc_text.specs.Pieces.{Passes}
use Rattle.vc_text.specs.Streams.{AppendsFront}
use Rattle.vc_text.specs.Traffic.{channel_lines, close_text, traffic}
use Rattle.vc_text.specs.Views.{shown}
use Rattle.vc_text.specs.declared.traffic.ChannelView.{ChannelView}
use Rattle.vc_text.proofs.Texts.{mapped_text}
use Rattle.vc_text.proofs.TextWrites.{any_err, fails_first, passes_front, passes_two}
use Rattle.vc_text.proofs.traffic.put_traffic.Goals as goal

all_is : (views : List ChannelView) (close : Close) → flat_map (λ view. channel_lines (shown view)) views ++ (close_text close ++ newline) ≡ traffic (map shown views) close
all_is views close =
    let lines = flat_map (λ (view : ChannelView). channel_lines (shown view)) views in
    sym (append_assoc lines (close_text close) newline) ∙ ap (λ t. (t ++ close_text close) ++ newline) (mapped_text shown channel_lines views)

pub returns-in_err-put_channels-clause-err : goal.returns-in_err-put_channels-clause-err
returns-in_err-put_channels-clause-err g c =
    let lines = flat_map (λ view. channel_lines (shown view)) c.args.views.now in
    let last = close_text c.args.close ++ newline in
    any_err c.from_residual.result
    (fails_first _ _ c.args.piece.now.items lines last (traffic (map shown c.args.views.now) c.args.close) (all_is c.args.views.now c.args.close) c.in_err-put_channels.ensures.err)

pub returns-clause-ok : goal.returns-clause-ok
returns-clause-ok g c =
    let held = c.args.piece.now.items in
    let lines = flat_map (λ view. channel_lines (shown view)) c.args.views.now in
    let last = close_text c.args.close ++ newline in
    let old = g.W.Write.contents c.args.writer.now in
    let new = g.W.Write.contents c.put.new.writer in
    on_ok_weaker c.put.result
    (λ end. subst (Passes old held new c.put.new.piece.items) (all_is c.args.views.now c.args.close)
    (passes_two old _ new held _ _ lines last c.in_ok-put_channels.ensures.ok (subst (Passes _ _ new c.put.new.piece.items) c.close_line.ensures end))) c.put.ensures.ok

pub returns-clause-err : goal.returns-clause-err
returns-clause-err g c =
    let held = c.args.piece.now.items in
    let lines = flat_map (λ view. channel_lines (shown view)) c.args.views.now in
    let last = close_text c.args.close ++ newline in
    let old = g.W.Write.contents c.args.writer.now in
    let mid = g.W.Write.contents c.put_channels.new.writer in
    let left = c.put_channels.new.piece.items in
    let new = g.W.Write.contents c.put.new.writer in
    on_err_weaker c.put.result
    (λ end. subst (λ t. AppendsFront old new (held ++ t)) (all_is c.args.views.now c.args.close)
    (passes_front old _ new held _ lines last c.in_ok-put_channels.ensures.ok (subst (λ t. AppendsFront mid new (left ++ t)) c.close_line.ensures end))) c.put.ensures.err
