use Rattle.std.proofs.Common.{◌≡◌, ◌<◌, ◌∙◌, ◌+◌, ◌++◌, ℕ, zero, suc, List, [], ◌∷◌, ap, append_assoc, append-nil, arith, drop, get_or, length, map, refl, subst, sym}
use Rattle.std.specs.List.{enumerate_from, flat_map}
use Rattle.vc_blocks.proofs.Logs.{drop_past}
use Rattle.vc_stats.specs.Json.{channel_json}
use Rattle.vc_text.specs.Pieces.{Passes}
use Rattle.vc_text.specs.Views.{shown}
use Rattle.vc_text.specs.declared.traffic.ChannelView.{ChannelView}
use Rattle.vc_text.proofs.TextWrites.{any_err, fails_among, passes_none, passes_two}
use Rattle.vc_stats.proofs.traffic_json.put_channels.Goals as goal

-- the channels from the n-th on
from : ℕ → List ChannelView → List ℕ
from n views = flat_map channel_json (enumerate_from n (map shown views))

drop_at : {X : Type 0} (xs : List X) (n : ℕ) (x : X) → n < length xs → x ≡ get_or xs n x → drop n xs ≡ x ∷ drop (n + 1) xs
drop_at [] n x less at = absurd (omega (arith, less))
drop_at (y ∷ xs) zero x less at = ap (λ z. z ∷ xs) (sym at)
drop_at (y ∷ xs) (suc n) x less at = let e : suc (n + 1) ≡ suc n + 1 = omega arith in drop_at xs n x (omega (arith, less)) at ∙ ap (λ k. x ∷ drop k (y ∷ xs)) e

pub loop-n-init : goal.loop-n-init
loop-n-init g c = ([], passes_none _ c.args.piece.now.items, refl)

pub returns-in_err-put_channel-clause-err : goal.returns-in_err-put_channel-clause-err
unfolding from
returns-in_err-put_channel-clause-err g c =
    let views = c.args.views.now in
    let n = c.loop-n.n in
    let (done, went, is) = c.loop-n.invariant in
    let x = c.index-views-n.result in
    any_err c.from_residual.result
    (fails_among _ _ _ c.args.piece.now.items _ done (channel_json (n, shown x)) (from (n + 1) (drop (n + 1) views)) (from 0 views) went
    (ap (λ xs. done ++ from n xs) (sym (drop_at views n x c.loop-n-test.true c.index-views-n.is)) ∙ is) c.in_err-put_channel.ensures.err)

pub loop-n-preserved : goal.loop-n-preserved
unfolding from
loop-n-preserved g c =
    let views = c.args.views.now in
    let n = c.loop-n.n in
    let (done, went, is) = c.loop-n.invariant in
    let x = c.index-views-n.result in
    let one = channel_json (n, shown x) in
    let rest = from (n + 1) (drop (n + 1) views) in (
      done ++ one,
      passes_two _ _ _ c.args.piece.now.items _ _ done one went c.in_ok-put_channel.ensures.ok,
      append_assoc done one rest ∙ ap (λ xs. done ++ from n xs) (sym (drop_at views n x c.loop-n-test.true c.index-views-n.is)) ∙ is,
    )

pub returns-clause-ok : goal.returns-clause-ok
unfolding from
returns-clause-ok g c =
    let views = c.args.views.now in
    let n = c.loop-n.n in
    let (done, went, is) = c.loop-n.invariant in
    let all = sym (append-nil done) ∙ ap (λ xs. done ++ from n xs) (sym (drop_past views n c.loop-n-test.false)) ∙ is in
    subst (Passes (g.W.Write.contents c.args.writer.now) c.args.piece.now.items (g.W.Write.contents c.loop-n.writer) c.loop-n.piece.items) all went
