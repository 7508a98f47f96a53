use Rattle.std.proofs.Common.{sym, ap, ◌∙◌, arith, length, slice_get, take, drop, slice_index, ◌-◌, ◌∷◌, Some}
use Rattle.std.specs.Option.{option_copied}
use Rattle.vc_blocks.proofs.Logs.{bounds-cut, get-cut, get-none}
use Rattle.vc_blocks.proofs.message_log.MessageLog.get.Goals as goal

pub returns-in_err-end : goal.returns-in_err-end
returns-in_err-end c =
    let x = c.self.inside in
    ap option_copied c.from_residual.ensures ∙ get-none x.bytes.items 0 x.ends c.args.at c.in_err-end.ensures ∙ ap (λ ms. slice_get ms c.args.at) c.self.view_is

pub slice_bounds-result-count : goal.slice_bounds-result-count
slice_bounds-result-count c =
    let x = c.self.inside in
    let b = bounds-cut (length x.bytes.items) 0 x.ends c.args.at c.in_ok-end.end c.self.invariant (sym c.in_ok-end.ensures) in
    omega (arith, b.0, c.before-begin.ensures)

pub slice_bounds-result-start : goal.slice_bounds-result-start
slice_bounds-result-start c =
    let x = c.self.inside in
    let b = bounds-cut (length x.bytes.items) 0 x.ends c.args.at c.in_ok-end.end c.self.invariant (sym c.in_ok-end.ensures) in
    omega (arith, b.0, b.1, c.before-begin.ensures, ap length c.deref.ensures.value)

pub slice_bounds-result-end : goal.slice_bounds-result-end
slice_bounds-result-end c =
    let x = c.self.inside in
    let b = bounds-cut (length x.bytes.items) 0 x.ends c.args.at c.in_ok-end.end c.self.invariant (sym c.in_ok-end.ensures) in
    omega (arith, b.0, b.1, c.before-begin.ensures, ap length c.deref.ensures.value)

pub returns : goal.returns
returns c =
    let x = c.self.inside in
    let is = ap (λ b. take (c.in_ok-end.end - b) (drop b c.deref.result.now)) c.before-begin.ensures ∙ ap (λ bytes. take (c.in_ok-end.end - slice_index (0 ∷ x.ends) c.args.at) (drop (slice_index (0 ∷ x.ends) c.args.at) bytes)) c.deref.ensures.value in
    ap Some is ∙ sym (get-cut x.bytes.items 0 x.ends c.args.at c.in_ok-end.end (sym c.in_ok-end.ensures)) ∙ ap (λ ms. slice_get ms c.args.at) c.self.view_is
