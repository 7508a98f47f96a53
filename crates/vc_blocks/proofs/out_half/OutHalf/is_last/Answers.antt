use Rattle.std.proofs.Common.{◌≡◌, ap, arith, eqb-true, eq-eqb, ◌-◌}
use Rattle.vc_blocks.proofs.UnderWay.{is_busy, is_under_way, last_test}
use Rattle.vc_blocks.proofs.out_half.OutHalf.is_last.Goals as goal

pub returns : goal.returns
returns c =
    let x = c.self.inside in
    let unacked = ap (λ z. z.unacked) c.self.view_is in
    let w = is_under_way x.busy x.message x.count x.piece c.self.invariant (is_busy x.busy x.message x.piece c.args.self.now.unacked unacked c.requires) in
    let h = w.1 in
    let t = last_test x.busy x.message x.count x.piece c.self.invariant c.args.self.now.unacked unacked c.requires in
    (λ e. t.0 (let q : x.count - x.piece ≡ 1 = eqb-true (x.count - x.piece) 1 e in omega arith), λ e. eq-eqb (x.count - x.piece) 1 (let q = t.1 e in omega arith))
