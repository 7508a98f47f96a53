use Rattle.std.proofs.Common.{ap, ◌∙◌, arith}
use Rattle.std.proofs.lemmas.Nat.Bits.{bit_at-zero, bit_at-trailing_zeros}
use Rattle.std.specs.Int.{bit_at, w32}
use Rattle.vc_switch.proofs.bits.lowest.Goals as goal

pub returns-then-mask-eq0 : goal.returns-then-mask-eq0
returns-then-mask-eq0 c = λ l. ap (λ m. bit_at m l) c.if-mask-eq0.true ∙ bit_at-zero l

pub returns : goal.returns
returns c =
    let some = c.if-mask-eq0.false in
    let low = bit_at-trailing_zeros w32 c.args.mask (omega (arith, some)) c.ranges.mask.fits in
    (low.0, (low.1, low.2))
