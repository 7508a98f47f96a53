use Rattle.std.proofs.Common.{ap, ◌∙◌, arith}
use Rattle.std.proofs.lemmas.Nat.Bits.{bit_at-zero, bit_at-trailing_zeros}
use Rattle.std.specs.Int.{bit_at, w64}
use Rattle.vc_text.proofs.masks.lowest.Goals as goal

pub returns-then-mask-eq0 : goal.returns-then-mask-eq0
returns-then-mask-eq0 c = λ k low. ap (λ m. bit_at m k) c.if-mask-eq0.true ∙ bit_at-zero k

pub returns : goal.returns
returns c = let some = c.if-mask-eq0.false in bit_at-trailing_zeros w64 c.args.mask (omega (arith, some)) c.ranges.mask.fits
