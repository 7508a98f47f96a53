use Rattle.vc_switch.proofs.Masks.{minus_bits}
use Rattle.vc_switch.proofs.bits.minus.Goals as goal

pub returns : goal.returns
returns c = λ l. minus_bits c.args.mask c.args.other l c.ranges.mask.fits c.ranges.other.fits
