use Rattle.std.proofs.lemmas.Nat.Bits.{bit_at_set_same, bit_at_set_other, bit_at_clear_same, bit_at_clear_other}
use Rattle.std.specs.Int.{w32}
use Rattle.vc_switch.proofs.bits.told.Goals as goal

pub returns-then-is : goal.returns-then-is
returns-then-is c = record {
  it = (λ e. c.if-is.true, λ t. bit_at_set_same w32 c.args.mask c.args.link c.requires);
  others = λ l less ne. bit_at_set_other w32 c.args.mask c.args.link c.requires l ne;
}

pub returns-else-is : goal.returns-else-is
returns-else-is c = record {
  it = (λ e. absurd (let z = bit_at_clear_same w32 c.args.mask c.args.link c.requires in cc), λ t. absurd (let f = c.if-is.false in cc));
  others = λ l less ne. bit_at_clear_other w32 c.args.mask c.args.link c.requires l less ne;
}
