use Rattle.std.proofs.lemmas.Nat.Bits.{bit_at_clear_same, bit_at_clear_other}
use Rattle.std.specs.Int.{w64}
use Rattle.vc_text.proofs.masks.without.Goals as goal

pub returns-clause-it : goal.returns-clause-it
returns-clause-it c = bit_at_clear_same w64 c.args.mask c.args.actor c.requires

pub returns-clause-others : goal.returns-clause-others
returns-clause-others c = λ k low ne. bit_at_clear_other w64 c.args.mask c.args.actor c.requires k low ne
