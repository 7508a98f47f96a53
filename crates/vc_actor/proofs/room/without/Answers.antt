use Rattle.std.proofs.lemmas.Nat.Bits.{bit_at_clear_same, bit_at_clear_other}
use Rattle.std.specs.Int.{w32}
use Rattle.vc_actor.proofs.room.without.Goals as goal

pub returns-clause-gone : goal.returns-clause-gone
returns-clause-gone c = bit_at_clear_same w32 c.args.mask c.args.link c.requires

pub returns-clause-others : goal.returns-clause-others
returns-clause-others c = λ l less ne. bit_at_clear_other w32 c.args.mask c.args.link c.requires l less ne
