use Rattle.std.proofs.Common.{sym, inl, inr, arith}
use Rattle.std.proofs.lemmas.List.{take_all}
use Rattle.vc_core.proofs.prefix.first_of.Goals as goal

pub returns-in-None : goal.returns-in-None
returns-in-None c = sym (take_all 45 c.args.bytes.now (elim c.in-None.ensures.lookup.0 [
  | inl a ↦ absurd (omega (arith, a))
  | inr b ↦ omega (arith, b)
]))
