use Rattle.std.proofs.Common.{◌≡◌, ◌*◌, ◌%◌, ◌^◌, bit_or, sym, ◌∙◌, subst, inl, inr}
use Rattle.std.proofs.lemmas.Bool.{cases_eq}
use Rattle.std.proofs.lemmas.Nat.Bits.{bit_at_set_same, bit_at_set_other}
use Rattle.std.specs.Int.{bit_at, w64}
use Rattle.vc_core.proofs.network.wake.Goals as goal

pub returns-clause-kept : goal.returns-clause-kept
returns-clause-kept c = λ k low is.
    let a = c.args.actor in
    elim (cases_eq k a) [
      | inl same ↦ subst (λ z. bit_at (bit_or c.args.awake.now (1 * 2 ^ a % 2 ^ 64)) z ≡ 1) (sym same) (bit_at_set_same w64 c.args.awake.now a c.requires)
      | inr ne ↦ bit_at_set_other w64 c.args.awake.now a c.requires k ne ∙ is
    ]

pub returns-clause-it : goal.returns-clause-it
returns-clause-it c = bit_at_set_same w64 c.args.awake.now c.args.actor c.requires

pub returns-clause-only : goal.returns-clause-only
returns-clause-only c = λ k low is.
    let a = c.args.actor in
    elim (cases_eq k a) [
      | inl same ↦ inr (sym same)
      | inr ne ↦ inl (sym (bit_at_set_other w64 c.args.awake.now a c.requires k ne) ∙ is)
    ]
