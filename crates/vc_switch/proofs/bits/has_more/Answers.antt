use Rattle.std.proofs.Common.{◌≡◌, not, ap, false, true, sym, ◌∙◌, ne_eqb}
use Rattle.std.proofs.lemmas.Bool.{eq-eqb}
use Rattle.vc_switch.proofs.Masks.{more_bits}
use Rattle.vc_switch.proofs.bits.has_more.Goals as goal

pub returns : goal.returns
returns c =
    let more = more_bits c.args.mask c.args.other c.minus.result c.minus.type_inv c.minus.ensures in (
      λ t. more.0 (λ zero. (let no : false ≡ true = sym (ap not (eq-eqb _ _ zero)) ∙ t in absurd (cc))),
      λ has. ap not (ne_eqb _ _ (more.1 has)),
    )
