use Rattle.std.proofs.Common.{ap, ◌∙◌, arith}
use Rattle.std.proofs.lemmas.Bool.Decides.{nat_tests}
use Rattle.vc_core.proofs.Membership.{kept_more, kept_same}
use Rattle.vc_core.proofs.prefix.Prefix.with.Goals.{then-not-is_full, else-not-is_full}
use Rattle.vc_core.proofs.prefix.Prefix.with.Goals as goal

pub returns : goal.returns
returns c = λ got is. elim c.if-not-is_full.branch [
  | then-not-is_full w ↦ ap (λ z. z.items) w.bytes-is ∙ w.push.ensures.items ∙ kept_more got c.args.self.bytes.items c.args.byte is (let full = c.is_full.ensures.value in let fits = c.is_full.ensures.fits in let t = w.if-not-is_full.true in grind (arith, nat_tests))
  | else-not-is_full w ↦ ap (λ z. z.items) w.bytes-is ∙ kept_same got c.args.self.bytes.items c.args.byte is (let full = c.is_full.ensures.value in let fits = c.is_full.ensures.fits in let t = w.if-not-is_full.false in grind (arith, nat_tests))
]
