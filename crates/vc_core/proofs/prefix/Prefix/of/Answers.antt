use Rattle.std.proofs.Common.{◌++◌, length, ap, ◌∙◌, arith}
use Rattle.std.proofs.Math.Nat.{min-le_left}
use Rattle.std.proofs.lemmas.List.{length-take}
use Rattle.vc_core.proofs.Membership.{of_ok}
use Rattle.vc_core.proofs.prefix.Prefix.of.Goals as goal

pub returns : goal.returns
returns c =
    let bytes = c.args.bytes.now in
    let none = c.new-kept.ensures in
    let empty = ap length none in
    let first = ap length c.first_of.ensures ∙ length-take 45 bytes in
    let few = min-le_left 45 (length bytes) in
    of_ok c.try_extend_from_slice-fits.result (c.try_extend_from_slice-fits.ensures.variant.1 (omega arith)) c.try_extend_from_slice-fits.ensures.ok
    ∙ ap (λ xs. xs ++ c.first_of.result.now) none ∙ c.first_of.ensures
