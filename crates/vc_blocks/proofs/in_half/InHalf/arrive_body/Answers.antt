use Rattle.std.proofs.Common.{◌≡◌, rules, sym, subst}
use Rattle.vc_blocks.specs.Halves.{IsPiece}
use Rattle.vc_blocks.proofs.in_half.InHalf.arrive_body.Goals as goal

pub invariant_of-self : goal.invariant_of-self
invariant_of-self c =
    let same : c.in_ok-body.body ≡ c.args.body.now = search rules in
    subst (λ b. IsPiece (record { body = b; mark = c.args.mark })) (sym same) c.requires.piece
