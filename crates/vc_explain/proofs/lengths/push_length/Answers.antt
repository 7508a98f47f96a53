use Rattle.std.proofs.Common.{codes, decimal}
use Rattle.vc_explain.specs.Lengths.{length_text}
use Rattle.vc_text.proofs.Texts.{four_more}
use Rattle.vc_explain.proofs.lengths.push_length.Goals as goal

pub returns : goal.returns
unfolding length_text
returns c =
    four_more _ _ _ _ _ (codes " switches least ") (decimal c.args.length.least) (codes " most ") (decimal c.args.length.most) c.in_ok-extend_from_slice.ensures.items
    (rw c.from.ensures at c.in_ok-push_number.ensures.ok) c.in_ok-extend_from_slice-2.ensures.items (rw c.from-2.ensures at c.in_ok-push_number-2.ensures.ok)
