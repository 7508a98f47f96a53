use Rattle.std.proofs.Common.{codes, decimal}
use Rattle.vc_draw.proofs.Texts.{five_more}
use Rattle.vc_draw.proofs.graph.push_link_labels.Goals as goal

pub returns : goal.returns
returns c =
    let w = c.args.wire.now in
    five_more _ _ _ _ _ _ (codes "taillabel=\"") (decimal w.one.link) (codes "\", headlabel=\"") (decimal w.two.link) (codes "\"")
    c.in_ok-extend_from_slice.ensures.items (rw c.from.ensures at c.in_ok-push_number.ensures.ok) c.in_ok-extend_from_slice-2.ensures.items (rw c.from-2.ensures at c.in_ok-push_number-2.ensures.ok) c.in_ok-extend_from_slice-3.ensures.items
