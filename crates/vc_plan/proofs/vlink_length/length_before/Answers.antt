use Rattle.std.proofs.Common.{length, sym, ◌-◌}
use Rattle.vc_plan.specs.WayLengths.{IsVlinkLength}
use Rattle.vc_plan.proofs.Likeness.{vlink-alike, zip-at}
use Rattle.vc_plan.proofs.vlink_length.length_before.Goals as goal

pub returns-then-are_like_links : goal.returns-then-are_like_links
returns-then-are_like_links c =
    let p = c.args.plan.now in
    let ls = c.args.lengths.now in
    vlink-alike p c.in_ok-before.before.now c.args.vlink.now c.in_ok-length.length.now (c.are_like_links.ensures.0 c.if-are_like_links.true)
    (zip-at (IsVlinkLength p) p.vlinks ls (length ls) (length ls - 1) c.in_ok-before.before.now c.in_ok-length.length.now c.requires (sym c.in_ok-before.ensures.value) (sym c.in_ok-length.ensures.value))
