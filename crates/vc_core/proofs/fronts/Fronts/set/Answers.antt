use Rattle.std.proofs.Common.{◌*◌, ◌%◌, ◌^◌, ◌<◌, bit_or, get_or, length, slice_set, sym, subst}
use Rattle.vc_core.specs.Private.Fronts.{Marked}
use Rattle.vc_core.proofs.Bits.{marked_set, read_at}
use Rattle.vc_core.proofs.fronts.Fronts.set.Goals as goal

pub returns : goal.returns
returns c =
    let links = c.self.inside.links in
    let x = get_or links c.from.result 0 in
    let y = bit_or x (1 * 2 ^ c.args.link % 4294967296) in
    let at = read_at links c.from.result c.args.actor c.from.ensures (subst (λ z. c.args.actor < length z) (sym c.self.view_is) c.requires.actor) in
    subst (λ o. Marked o c.args.actor c.args.link 1 (slice_set links c.from.result y)) c.self.view_is
    (subst (λ i. Marked links c.args.actor c.args.link 1 (slice_set links i y)) (sym c.from.ensures) (marked_set links c.args.actor c.args.link x at c.requires.link))
