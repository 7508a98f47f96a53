use Rattle.std.proofs.Common.{◌+◌, ◌<◌, ap, sym, subst, ◌∙◌, length}
use Rattle.vc_packets.specs.Pieces.{piece_count}
use Rattle.vc_blocks.specs.Acknowledges.{later_than}
use Rattle.vc_blocks.proofs.UnderWay.{next_less, later_is, some_now, packet_is}
use Rattle.vc_blocks.proofs.out_half.OutHalf.next_packet.Goals as goal

pub piece-requires : goal.piece-requires
piece-requires c =
    let x = c.self.inside in
    subst (λ m. x.piece + 1 < piece_count (length m)) (sym c.as_slice-2.ensures) (next_less x.busy x.message x.count x.piece c.self.invariant c.args.self.now.unacked (ap (λ z. z.unacked) c.self.view_is) c.requires)

pub returns : goal.returns
returns c =
    let x = c.self.inside in
    let is = later_is x.busy x.message x.piece c.args.self.now.unacked (ap (λ z. z.unacked) c.self.view_is) (some_now c.args.self.now.unacked c.requires) in
    packet_is c.piece.result c.as_slice.result.now c.args.self.now.route c.as_slice-2.result.now x.message (x.piece + 1) (later_than c.args.self.now.unacked) c.piece.ensures
    c.as_slice-2.ensures (c.as_slice.ensures ∙ ap (λ z. z.route) c.self.view_is) (sym is)
