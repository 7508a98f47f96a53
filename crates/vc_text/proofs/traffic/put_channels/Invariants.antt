use Rattle.std.proofs.Common.{take}
use Rattle.std.specs.List.{flat_map}
use Rattle.vc_text.specs.Pieces.{Passes}
use Rattle.vc_text.specs.Traffic.{channel_lines}
use Rattle.vc_text.specs.Views.{shown}
use Rattle.vc_text.proofs.traffic.put_channels.Given as goal

abbrev pub invariant-loop-view : goal.invariant-loop-view
invariant-loop-view g l =
    Passes (g.W.Write.contents l.fn.writer) l.fn.piece.items (g.W.Write.contents l.writer) l.piece.items (flat_map (λ view. channel_lines (shown view)) (take l.view-index l.views))
