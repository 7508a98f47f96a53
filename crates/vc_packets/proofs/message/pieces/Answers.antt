use Rattle.std.proofs.Common.{◌∙◌, ◌+◌, ◌/◌, sym, ap}
use Rattle.vc_packets.specs.Pieces.{piece_count}
use Rattle.vc_packets.proofs.PieceLists.{length-pieces}
use Rattle.vc_packets.proofs.message.pieces.Goals as goal

pub returns-clause-pieces : goal.returns-clause-pieces
returns-clause-pieces c = λ message cs long p.
    length-pieces message cs p ∙ ap piece_count long ∙ ap (λ n. n / 32 + 1) (sym c.saturating_sub.ensures)
