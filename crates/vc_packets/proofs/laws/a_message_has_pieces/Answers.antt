use Rattle.vc_packets.proofs.PieceLists.{are_pieces}
use Rattle.vc_packets.proofs.laws.a_message_has_pieces.Goals as goal

pub returns : goal.returns
returns c = are_pieces
