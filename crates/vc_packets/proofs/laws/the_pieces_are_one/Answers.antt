use Rattle.vc_packets.proofs.PieceLists.{pieces_same}
use Rattle.vc_packets.proofs.laws.the_pieces_are_one.Goals as goal

pub returns : goal.returns
returns c = pieces_same
