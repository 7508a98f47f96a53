-- What holds of pieces and packets, whatever the message.
use Rattle.std.specs.Prelude.{◌≡◌, ℕ, List, ◌++◌}
use Rattle.vc_packets.specs.declared.packet.Packet.{Packet}
use Rattle.vc_packets.specs.Pieces.{Pieces, pieces_of}
use Rattle.vc_packets.specs.Spellings.{packets}

abbrev pub EachHasPieces : Type 0
EachHasPieces = (m : List ℕ) → Pieces m (pieces_of m)

abbrev pub PiecesAreOne : Type 0
PiecesAreOne = (m : List ℕ) (cs ds : List (List ℕ)) → Pieces m cs → Pieces m ds → cs ≡ ds

-- packets that begin with all packets of a message are that message's
abbrev pub PacketsTell : Type 0
PacketsTell =
    (route m n : List ℕ) (cs ds : List (List ℕ)) (more : List Packet) → Pieces m cs → Pieces n ds → packets route ds ≡ packets route cs ++ more → m ≡ n
