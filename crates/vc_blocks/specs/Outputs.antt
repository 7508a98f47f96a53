-- What an output half keeps of a message: the message, how many pieces it has, and the number of the piece under way.
use Rattle.std.specs.Prelude.{◌≡◌, ℕ, ◌<◌, Bool, true, false, List, [], length, drop}
use Rattle.vc_packets.specs.Pieces.{piece_count}
use Rattle.vc_packets.proofs.PieceLists.{has_pieces}

-- the pieces not yet acknowledged
abbrev pub unacked_of : Bool → List ℕ → ℕ → List (List ℕ)
unacked_of true message piece = drop piece (has_pieces message).0
unacked_of false message piece = []

-- a message has so many pieces, and one of them is under way
abbrev pub IsUnderWay : Bool → List ℕ → ℕ → ℕ → Type 0
IsUnderWay true message count piece = (count ≡ piece_count (length message)) × (piece < count)
IsUnderWay false message count piece = Unit {0}
