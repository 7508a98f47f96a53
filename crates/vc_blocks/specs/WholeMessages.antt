-- What an input half makes of a whole message, whose packets reach it in order with their block's header in front ("Networks,
-- Routers and Transputers", chapter 2).
use Rattle.std.specs.Prelude.{◌≡◌, ℕ, true, false, List, [], ◌∷◌, None}
use Rattle.vc_packets.specs.declared.packet.Packet.{Packet}
use Rattle.vc_packets.specs.Pieces.{Pieces}
use Rattle.vc_packets.specs.Spellings.{piece_packet, packets}
use Rattle.vc_blocks.specs.Arrivals.{after_arrival, arrival_of, after_want, want_of}
use Rattle.vc_blocks.specs.Halves.{Incoming}
use Rattle.vc_blocks.specs.declared.in_half.Arrival.{Arrival}
use Rattle.vc_blocks.specs.declared.in_half.Arrival.TheVariants as arrival
use Rattle.vc_blocks.specs.declared.in_half.Want.{Want}
use Rattle.vc_blocks.specs.declared.in_half.Want.TheVariants as want

-- what became of packets that arrived one after another
abbrev pub arrivals : Incoming → List Packet → List Arrival
arrivals x [] = []
arrivals x (p ∷ ps) = arrival_of x p x.wants ∷ arrivals (after_arrival x p x.wants) ps

-- the half after them
abbrev pub after_arrivals : Incoming → List Packet → Incoming
after_arrivals x [] = x
after_arrivals x (p ∷ ps) = after_arrivals (after_arrival x p x.wants) ps

-- each of these pieces is stored, and with the last the message is whole
abbrev pub completed : List (List ℕ) → List ℕ → List Arrival
completed [] m = []
completed (c ∷ []) m = arrival.Complete m ∷ []
completed (c ∷ d ∷ cs) m = arrival.Stored ∷ completed (d ∷ cs) m

-- an input that finds a held piece, with these pieces to come
abbrev pub found : List (List ℕ) → List ℕ → Want
found [] m = want.Complete m
found (c ∷ cs) m = want.Stored

-- a process inputs: all pieces are stored as they arrive, and with the last one the message is whole and the input ends
pub record IsStoredWhole (x : Incoming) (block : ℕ) (cs : List (List ℕ)) (m : List ℕ) : Type 0 where
  pub arrive : arrivals x (packets (block ∷ []) cs) ≡ completed cs m
  pub after : after_arrivals x (packets (block ∷ []) cs) ≡ record x { wants = false; held = None; stored = [] }

-- no process inputs: the first piece is held, an input finds it, and the other pieces are stored as they arrive
pub record IsFoundWhole (x y : Incoming) (block : ℕ) (c : List ℕ) (cs : List (List ℕ)) (m : List ℕ) : Type 0 where
  pub held : arrival_of x (piece_packet (block ∷ []) (c ∷ cs)) x.wants ≡ arrival.Held
  pub after : y ≡ after_arrival x (piece_packet (block ∷ []) (c ∷ cs)) x.wants
  pub input : want_of y y.held ≡ found cs m
  pub others : arrivals (after_want y y.held) (packets (block ∷ []) cs) ≡ completed cs m

-- a message is whole exactly with its last piece, whether a process inputs before its first piece or after it
pub record MessagesArriveWhole : Type 0 where
  pub asked : (x : Incoming) (block : ℕ) (m : List ℕ) (cs : List (List ℕ)) → Pieces m cs → x.wants ≡ true → x.stored ≡ [] → IsStoredWhole x block cs m
  pub unasked : (x : Incoming) (block : ℕ) (m c : List ℕ) (cs : List (List ℕ)) → Pieces m (c ∷ cs) → x.wants ≡ false → x.stored ≡ [] →
      (y : Incoming) × IsFoundWhole x y block c cs m
