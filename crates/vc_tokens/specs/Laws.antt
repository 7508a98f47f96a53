-- What holds of spellings, however a stream is cut.
use Rattle.std.specs.Prelude.{◌≡◌, ◌⊎◌, ℕ, List, [], ◌∷◌, ◌++◌}
use Rattle.vc_packets.specs.declared.packet.Packet.{Packet}
use Rattle.vc_tokens.specs.declared.refused.Why.{Why}
use Rattle.vc_tokens.specs.Decoding.{Breaks}
use Rattle.vc_tokens.specs.Tokens.{Token, bytes, Whole}

-- a stream is read in one way only
abbrev pub ReadingsAreOne : Type 0
ReadingsAreOne =
    (limit : ℕ) (ts : List Token) (ps qs : List Packet) (rest other : List ℕ) → Whole limit ts ps rest → Whole limit ts qs other → (ps ≡ qs) × (rest ≡ other)

-- these feeds, one after another, gave these packets, each reading behind the bytes that the one before it left
abbrev pub Feeds : ℕ → List ℕ → List (List Token) → List Packet → List ℕ → Type 0
Feeds limit rest [] packets left = (packets ≡ []) × (left ≡ rest)
Feeds limit rest (ts ∷ feeds) packets left =
    (now : List Packet) × (later : List Packet) × (between : List ℕ) × Whole limit (bytes rest ++ ts) now between
    × Feeds limit between feeds later left × (packets ≡ now ++ later)

abbrev pub stream : List (List Token) → List Token
stream [] = []
stream (ts ∷ feeds) = ts ++ stream feeds

-- feeds of a stream's pieces, whatever the cutting, give the packets of the stream
abbrev pub CuttingsAgree : Type 0
CuttingsAgree = (limit : ℕ) (feeds : List (List Token)) (packets : List Packet) (left : List ℕ) → Feeds limit [] feeds packets left → Whole limit (stream feeds) packets left

-- where a feed behind these is refused, the stream breaks at the same token, behind all packets so far
abbrev pub CuttingsBreakAlike : Type 0
CuttingsBreakAlike =
    (limit : ℕ) (feeds : List (List Token)) (ts : List Token) (packets before : List Packet) (left : List ℕ) (why : Why) → Feeds limit [] feeds packets left →
    Breaks limit (bytes left ++ ts) before why → Breaks limit (stream feeds ++ ts) (packets ++ before) why

-- the stream is read, as some packets and the bytes behind them
abbrev pub IsWhole : ℕ → List Token → Type 0
IsWhole limit ts = (ps : List Packet) × (rest : List ℕ) × Whole limit ts ps rest

-- a token of the stream is the first to break the spelling
abbrev pub IsBroken : ℕ → List Token → Type 0
IsBroken limit ts = (before : List Packet) × (why : Why) × Breaks limit ts before why

-- a stream is read or broken, not both, and broken at one place only
pub record BreaksAreOne : Type 0 where
  pub some : (limit : ℕ) (ts : List Token) → IsWhole limit ts ⊎ IsBroken limit ts
  pub none : (limit : ℕ) (ts : List Token) (ps before : List Packet) (rest : List ℕ) (why : Why) → Whole limit ts ps rest → Breaks limit ts before why → ⊥
  pub one : (limit : ℕ) (ts : List Token) (ps qs : List Packet) (why other : Why) → Breaks limit ts ps why → Breaks limit ts qs other → (ps ≡ qs) × (why ≡ other)
