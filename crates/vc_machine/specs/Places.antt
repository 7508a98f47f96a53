-- Where the packets are, and whose they are.
use Rattle.std.specs.Prelude.{◌≡◌, ℕ, suc, zero, ◌⊎◌, Bool, List, [], ◌∷◌, ◌++◌, Option, Some, None}
use Rattle.vc_packets.specs.declared.packet.Packet.{Packet}
use Rattle.vc_packets.specs.Headers.{spelled}
use Rattle.vc_packets.specs.declared.kind.Kind.TheVariants.{Ack, Piece}
use Rattle.vc_packets.specs.Kind.{kind}
use Rattle.vc_machine.specs.Paths.{AtSwitch, Net, End, Delivers}
use Rattle.vc_switch.specs.Forward.{IsDrawn, behind}
use Rattle.vc_machine.specs.Machine.{State, Input, Empty, Full}

pub data Place : Type 0 where
  Queue : (way : ℕ) → Place  -- in the send queue at its near end
  OnWire : (way : ℕ) → Place
  Inside : (way : ℕ) → Place  -- in the switch input at its far end
  Held : (chan : ℕ) → Place

abbrev pub of_input : Input → List Packet
of_input Empty = []
of_input (Full p bound) = p ∷ []

abbrev pub of_held : Option Packet → List Packet
of_held None = []
of_held (Some p) = p ∷ []

abbrev pub at_place : Place → List Packet → List (Place × Packet)
at_place place [] = []
at_place place (p ∷ ps) = (place, p) ∷ at_place place ps

abbrev pub in_ways : State → ℕ → List (Place × Packet)
in_ways s zero = []
in_ways s (suc w) = ((at_place (Queue w) (s.ways w).queue ++ at_place (OnWire w) (s.ways w).line) ++ at_place (Inside w) (of_input (s.ways w).input)) ++ in_ways s w

abbrev pub in_halves : State → ℕ → List (Place × Packet)
in_halves s zero = []
in_halves s (suc c) = at_place (Held c) (of_held (s.chans c).held) ++ in_halves s c

-- every packet in the network, with its place
abbrev pub everywhere : Net → State → List (Place × Packet)
everywhere net s = in_ways s net.ways ++ in_halves s net.chans

-- the packet's headers, which start at way w behind what a switch put in front, lead to the end e, and this is what follows them
pub record LeadsTo (net : Net) (w : ℕ) (drawn : Option ℕ) (p : Packet) (e : End) (load : List ℕ) : Type 0 where
  pub stack : List ℕ
  pub body : p.body ≡ spelled (behind drawn stack) ++ load
  pub delivers : Delivers net 32 w stack e

abbrev pub IsOf : Net → ℕ → Option ℕ → Packet → ℕ → Type 0
IsOf net w drawn p c =
    ((load : List ℕ) × (last : Bool) × LeadsTo net w drawn p (net.chan c).to load × (kind load p.mark ≡ Piece last))
    ⊎ ((load : List ℕ) × LeadsTo net w drawn p (net.chan c).from load × (kind load p.mark ≡ Ack))

abbrev pub BelongsTo : Net → ℕ → Place × Packet → Type 0
BelongsTo net c (Queue w, p) = IsOf net w None p c
BelongsTo net c (OnWire w, p) = IsOf net w None p c
BelongsTo net c (Inside w, p) = (n i : ℕ) × (v : Option ℕ) × (net.far w ≡ AtSwitch n i) × IsDrawn ((net.switch n).random i) v × IsOf net w v p c
BelongsTo net c (Held d, p) = c ≡ d

-- exactly n of the list's members are of the kind B
abbrev pub Number : {X : Type 0} → (X → Type 0) → List X → ℕ → Type 0
Number B [] n = n ≡ 0
Number B (x ∷ xs) n = (B x × ((m : ℕ) × (n ≡ suc m) × Number B xs m)) ⊎ ((B x → ⊥) × Number B xs n)
