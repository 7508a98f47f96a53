-- What the token machine keeps, in the words of the packet machine.
use Rattle.std.specs.Prelude.{◌≡◌, ℕ, ◌≤◌, ◌<◌, List, [], ◌∷◌, ◌++◌, length, Option}
use Rattle.std.specs.List.{AllByRecursion}
use Rattle.vc_packets.specs.declared.packet.Packet.{Packet}
use Rattle.vc_packets.specs.Headers.{spelled}
use Rattle.vc_machine.specs.Paths.{AtSwitch, End, Net, Delivers}
use Rattle.vc_machine.specs.Dependencies.{CanStand}
use Rattle.vc_switch.specs.Forward.{IsDrawn, behind}
use Rattle.vc_machine.specs.Machine.{State, Full, BodyLeaves}

-- the bodies that may stand on the ways: no longer than the limit, also behind a random header, and closed under hops
pub record IsLimit (net : Net) (Fits : ℕ → List ℕ → Type 0) (limit : ℕ) : Type 0 where
  pub short : (w : ℕ) (b : List ℕ) → Fits w b → length b ≤ limit
  pub headed : (w n i : ℕ) (drawn : Option ℕ) (b : List ℕ) → net.far w ≡ AtSwitch n i → IsDrawn ((net.switch n).random i) drawn → Fits w b →
      length (spelled (behind drawn []) ++ b) ≤ limit
  pub hop : (w n i : ℕ) (drawn : Option ℕ) (b : List ℕ) (out : ℕ) (d : List ℕ) → net.far w ≡ AtSwitch n i → IsDrawn ((net.switch n).random i) drawn → Fits w b →
      BodyLeaves net n (spelled (behind drawn []) ++ b) out d → Fits out d

-- a packet in a switch came with a body that fits its way
pub record CameFitting (net : Net) (Fits : ℕ → List ℕ → Type 0) (w : ℕ) (p : Packet) : Type 0 where
  pub switch : ℕ
  pub link : ℕ
  pub drawn : Option ℕ
  pub body : List ℕ
  pub far : net.far w ≡ AtSwitch switch link
  pub draw : IsDrawn ((net.switch switch).random link) drawn
  pub is : p.body ≡ spelled (behind drawn []) ++ body
  pub fits : Fits w body

-- all packets of the packet machine fit
pub record AllFit (net : Net) (Fits : ℕ → List ℕ → Type 0) (s : State) : Type 0 where
  pub queues : (w : ℕ) (p : Packet) (rest : List Packet) → w < net.ways → (s.ways w).queue ≡ p ∷ rest → Fits w p.body
  pub lines : (w : ℕ) → w < net.ways → AllByRecursion (λ p. Fits w p.body) (s.ways w).line
  pub inputs : (w : ℕ) (p : Packet) (bound : Option ℕ) → w < net.ways → (s.ways w).input ≡ Full p bound → CameFitting net Fits w p

-- a body that may stand on a way: headers that a packet can have there and that lead to an end, and at most 32 bytes
pub record FitsWay (net : Net) (most w : ℕ) (b : List ℕ) : Type 0 where
  pub stack : List ℕ
  pub load : List ℕ
  pub fuel : ℕ
  pub to : End
  pub body : b ≡ spelled stack ++ load
  pub delivers : Delivers net fuel w stack to
  pub stands : CanStand net w stack
  pub headers : length stack ≤ most
  pub small : length load ≤ 32
