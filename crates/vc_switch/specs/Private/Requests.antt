-- Which outputs the packets at a switch's inputs ask for, as bits, and which inputs' packets can be bound.
use Rattle.std.specs.Prelude.{◌≡◌, ◌≢◌, ◌↔◌, ◌<◌, ◌^◌, ℕ, List, get_or, length}
use Rattle.std.specs.Int.{bit_at}
use Rattle.vc_switch.specs.Able.{CanLeave}
use Rattle.vc_switch.specs.Private.Ready.{IsReady}
use Rattle.vc_switch.specs.SwitchView.{seen}
use Rattle.vc_switch.specs.State.{State, plan_of}
use Rattle.vc_switch.specs.declared.ready_switch.Ready.{Ready}

-- a mask has a bit that another has not
abbrev pub HasMore : ℕ → ℕ → Type 0
HasMore mask other = (l : ℕ) × (bit_at mask l ≡ 1) × (bit_at other l ≡ 0)

-- a bit for each output by which the packet at the input may leave
abbrev pub AsksFor : State → ℕ → ℕ → Type 0
AsksFor s link mask = (output : ℕ) → (bit_at mask output ≡ 1) ↔ CanLeave (plan_of s) (seen s) link output

-- every other input asks for what it asked for before
abbrev pub OthersAskTheSame : ℕ → List ℕ → List ℕ → Type 0
OthersAskTheSame link old new = (l : ℕ) → l ≢ link → get_or new l 0 ≡ get_or old l 0

-- a packet that is bound to no output asks for each by which it may leave, and no other input asks for any
pub record AreRequested (s : State) (requests : List ℕ) : Type 0 where
  pub few : (l : ℕ) → l < 32 → get_or requests l 0 < 2 ^ 32
  pub leave : (l : ℕ) → l < 32 → AsksFor s l (get_or requests l 0)

-- an input has its bit exactly where it asks for an output that is not busy
abbrev pub AreRouted : List ℕ → ℕ → ℕ → Type 0
AreRouted requests busy routes = (l : ℕ) → l < 32 → (bit_at routes l ≡ 1) ↔ HasMore (get_or requests l 0) busy

-- each of the 32 inputs has its bit exactly where its packet asks for an output
pub record AreAsking (requests : List ℕ) (asking : ℕ) : Type 0 where
  pub count : length requests ≡ 32
  pub told : (l : ℕ) → l < 32 → (bit_at asking l ≡ 1) ↔ (get_or requests l 0 ≢ 0)

-- what a switch with masks knows of itself
pub record IsKnown (s : State) (r : Ready) (requests : List ℕ) (routes : ℕ) : Type 0 where
  pub masks : IsReady s r
  pub asked : AreRequested s requests
  pub routed : AreRouted requests r.puts routes
