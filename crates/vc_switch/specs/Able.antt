-- Which steps a switch can make: those that lead to some state.
use Rattle.std.specs.Prelude.{◌≡◌, ◌≤◌, ◌<◌, ℕ, List, Some, None}
use Rattle.vc_tokens.specs.Tokens.{Token}
use Rattle.vc_switch.specs.Forward.{SwitchPlan}
use Rattle.vc_switch.specs.Waiting.{Wormhole}
use Rattle.vc_switch.specs.Switch.{Switch, BodyLeaves, Comes, Passes, Routes, Sends, SendsFct}

-- a token can pass from the link's buffer
abbrev pub CanPass : ℕ → SwitchPlan → Switch → ℕ → Type 0
CanPass limit plan old link = (new : Switch) × Passes limit plan old link new

-- the packet at the input is bound to no output, and may leave by this one
pub record CanLeave (plan : SwitchPlan) (s : Switch) (link output : ℕ) : Type 0 where
  pub body : List ℕ
  pub unbound : (s.input link).bound ≡ None
  pub leaves : BodyLeaves plan (s.input link).got output body

-- by no lesser link the body may leave
abbrev pub IsFirst : SwitchPlan → List ℕ → ℕ → Type 0
IsFirst plan b link = (output : ℕ) (left : List ℕ) → BodyLeaves plan b output left → link ≤ output

-- no input is bound to the output
abbrev pub IsFree : Switch → ℕ → Type 0
IsFree s output = (i : ℕ) → (s.input i).bound ≡ Some output → ⊥

-- the packet at the input can be bound to the output
abbrev pub CanRoute : SwitchPlan → Switch → ℕ → ℕ → Type 0
CanRoute plan old link output = (new : Switch) × Routes plan Wormhole old link output new

-- at none of the 32 inputs is a packet that can be bound
abbrev pub NoneCanRoute : SwitchPlan → Switch → Type 0
NoneCanRoute plan s = (link output : ℕ) → link < 32 → CanRoute plan s link output → ⊥

-- the least input whose packet can be bound, and the least output to which it can
pub record IsNextRoute (plan : SwitchPlan) (s : Switch) (link output : ℕ) : Type 0 where
  pub can : CanRoute plan s link output
  pub least : (l o : ℕ) → l < link → CanRoute plan s l o → ⊥
  pub first : (o : ℕ) → o < output → CanRoute plan s link o → ⊥

-- a token of the packet that is bound to the output can go out
pub record CanPut (plan : SwitchPlan) (old : Switch) (output : ℕ) : Type 0 where
  pub token : Token
  pub new : Switch
  pub sends : Sends plan Wormhole old output token new

-- an FCT can go out by the link
abbrev pub CanGrant : Switch → ℕ → Type 0
CanGrant old link = (new : Switch) × SendsFct old link new

-- whatever token comes over whatever link, with whatever word, it has a step
abbrev pub EachTokenComes : Type 0
EachTokenComes = (old : Switch) (link word : ℕ) (k : Token) → (new : Switch) × Comes old link word k new
