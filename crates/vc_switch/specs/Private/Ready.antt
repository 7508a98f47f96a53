-- At which links a switch has something to do, as bits: what it is known for, so that nobody looks at the other links.
use Rattle.std.specs.Prelude.{◌≡◌, ◌≢◌, ◌↔◌, ◌<◌, ◌≤◌, ℕ, length, None}
use Rattle.std.specs.Int.{bit_at}
use Rattle.vc_switch.specs.Able.{CanPass, CanGrant, IsFree}
use Rattle.vc_switch.specs.SwitchView.{seen}
use Rattle.vc_switch.specs.State.{State, plan_of, limit_of}
use Rattle.vc_switch.specs.Switch.{Input}
use Rattle.vc_switch.specs.declared.ready_switch.Ready.{Ready}

-- a header of a packet is there that is bound to no output
abbrev pub Waits : Input → Type 0
Waits x = (x.bound ≡ None) × (2 ≤ length x.got)

-- the bit of one link tells whether it is so, and the other bits are as before
pub record Tells (Is : Type 0) (link old new : ℕ) : Type 0 where
  pub it : (bit_at new link ≡ 1) ↔ Is
  pub others : (l : ℕ) → l < 32 → l ≢ link → bit_at new l ≡ bit_at old l

-- the masks after a step by which one input is another
pub record Looks (s : State) (link : ℕ) (old new : Ready) : Type 0 where
  pub passes : Tells (CanPass (limit_of s.inputs) (plan_of s) (seen s) link) link old.passes new.passes
  pub puts : new.puts ≡ old.puts
  pub grants : Tells (CanGrant (seen s) link) link old.grants new.grants

-- each mask has a bit for each link: a token may pass, an output has a packet, an FCT may go out
pub record IsReady (s : State) (r : Ready) : Type 0 where
  pub passes : (l : ℕ) → l < 32 → (bit_at r.passes l ≡ 1) ↔ CanPass (limit_of s.inputs) (plan_of s) (seen s) l
  pub puts : (l : ℕ) → l < 32 → (bit_at r.puts l ≡ 1) ↔ (IsFree (seen s) l → ⊥)
  pub grants : (l : ℕ) → l < 32 → (bit_at r.grants l ≡ 1) ↔ CanGrant (seen s) l
