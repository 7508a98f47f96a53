use Rattle.std.proofs.Common.{◌≡◌, ◌↔◌, ◌<◌, ℕ, subst}
use Rattle.std.specs.Int.{bit_at}
use Rattle.vc_switch.specs.Able.{CanPass}
use Rattle.vc_switch.specs.SwitchView.{seen}
use Rattle.vc_switch.specs.State.{plan_of, limit_of}
use Rattle.vc_switch.proofs.ready_switch.ReadySwitch.passes.Goals as goal

pub returns : goal.returns
returns c = subst (λ s. (l : ℕ) → l < 32 → (bit_at c.self.inside.ready.passes l ≡ 1) ↔ CanPass (limit_of s.inputs) (plan_of s) (seen s) l) c.self.view_is c.self.invariant.masks.passes
