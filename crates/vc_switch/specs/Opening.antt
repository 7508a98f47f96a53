-- A switch as it begins, by the plan that it is given.
use Rattle.std.specs.Prelude.{ℕ, ◌<◌, ◌≤◌, Bool, false, ◌||◌, ◌==◌, if◌then◌else◌, List, [], ◌∷◌, Option, Some, None}
use Rattle.vc_switch.specs.Forward.{SwitchPlan}
use Rattle.vc_switch.specs.State.{interval_of}
use Rattle.vc_switch.specs.declared.random_range.RandomRange.{RandomRange}
use Rattle.vc_switch.specs.declared.switch_plan.RandomInput.{RandomInput}
use Rattle.vc_switch.specs.declared.switch_plan.SwitchPlan.{SwitchPlan as Given}

-- a link of the switch, and a range of headers of 16 bits
pub record IsRandomInput (r : RandomInput) : Type 0 where
  pub link : r.link < 32
  pub some : r.lower < r.limit
  pub small : r.limit ≤ 65536

-- the random range of an input link
abbrev pub range_given : List RandomInput → ℕ → Option RandomRange
range_given [] link = None
range_given (r ∷ rs) link = if r.link == link then Some (record { lower = r.lower; limit = r.limit }) else range_given rs link

abbrev pub deletes : List ℕ → ℕ → Bool
deletes [] link = false
deletes (l ∷ ls) link = l == link || deletes ls link

abbrev pub plan_given : Given → SwitchPlan
plan_given p = record { table = p.table; random = λ link. interval_of (range_given p.random.now link); deletes = deletes p.delete.now }
