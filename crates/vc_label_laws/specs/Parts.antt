-- Switches in parts that no labels lead out of, some labelled by dimension and the others up and down.
use Rattle.std.specs.Prelude.{◌≡◌, ℕ, Bool, true, false}
use Rattle.vc_plan.specs.declared.plan.Plan.{Plan}
use Rattle.vc_plan.specs.declared.port.Port.{Port}
use Rattle.vc_plan.specs.declared.port.Spot.TheVariants.{Switch}
use Rattle.vc_plan.specs.Dependencies.{HasRanks}
use Rattle.vc_label_laws.specs.Dimension.{IsByDimension}
use Rattle.vc_label_laws.specs.OneHeader.{LeadsTo}
use Rattle.vc_label_laws.specs.UpAndDown.{IsUpAndDown}

-- packets stay among switches of one kind
abbrev pub AreApart : Plan → (ℕ → Bool) → Type 0
AreApart net kind = (n h link m : ℕ) (far : Port) → LeadsTo net n h link far → far.spot ≡ Switch m → kind m ≡ kind n

-- such labels have no circle of dependencies
abbrev pub PartsAreFree : Type 0
PartsAreFree = (net : Plan) (kind : ℕ → Bool) → AreApart net kind → IsByDimension net (λ n. kind n ≡ true) → IsUpAndDown net (λ n. kind n ≡ false) → HasRanks net
