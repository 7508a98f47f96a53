-- Labels by which packets go up a numbering of the switches, and then down. At each switch all packets with one header go up, or all go
-- down. If they go down, they come to switches at which they go down. So there is no circle of dependencies.
use Rattle.std.specs.Prelude.{◌≡◌, ◌⊎◌, ℕ, ◌<◌, Bool, true, false}
use Rattle.vc_plan.specs.declared.plan.Plan.{Plan}
use Rattle.vc_plan.specs.declared.port.Port.{Port}
use Rattle.vc_plan.specs.declared.port.Spot.TheVariants.{Switch}
use Rattle.vc_plan.specs.Dependencies.{HasRanks}
use Rattle.vc_label_laws.specs.OneHeader.{ArePlain, Everywhere, HasOneHeader, LeadsTo}

-- from switch n to switch m packets with the header h go up; or down, to where they go down
abbrev pub Goes : (ℕ → ℕ) → (ℕ → ℕ → Bool) → ℕ → ℕ → ℕ → Type 0
Goes place down n h m = ((place m < place n) × (down n h ≡ false)) ⊎ ((place n < place m) × (down n h ≡ true) × (down m h ≡ true))

-- at these switches
pub record IsUpAndDown (net : Plan) (On : ℕ → Type 0) : Type 0 where
  -- the switches' numbering, below a bound
  pub place : ℕ → ℕ
  pub most : ℕ
  pub places : (n : ℕ) → place n < most
  -- at this switch packets with this header go down
  pub down : ℕ → ℕ → Bool
  pub plain : ArePlain net
  pub one_header : HasOneHeader net
  pub goes : (n h link m : ℕ) (far : Port) → On n → LeadsTo net n h link far → far.spot ≡ Switch m → Goes place down n h m

-- such labels have no circle of dependencies, whatever virtual links there are
abbrev pub UpAndDownIsFree : Type 0
UpAndDownIsFree = (net : Plan) → IsUpAndDown net Everywhere → HasRanks net
