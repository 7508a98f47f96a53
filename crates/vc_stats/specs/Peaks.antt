-- How it is kept how many tokens stand on ways at most.
use Rattle.std.specs.Prelude.{◌≡◌, ℕ, ◌*◌, ◌<◌, ◌≤◌, true, List, length, get_or}
use Rattle.vc_accepted.specs.NetworkOf.{network_of}
use Rattle.vc_core.specs.PossibleEvents.{NetworkState}
use Rattle.vc_network.specs.Network.{actor_at}
use Rattle.vc_network.specs.Plan.{near}
use Rattle.vc_plan.specs.declared.plan.Plan.{Plan}
use Rattle.vc_stats.specs.Rows.{has}
use Rattle.vc_stats.specs.StateFigures.{greatest, tokens_on}
use Rattle.vc_stats.specs.declared.peaks.Peaks.{Peaks}
use Rattle.vc_stats.specs.declared.rows.Rows.{Rows}

abbrev pub peak_at : List ℕ → ℕ → ℕ
peak_at most way = get_or most way 0

-- the first ways are each in the row of the actor that puts tokens on it
abbrev pub AreWaysTo : ℕ → Plan → Rows → Type 0
AreWaysTo count p ways = (way : ℕ) → way < count → has ways (actor_at (network_of p) (near (network_of p) way)) way ≡ true

-- and so are all
abbrev pub AreWaysOf : Plan → Rows → Type 0
AreWaysOf p = AreWaysTo (2 * length p.wires) p

-- it is the greatest number that f has in these states, of which x is the last
pub record IsPeakOf {X : Type 0} (f : X → ℕ) (xs : List X) (x : X) (n : ℕ) : Type 0 where
  pub is : n ≡ greatest f xs
  pub over : f x ≤ n

-- and so of all ways
pub record ArePeaksOf (all : Peaks) (p : Plan) (xs : List NetworkState) (x : NetworkState) : Type 0 where
  pub ways : AreWaysOf p all.ways
  pub count : length all.most.items ≡ 2 * length p.wires
  pub each : (way : ℕ) → way < 2 * length p.wires → IsPeakOf (tokens_on way) xs x (peak_at all.most.items way)
