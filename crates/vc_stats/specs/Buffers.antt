-- How full receive buffers are, and for how long.
use Rattle.std.specs.Prelude.{ℕ, ◌+◌, ◌*◌, ◌<◌, nat_lt, List, get_or}
use Rattle.vc_core.specs.PossibleEvents.{NetworkState}
use Rattle.vc_core.specs.Links.{buffered_in}
use Rattle.vc_stats.specs.Peaks.{IsPeakOf}
use Rattle.vc_stats.specs.Times.{IsTimeOf}
use Rattle.vc_stats.specs.declared.buffers.Buffers.{Buffers}
use Rattle.vc_stats.specs.declared.busy_time.BusyTime.TheVariants.{Idle}
use Rattle.vc_stats.specs.declared.occupancy.Occupancy.{Occupancy}

-- ---- one buffer

-- it never held a token
abbrev pub unused : Occupancy
unused = record { most = 0; time = Idle 0 }

-- it is that of a buffer that holds f x tokens in state x, in these states, of which x is the last
pub record IsOccupancyOf {X : Type 0} (f : X → ℕ) (xs : List X) (x : X) (o : Occupancy) : Type 0 where
  pub peak : IsPeakOf f xs x o.most
  pub time : IsTimeOf (λ y. nat_lt 0 (f y)) xs x o.time

-- ---- those of all links

-- each actor has 32 links
abbrev pub occupancy_at : Buffers → (actor link : ℕ) → Occupancy
occupancy_at all actor link = get_or all.buffers.items (32 * actor + link) unused

-- they are those of the links in these states, of which x is the last
abbrev pub AreBuffersOf : Buffers → List NetworkState → NetworkState → Type 0
AreBuffersOf all xs x = (actor link : ℕ) → link < 32 → IsOccupancyOf (λ y. buffered_in y actor link) xs x (occupancy_at all actor link)
