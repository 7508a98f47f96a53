-- How it is kept after how many events outputs are unfinished.
use Rattle.std.specs.Prelude.{◌≡◌, ℕ, ◌-◌, ◌≤◌, Bool, true, false, count_by, List, length, get_or, Option, Some, None}
use Rattle.vc_accepted.specs.NetworkOf.{network_of}
use Rattle.vc_core.specs.PossibleEvents.{NetworkState}
use Rattle.vc_network.specs.Plan as network
use Rattle.vc_network.specs.Plan.{Home, Way, Inside, home}
use Rattle.vc_network.specs.Views.{source_node}
use Rattle.vc_plan.specs.declared.plan.Plan.{Plan}
use Rattle.vc_stats.specs.Rows.{has}
use Rattle.vc_stats.specs.StateFigures.{is_unfinished}
use Rattle.vc_stats.specs.declared.busy_time.BusyTime.{BusyTime}
use Rattle.vc_stats.specs.declared.busy_time.BusyTime.TheVariants.{Busy, Idle}
use Rattle.vc_stats.specs.declared.rows.Rows.{Rows}
use Rattle.vc_stats.specs.declared.unfinished.Unfinished.{Unfinished}

-- ---- one time

-- after how many of so many events it was busy
abbrev pub busy_of : BusyTime → ℕ → ℕ
busy_of (Busy idle) events = events - idle
busy_of (Idle busy) events = busy

abbrev pub is_busy : BusyTime → Bool
is_busy (Busy idle) = true
is_busy (Idle busy) = false

-- it was not busy after at most so many events
abbrev pub IsWithin : ℕ → BusyTime → Type 0
IsWithin events (Busy idle) = idle ≤ events
IsWithin events (Idle busy) = Unit {0}

-- it is that of what is busy in those of these states where u says so; x is the last of them
pub record IsTimeOf {X : Type 0} (u : X → Bool) (xs : List X) (x : X) (time : BusyTime) : Type 0 where
  pub told : busy_of time (length xs) ≡ count_by u xs
  pub now : is_busy time ≡ u x
  pub within : IsWithin (length xs) time

-- ---- those of all channels

abbrev pub time_at : List BusyTime → ℕ → BusyTime
time_at times c = get_or times c (Idle 0)

-- the node that outputs on a channel of this home, if that is a virtual link
abbrev pub source_on : network.Plan → Home → Option ℕ
source_on plan (Way v ab) = Some (source_node plan (Way v ab))
source_on plan (Inside n) = None

-- each channel on a virtual link is in the row of the node that outputs on it
abbrev pub AreOutputsOf : Plan → Rows → Type 0
AreOutputsOf p outputs = (c node : ℕ) → source_on (network_of p) (home (network_of p) c) ≡ Some node → has outputs node c ≡ true

-- the times are those of the channels in these states, of which x is the last
pub record AreTimesOf (all : Unfinished) (p : Plan) (xs : List NetworkState) (x : NetworkState) : Type 0 where
  pub outputs : AreOutputsOf p all.outputs
  pub count : length all.times.items ≡ length p.channels
  pub each : (c : ℕ) → IsTimeOf (is_unfinished p c) xs x (time_at all.times.items c)
