-- How it is kept after how many events outputs are unfinished.
use Rattle.std.specs.Prelude.{◌≡◌, ℕ, ◌-◌, ◌<◌, Bool, true, false, cond, List, length}
use Rattle.vc_actor.specs.declared.act.Act.{Act}
use Rattle.vc_actor.specs.declared.act.Act.TheVariants.{Proc, Pass}
use Rattle.vc_core.specs.PossibleEvents.{NetworkState}
use Rattle.vc_occam.specs.declared.moves.Move.TheVariants.{Offer}
use Rattle.vc_plan.specs.declared.plan.Plan.{Plan}
use Rattle.vc_stats.specs.Rows.{is_in}
use Rattle.vc_stats.specs.StateFigures.{is_unfinished}
use Rattle.vc_stats.specs.declared.busy_time.BusyTime.{BusyTime}
use Rattle.vc_stats.specs.declared.busy_time.BusyTime.TheVariants.{Busy, Idle}
use Rattle.vc_stats.specs.Times.{busy_of, time_at}

-- it is busy from the next event on, or not
abbrev pub turned : Bool → ℕ → BusyTime → BusyTime
turned true events time = Busy (events - busy_of time events)
turned false events time = Idle (busy_of time events)

-- so many channels are idle, and none was busy
pub record AreIdle (channels : ℕ) (times : List BusyTime) : Type 0 where
  pub count : length times ≡ channels
  pub each : (c : ℕ) → time_at times c ≡ Idle 0

-- an output on a virtual link may begin or be finished by the act
abbrev pub may_turn : Act → Bool
may_turn (Proc (Offer site chan)) = true
may_turn (Pass link) = true
may_turn act = false

-- those of these channels have turned as they are in state x, and no other
pub record AreTurned (p : Plan) (x : NetworkState) (events : ℕ) (chans : List ℕ) (old new : List BusyTime) : Type 0 where
  pub count : length new ≡ length old
  pub each : (c : ℕ) → c < length p.channels → time_at new c ≡ cond (is_in c chans) (turned (is_unfinished p c x) events (time_at old c)) (time_at old c)
