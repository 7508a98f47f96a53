-- How it is kept how many tokens stand on ways at most.
use Rattle.std.specs.Prelude.{◌≡◌, ℕ, ◌<◌, Bool, true, false, cond, List, length, max}
use Rattle.vc_actor.specs.declared.act.Act.{Act}
use Rattle.vc_actor.specs.declared.act.Act.TheVariants.{Put, Fct}
use Rattle.vc_core.specs.PossibleEvents.{NetworkState}
use Rattle.vc_stats.specs.Rows.{is_in}
use Rattle.vc_stats.specs.Peaks.{peak_at}

-- a number for each of so many ways, and each is 0
pub record AreZero (ways : ℕ) (most : List ℕ) : Type 0 where
  pub count : length most ≡ ways
  pub each : (way : ℕ) → peak_at most way ≡ 0

-- a token may be put by the act
abbrev pub may_put : Act → Bool
may_put (Put link) = true
may_put (Fct link) = true
may_put act = false

-- the numbers of those of these ways on which more tokens stand in state x were raised, and no other
pub record AreRaised (x : NetworkState) (ways : List ℕ) (old new : List ℕ) : Type 0 where
  pub count : length new ≡ length old
  pub each : (way : ℕ) → way < length old → peak_at new way ≡ cond (is_in way ways) (max (peak_at old way) (length (x.way way))) (peak_at old way)
