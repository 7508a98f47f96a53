-- Steps without a communication in a row.
use Rattle.std.specs.Prelude.{ℕ, suc, None}
use Rattle.vc_occam.specs.declared.outcome.Outcome.{Outcome}
use Rattle.vc_occam.specs.declared.outcome.Outcome.TheVariants.{Quiet}
use Rattle.vc_occam.specs.Frames.{View}
use Rattle.vc_occam.specs.Private.Frames.{Went}
use Rattle.vc_occam.specs.Private.SiteSteps.{quiet_at}
use Rattle.vc_process.specs.Values.{Store}

-- so many, one or more, of which the first is at site i and the last at site k: what each but the last comes to is one step, and that is
-- the next
pub data Stepped : ℕ → ℕ → ℕ → View → Store → Outcome → View → Store → Type 0 where
  once : {i : ℕ} {v w : View} {e f : Store} {o : Outcome} → Went (quiet_at i None) v e o w f → Stepped i 1 i v e o w f
  more : {i n j k : ℕ} {v u w : View} {e g f : Store} {o : Outcome} → Went (quiet_at i None) v e (Quiet j) u g → Stepped j n k u g o w f → Stepped i (suc n) k v e o w f
