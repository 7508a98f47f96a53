use Rattle.std.proofs.Common.{◌≡◌, ℕ, ◌+◌, ◌<◌, Option, Some, None, MatchOption, arith, sym, ap, ◌∙◌}
use Rattle.std.specs.Option.{SomeIff}
use Rattle.vc_network.specs.LocalRun as local
use Rattle.vc_threads.specs.Stamps.{step_with}
use Rattle.vc_threads.proofs.stamp.next_stamp.Goals as goal

-- a sum that fits is the next stamp, where the two are one number
fits_as : (r : Option ℕ) (n next : ℕ) → SomeIff r (n < 18446744073709551616) n → n ≡ next → MatchOption r (18446744073709551615 < next) (λ stamp. stamp ≡ next)
fits_as None n next past same = omega (arith, past)
fits_as (Some s) n next fits same = fits.1 ∙ same

pub returns-in-Some : goal.returns-in-Some
returns-in-Some c =
    fits_as c.checked_add.result (c.max.result + 1) _ c.checked_add.ensures (ap (λ z. z + 1) c.max.ensures ∙ sym (ap (λ z. local.next_stamp c.args.clock (step_with z)) c.in-Some.is))
