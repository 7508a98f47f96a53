-- Numbers by names.
use Rattle.std.specs.Prelude.{◌≡◌, ℕ, ◌<◌, ◌+◌, List, length, Option, Some}
use Rattle.std.specs.Borrow.{Bor}
use Rattle.std.specs.HashMap.{HashMap, get_by}
use Rattle.std.specs.Str.{bytes_eq}
use Rattle.vc_plan.specs.declared.plan.Plan.{Plan}
use Rattle.vc_plan.specs.Names.{actor_name, channel_name}
use Rattle.vc_trace.specs.Private.EventOf.{IsNamed}
use Rattle.vc_trace.specs.declared.names.Names.{Names}

-- the number at a name
abbrev pub number_at : {S : Type 0} → HashMap (Bor (List ℕ)) ℕ S → List ℕ → Option ℕ
number_at numbers name = get_by (λ key. bytes_eq name key.now) numbers

-- each number below this one is at its name
abbrev pub AreNumbered : {S : Type 0} → (ℕ → List ℕ) → ℕ → HashMap (Bor (List ℕ)) ℕ S → Type 0
AreNumbered name_of count numbers = (k : ℕ) → k < count → number_at numbers (name_of k) ≡ Some k

-- the actors and channels of the plan are at their names
pub record AreNamesOf (p : Plan) (names : Names) : Type 0 where
  pub named : IsNamed p
  pub actors : AreNumbered (actor_name p) (length p.nodes + length p.switches) names.actors
  pub channels : AreNumbered (channel_name p) (length p.channels) names.channels
