-- What the code's network is: its actors, and the ways between them; and when an event can be made.
use Rattle.std.specs.Prelude.{◌≡◌, ℕ, List, Some, slice_get, slice_set}
use Rattle.vc_network.specs.Plan.{ways}
use Rattle.vc_network.specs.Plan as network
use Rattle.vc_tokens.specs.Tokens.{Token}
use Rattle.vc_actor.specs.Acts.{MakesTake, MakesGrant}
use Rattle.vc_actor.specs.OfPlan.{IsActorOf}
use Rattle.vc_actor.specs.ActorView.{Acting}
use Rattle.vc_core.specs.State.{State}

-- the network with another state of one actor
abbrev pub with_actor : State → ℕ → Acting → State
with_actor s k b = record s { actors = slice_set s.actors k b }

-- and with other tokens on one way
abbrev pub with_line : State → ℕ → List Token → State
with_line s w ts = record s { ways = slice_set s.ways w ts }

-- a token comes to actor k
pub record Accepts (old : State) (k link word : ℕ) (t : Token) (new : State) : Type 0 where
  pub before : Acting
  pub after : Acting
  pub here : slice_get old.actors k ≡ Some before
  pub new_is : new ≡ with_actor old k after
  pub takes : (plan : network.Plan) (n : ℕ) → IsActorOf plan n before → MakesTake plan n before link word t after

-- actor k grants eight places
pub record GrantsBy (old : State) (k link : ℕ) (new : State) : Type 0 where
  pub before : Acting
  pub after : Acting
  pub here : slice_get old.actors k ≡ Some before
  pub new_is : new ≡ with_actor old k after
  pub grants : (plan : network.Plan) (n : ℕ) → IsActorOf plan n before → MakesGrant plan n before link after
