-- What a way and an actor are after the actor put a token at the way's end.
use Rattle.std.specs.Prelude.{◌≡◌, ℕ, List, [], ◌∷◌, ◌++◌}
use Rattle.vc_network.specs.Plan.{Plan}
use Rattle.vc_tokens.specs.Tokens.{Token}
use Rattle.vc_actor.specs.Acts.{MakesPut}
use Rattle.vc_actor.specs.OfPlan.{IsActorOf}
use Rattle.vc_actor.specs.ActorView.{Acting}

pub record PutsAt (before : Acting) (link : ℕ) (old : List Token) (after : Acting) (new : List Token) : Type 0 where
  pub token : Token
  pub ends : new ≡ old ++ token ∷ []
  pub puts : (plan : Plan) (k : ℕ) → IsActorOf plan k before → MakesPut plan k before link token after
