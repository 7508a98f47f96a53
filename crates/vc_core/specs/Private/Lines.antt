-- The ways of a network, as the code keeps them at the links of its actors.
use Rattle.std.specs.Prelude.{◌≡◌, ◌↔◌, ℕ, List, slice_get, slice_set, Option, Some}
use Rattle.vc_tokens.specs.CodeTokens.{token}
use Rattle.vc_tokens.specs.Tokens.{Token}
use Rattle.vc_tokens.specs.declared.token.Token.{Token as Made}
use Rattle.vc_actor.specs.ActorView.{Acting}
use Rattle.vc_core.specs.Private.Ways.{PutsAt}
use Rattle.vc_core.specs.Wiring.{in_at, Comes}
use Rattle.vc_core.specs.Lines.{Lined}

-- it is the actor to which the way leads
abbrev pub LeadsTo : List (Option ℕ) → ℕ → ℕ → Type 0
LeadsTo wiring way to = (k : ℕ) → (to ≡ k) ↔ ((l : ℕ) × (in_at wiring k l ≡ Some way))

-- these tokens stand on one way now
abbrev pub with_way : Lined → ℕ → List Token → Lined
with_way x way ts = record { ways = slice_set x.ways way ts; wiring = x.wiring }

-- the front token of the way that comes in by a link was taken off
abbrev pub TakesOff : Lined → ℕ → ℕ → Made → Lined → Type 0
TakesOff old actor link t new = (f : Comes old.wiring old.ways actor link) × (f.token ≡ token t) × (new ≡ with_way old f.way f.rest)

-- the actor's next token on the link came to the end of the way
pub record PutsOnWay (old : Lined) (way : ℕ) (before : Acting) (link : ℕ) (after : Acting) (new : Lined) : Type 0 where
  pub tokens : List Token
  pub more : List Token
  pub stand : slice_get old.ways way ≡ Some tokens
  pub new_is : new ≡ with_way old way more
  pub puts : PutsAt before link tokens after more
