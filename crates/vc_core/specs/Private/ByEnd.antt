-- The ways of a network, as the code keeps them: by the links to which they lead.
use Rattle.std.specs.Prelude.{◌≡◌, ◌↔◌, ℕ, ◌+◌, ◌*◌, ◌<◌, Bool, true, List, [], ◌∷◌, ◌++◌, get_or, map, slice_get, slice_set, Some}
use Rattle.vc_actor.specs.ActorView.{Acting}
use Rattle.vc_core.specs.Private.Ways.{PutsAt}
use Rattle.vc_core.specs.declared.ends.End.{End}
use Rattle.vc_tokens.specs.CodeTokens.{token}
use Rattle.vc_tokens.specs.Tokens.{Token}
use Rattle.vc_tokens.specs.declared.token.Token.{Token as Made}

-- the place of an end's link among those of all actors, 32 an actor
abbrev pub place_of : End → ℕ
place_of e = e.actor * 32 + e.link

-- the tokens on each way, of which each stands at the place of its end
abbrev pub ways_at : List End → List (List Token) → List (List Token)
ways_at ends lines = map (λ e. get_or lines (place_of e) []) ends

-- the ends have different places, of so many
pub record AreApart (ends : List End) (places : ℕ) : Type 0 where
  pub within : (way : ℕ) (e : End) → slice_get ends way ≡ Some e → place_of e < places
  pub one : (v w : ℕ) (e f : End) → slice_get ends v ≡ Some e → slice_get ends w ≡ Some f → place_of e ≡ place_of f → v ≡ w

-- the port to which each way leads, and the tokens on it
pub record ByEnd : Type 0 where
  pub ends : List End
  pub ways : List (List Token)

-- these tokens stand on one way now
abbrev pub with_line : ByEnd → ℕ → List Token → ByEnd
with_line x way ts = record { ends = x.ends; ways = slice_set x.ways way ts }

-- a way leads to the port, with these tokens on it
pub record Leads (x : ByEnd) (e : End) : Type 0 where
  pub way : ℕ
  pub tokens : List Token
  pub leads : slice_get x.ends way ≡ Some e
  pub stand : slice_get x.ways way ≡ Some tokens

-- a token stands there
pub record HasToken (x : ByEnd) (e : End) : Type 0 where
  pub way : ℕ
  pub token : Token
  pub rest : List Token
  pub leads : slice_get x.ends way ≡ Some e
  pub stands : slice_get x.ways way ≡ Some (token ∷ rest)

-- the front token was taken off, and it is told whether none stands behind it
abbrev pub TakesFront : ByEnd → End → Made → Bool → ByEnd → Type 0
TakesFront old e t is_last new = (f : HasToken old e) × (f.token ≡ token t) × (new ≡ with_line old f.way f.rest) × ((is_last ≡ true) ↔ (f.rest ≡ []))

-- the token came to the end of the way
abbrev pub PushesLast : ByEnd → End → Made → ByEnd → Type 0
PushesLast old e t new = (f : Leads old e) × (new ≡ with_line old f.way (f.tokens ++ token t ∷ []))

-- the actor's next token on the link came to the end of the way
pub record PutsLast (old : ByEnd) (e : End) (before : Acting) (link : ℕ) (after : Acting) (new : ByEnd) : Type 0 where
  pub to : Leads old e
  pub more : List Token
  pub new_is : new ≡ with_line old to.way more
  pub puts : PutsAt before link to.tokens after more
