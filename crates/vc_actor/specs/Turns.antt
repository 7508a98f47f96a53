-- What an actor does next, where some of its links have room.
use Rattle.std.specs.Prelude.{◌≡◌, ℕ, ◌+◌, length, Option, Some, None}
use Rattle.std.specs.Int.{bit_at}
use Rattle.vc_network.specs.Plan.{Plan}
use Rattle.vc_plan.specs.declared.plan.Plan.{Plan as Given}
use Rattle.vc_tokens.specs.CodeTokens.{token}
use Rattle.vc_tokens.specs.Tokens as tokens
use Rattle.vc_tokens.specs.declared.token.Token.{Token}
use Rattle.vc_actor.specs.Able.{CanAct}
use Rattle.vc_actor.specs.Acts.{MakesOwn, MakesPut, MakesGrant}
use Rattle.vc_actor.specs.ActorView.{Acting}
use Rattle.vc_actor.specs.declared.act.Act.{Act}
use Rattle.vc_actor.specs.declared.act.Act.TheVariants.{Proc, Take, Put, Route, Fct, Pass}
use Rattle.vc_actor.specs.declared.turn.Turn.{Turn}
use Rattle.vc_actor.specs.declared.turn.Turn.TheVariants as turn

-- room has a bit for each link by which a token can be put; a turn takes no token
abbrev pub RoomLets : ℕ → Act → Type 0
RoomLets room (Put link) = bit_at room link ≡ 1
RoomLets room (Fct link) = bit_at room link ≡ 1
RoomLets room (Take link word) = ⊥
RoomLets room (Proc made) = Unit {0}
RoomLets room (Pass link) = Unit {0}
RoomLets room (Route input output) = Unit {0}

-- the actor can have the act for its turn
pub record IsTurn (plan : Plan) (k : ℕ) (x : Acting) (room : ℕ) (a : Act) : Type 0 where
  pub can : CanAct plan k x a
  pub lets : RoomLets room a

-- an act for the actor's turn, or none where it has none
abbrev pub FindsTurn : Plan → ℕ → Acting → ℕ → Option Act → Type 0
FindsTurn plan k x room None = (a : Act) → IsTurn plan k x room a → ⊥
FindsTurn plan k x room (Some a) = IsTurn plan k x room a

-- the act takes no token
abbrev pub TakesNone : Act → Type 0
TakesNone (Take link word) = ⊥
TakesNone a = Unit {0}

-- how many actors there are
abbrev pub actors : Given → ℕ
actors p = length p.nodes + length p.switches

-- the act puts this token on the link
abbrev pub IsPut : Plan → ℕ → Acting → ℕ → Act → Token → Acting → Type 0
IsPut plan k old link (Put l) item new = (link ≡ l) × MakesPut plan k old l (token item) new
IsPut plan k old link (Fct l) item new = (link ≡ l) × (token item ≡ tokens.Fct) × MakesGrant plan k old l new
IsPut plan k old link a item new = ⊥

-- a turn of the actor: one act that it can have, or none where it can have none
abbrev pub MakesTurn : Plan → ℕ → Acting → ℕ → Turn → Acting → Type 0
MakesTurn plan k old room turn.Idle new = (new ≡ old) × FindsTurn plan k old room None
MakesTurn plan k old room (turn.Local a) new = IsTurn plan k old room a × MakesOwn plan k old a new
MakesTurn plan k old room (turn.Put link a item) new = IsTurn plan k old room a × IsPut plan k old link a item new

-- where a turn put a token on a link, the link has room
abbrev pub PutsWithRoom : ℕ → Turn → Type 0
PutsWithRoom room turn.Idle = Unit {0}
PutsWithRoom room (turn.Local a) = Unit {0}
PutsWithRoom room (turn.Put link a item) = bit_at room link ≡ 1
