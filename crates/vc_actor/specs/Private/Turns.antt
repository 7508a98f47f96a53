-- What an actor does next, where some of its links have room.
use Rattle.std.specs.Prelude.{◌≡◌, ℕ, ◌<◌, Option, Some, None}
use Rattle.vc_network.specs.Plan.{Plan}
use Rattle.vc_occam.specs.declared.moves.Move.{Move}
use Rattle.vc_switch.specs.State.{State as SwitchState}
use Rattle.vc_actor.specs.Able.{CanMove, SwitchCan}
use Rattle.vc_actor.specs.Acts.{MakesOwn}
use Rattle.vc_actor.specs.ActorView.{Acting}
use Rattle.vc_actor.specs.declared.act.Act.{Act}
use Rattle.vc_actor.specs.declared.act.Act.TheVariants.{Proc, Route}
use Rattle.vc_actor.specs.declared.node.Node.{Node}
use Rattle.vc_actor.specs.declared.turn.Turn.{Turn}
use Rattle.vc_actor.specs.declared.turn.Turn.TheVariants as turn
use Rattle.vc_actor.specs.Turns.{RoomLets, TakesNone, IsPut}

-- the act puts no token, so it needs room on no link
abbrev pub NeedsNoRoom : Act → Type 0
NeedsNoRoom a = (room : ℕ) → RoomLets room a

-- what is found among the acts at an actor's links: the one at the least link, or none where none can be made
abbrev pub FindsAt : (ℕ → Act) → (Act → Type 0) → Option Act → Type 0
FindsAt at Can None = (link : ℕ) → Can (at link) → ⊥
FindsAt at Can (Some a) = (link : ℕ) × (a ≡ at link) × Can (at link) × ((l : ℕ) → l < link → Can (at l) → ⊥)

-- a packet at an input that can be bound to an output, the least input's and to the least output; or none where none can
abbrev pub FindsRoute : SwitchState → Option Act → Type 0
FindsRoute s None = (input output : ℕ) → SwitchCan s (Route input output) → ⊥
FindsRoute s (Some a) = (input output : ℕ) × (a ≡ Route input output) × SwitchCan s (Route input output)
    × ((i o : ℕ) → i < input → SwitchCan s (Route i o) → ⊥) × ((o : ℕ) → o < output → SwitchCan s (Route input o) → ⊥)

-- a move that can be made, or none where none can
abbrev pub FindsMove : Plan → ℕ → Node → Option Act → Type 0
FindsMove plan k n None = (m : Move) → CanMove plan k n m → ⊥
FindsMove plan k n (Some a) = (m : Move) × (a ≡ Proc m) × CanMove plan k n m

-- the act was made, unless it takes a token, and this is told of it
abbrev pub IsTold : Plan → ℕ → Acting → Act → Turn → Acting → Type 0
IsTold plan k old a turn.Idle new = TakesNone a → ⊥
IsTold plan k old a (turn.Local told) new = (told ≡ a) × MakesOwn plan k old told new
IsTold plan k old a (turn.Put link told item) new = (told ≡ a) × IsPut plan k old link told item new
