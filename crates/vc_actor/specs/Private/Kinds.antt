-- The kinds of acts among which an actor looks for its turn: all but a take.
use Rattle.std.specs.Prelude.{◌≡◌, ℕ, Option, Some, None}
use Rattle.vc_network.specs.Plan.{Plan}
use Rattle.vc_actor.specs.ActorView.{Acting}
use Rattle.vc_actor.specs.Turns.{IsTurn}
use Rattle.vc_actor.specs.declared.act.Act.{Act}
use Rattle.vc_actor.specs.declared.act.Act.TheVariants as act

pub data Kind : Type 0 where
  Pass : Kind
  Route : Kind
  Put : Kind
  Fct : Kind
  Proc : Kind

-- the kind of an act; none of a take
abbrev pub kind_of : Act → Option Kind
kind_of (act.Pass link) = Some Pass
kind_of (act.Route input output) = Some Route
kind_of (act.Put link) = Some Put
kind_of (act.Fct link) = Some Fct
kind_of (act.Proc made) = Some Proc
kind_of (act.Take link word) = None

-- an act of this kind for the actor's turn, or none where it has none
abbrev pub FindsOf : Kind → Plan → ℕ → Acting → ℕ → Option Act → Type 0
FindsOf kind plan k x room None = (a : Act) → kind_of a ≡ Some kind → IsTurn plan k x room a → ⊥
FindsOf kind plan k x room (Some a) = IsTurn plan k x room a × (kind_of a ≡ Some kind)
