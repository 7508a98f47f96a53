-- Steps without a communication in a row, by one actor.
use Rattle.std.specs.Prelude.{ℕ, zero, suc}
use Rattle.vc_accepted.specs.Process.{Process, does}
use Rattle.vc_network.specs.Actors.Label.{Own}
use Rattle.vc_network.specs.Network.{Actor, Local}
use Rattle.vc_network.specs.Plan.{Plan}
use Rattle.vc_occam.specs.declared.moves.Move.TheVariants.{Quiet}
use Rattle.vc_switch.specs.Waiting.{Wormhole}
use Rattle.vc_actor.specs.ActorView.{Acting, act_of, actor_of}
use Rattle.vc_actor.specs.OfPlan.{IsActorOf}
use Rattle.vc_actor.specs.declared.act.Act.TheVariants.{Proc}

-- so many by actor k
pub data RestsOn (plan : Plan) (k : ℕ) : ℕ → Actor Process → Actor Process → Type 0 where
  still : {a : Actor Process} → RestsOn plan k zero a a
  on : {m : ℕ} {a b c : Actor Process} (i : ℕ) → Local plan Wormhole does k a (Own (act_of (Proc (Quiet i)))) b → RestsOn plan k m b c → RestsOn plan k (suc m) a c

-- so many were made, and the actor stays one of the plan
pub record MakesSteps (plan : Plan) (k m : ℕ) (old new : Acting) : Type 0 where
  pub steps : RestsOn plan k m (actor_of old) (actor_of new)
  pub kept : IsActorOf plan k new
