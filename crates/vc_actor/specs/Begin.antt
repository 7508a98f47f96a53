-- How the actors of an accepted plan begin.
use Rattle.std.specs.Prelude.{◌≡◌, ℕ, List, length, slice_get, Some}
use Rattle.vc_plan.specs.declared.plan.Plan.{Plan}
use Rattle.vc_network.specs.Network.{first}
use Rattle.vc_accepted.specs.NetworkOf.{network_of}
use Rattle.vc_actor.specs.OfPlan.{IsActorOf}
use Rattle.vc_actor.specs.ActorView.{Acting, actor_of}
use Rattle.vc_accepted.specs.Begin.{begin_of}

-- the code's actor is actor k of the plan, and begins
pub record BeginsAs (p : Plan) (k : ℕ) (a : Acting) : Type 0 where
  pub is : IsActorOf (network_of p) k a
  pub first : actor_of a ≡ first (network_of p) (begin_of p) k

-- the actors are the first so many of the plan: its nodes, in their order, and then its switches; and they begin
pub record AreFirst (p : Plan) (n : ℕ) (actors : List Acting) : Type 0 where
  pub count : length actors ≡ n
  pub each : (k : ℕ) (a : Acting) → slice_get actors k ≡ Some a → BeginsAs p k a
