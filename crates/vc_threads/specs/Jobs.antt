-- What the workers are given, and what they give back.
use Rattle.std.specs.Prelude.{◌≡◌, ℕ, List}
use Rattle.vc_actor.specs.OfPlan.{IsActorOf}
use Rattle.vc_actor.specs.ActorView.{Acting}
use Rattle.vc_actor.specs.declared.act.Act.{Act}
use Rattle.vc_network.specs.Plan.{Plan}
use Rattle.vc_threads.specs.Works.{HasRun}
use Rattle.vc_threads.specs.declared.spawn.Job.{Job}
use Rattle.vc_threads.specs.declared.link.Ends.{Ends}
use Rattle.vc_threads.specs.declared.run.ActorRun.{ActorRun}

module _ {L : Type 0} (holds : L → ℕ → List (ℕ × Act) → Type 0) where
  -- the run is one of this actor over these ends, behind such a gate and of at most so many turns
  abbrev pub RanFrom : (ℕ → ℕ → Type 0) → ℕ → ℕ → ℕ → Acting → Ends → ActorRun L → Type 0
  RanFrom refuses turns seed id actor ends r =
      (r.id ≡ id) × ((plan : Plan) (n : ℕ) → IsActorOf plan n actor → HasRun holds refuses plan n turns id seed actor ends r)

  -- the run of this job
  abbrev pub Ran : (ℕ → ℕ → Type 0) → ℕ → ℕ → Job → ActorRun L → Type 0
  Ran refuses turns seed j r = RanFrom refuses turns seed j.id j.actor j.ends r
