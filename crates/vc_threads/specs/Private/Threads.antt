-- The jobs of all actors, and what a run in threads reports.
use Rattle.std.specs.Prelude.{◌≡◌, ℕ, ◌+◌, List, [], ◌∷◌}
use Rattle.vc_actor.specs.ActorView.{Acting}
use Rattle.vc_threads.specs.declared.spawn.Job.{Job}

-- a job without its ends
pub record Who : Type 0 where
  pub id : ℕ
  pub actor : Acting

abbrev pub who : Job → Who
who j = record { id = j.id; actor = j.actor }

-- the actors' numbers go up from n
abbrev pub AreNumbered : ℕ → List Who → Type 0
AreNumbered n [] = Unit {0}
AreNumbered n (w ∷ ws) = (w.id ≡ n) × AreNumbered (n + 1) ws

abbrev pub actor_in : Job → Acting
actor_in j = j.actor
