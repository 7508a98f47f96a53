use Rattle.std.specs.Prelude.{◌≡◌, ◌<◌, ℕ, Some, slice_get}
use Rattle.vc_actor.specs.Private.Parts.{IsDone}
use Rattle.vc_actor.specs.ActorView.{Acting}
use Rattle.vc_core.proofs.network.Network.ended.Given as goal

abbrev pub invariant-loop-actor : goal.invariant-loop-actor
invariant-loop-actor l = (j : ℕ) (a : Acting) → j < l.actor-index → slice_get l.fn.self.actors.items j ≡ Some a → IsDone a
