-- What an actor does in a row, its network does.
use Rattle.std.proofs.Common.{◌≡◌, ◌∙◌, ℕ, zero, Some, ap, length-set, refl, slice_get, subst, sym}
use Rattle.std.proofs.lemmas.Option.{slice_get_within}
use Rattle.vc_accepted.specs.NetworkOf.{network_of}
use Rattle.vc_actor.specs.ActorView.{Acting, actor_of}
use Rattle.vc_actor.specs.StepsInARow as actor
use Rattle.vc_machine.proofs.Basics.{put-other, put-same}
use Rattle.vc_plan.specs.declared.plan.Plan.{Plan}
use Rattle.vc_core.specs.Private.State.{with_actor}
use Rattle.vc_core.specs.State.{State, shown, IsNetworkOf}
use Rattle.vc_core.specs.StepsInARow.{MakesSteps}
use Rattle.vc_core.proofs.Events.{each_actor, state_at, states}

pub actor_steps : (p : Plan) (s : State) (k m : ℕ) (a b : Acting) → IsNetworkOf p s → slice_get s.actors k ≡ Some a → actor.MakesSteps (network_of p) k m a b → MakesSteps p k m s (with_actor s k b)
actor_steps p s k m a b is here made =
    let less = slice_get_within s.actors k a here in
    let new = states s k b less in
    record {
      steps = subst (λ x. actor.RestsOn (network_of p) k m x ((shown (with_actor s k b)).state k)) (sym (state_at s k a here))
          (subst (actor.RestsOn (network_of p) k m (actor_of a)) (sym (ap (λ f. f k) new ∙ put-same (shown s).state k (actor_of b))) made.steps);
      others = λ j other. ap (λ f. f j) new ∙ put-other (shown s).state k (actor_of b) j other;
      ways = refl;
      kept = record { accepted = is.accepted; count = length-set s.actors k b ∙ is.count; actors = each_actor p s k b is less made.kept; nodes = is.nodes; ways = is.ways; wiring = is.wiring; wires = is.wires; channels = is.channels };
    }

pub none_made : (p : Plan) (s : State) (k : ℕ) → IsNetworkOf p s → MakesSteps p k zero s s
none_made p s k is = record { steps = actor.still; others = λ j other. refl; ways = refl; kept = is }
