-- Where a token comes its actor has the link; and what can be made by its actor, and what the ways let.
use Rattle.std.proofs.Common.{◌≡◌, ℕ, Some, slice_get, sym, subst}
use Rattle.vc_plan.specs.declared.plan.Plan.{Plan}
use Rattle.vc_actor.specs.Acts.{HasLink}
use Rattle.vc_actor.specs.ActorView.{Acting, OfNode, OfSwitch}
use Rattle.vc_core.specs.State.{State, IsNetworkOf, HasFront, MayActAt, MayHappen, WaysLet}
use Rattle.vc_core.specs.declared.event.Event.{Event}
use Rattle.vc_core.proofs.Enablement.{can_take}

-- where a token comes, its actor has the link
pub has_link : (p : Plan) (s : State) → IsNetworkOf p s → (k l : ℕ) (a : Acting) → HasFront s k l → slice_get s.actors k ≡ Some a → HasLink a l
has_link p s is k l (OfNode n) f here = can_take p s k l 0 (OfNode n) f is here
has_link p s is k l (OfSwitch y) f here = can_take p s k l 0 (OfSwitch y) f is here

-- an event that can be made can be made by its actor
pub acts_at : (s : State) (e : Event) → MayHappen s e → MayActAt s e.actor e.act
acts_at s e m = record { actor = m.actor; here = m.here; may = m.may }

-- and is one that its actor can make and the ways let
pub happens_at : (s t : State) (e : Event) → t ≡ s → MayActAt s e.actor e.act → WaysLet s e.actor e.act → MayHappen t e
happens_at s t e same m lets = subst (λ z. MayHappen z e) (sym same) (record { actor = m.actor; here = m.here; may = m.may; ways = lets })
