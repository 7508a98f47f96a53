-- What an actor's turn is to the network; and when no event can happen at all.
use Rattle.std.specs.Prelude.{◌≡◌, ℕ, ◌<◌, Option, Some, None}
use Rattle.vc_plan.specs.declared.plan.Plan.{Plan as Given}
use Rattle.vc_core.specs.PossibleEvents.{NetworkState, CanHappenIn, CanHappen}
use Rattle.vc_core.specs.State.{State, shown, HasFront}
use Rattle.vc_actor.specs.Turns.{TakesNone, actors}
use Rattle.vc_actor.specs.declared.act.Act.{Act}
use Rattle.vc_actor.specs.declared.act.Act.TheVariants.{Take}
use Rattle.vc_core.specs.declared.event.Event.{Event}
use Rattle.vc_placement.specs.OneNode.{HaveEnded}

-- an event of actor k that takes no token, or none where none can happen
abbrev pub FindsEvent : Given → State → ℕ → Option Event → Type 0
FindsEvent p s k None = (a : Act) → TakesNone a → CanHappen p s (record { actor = k; act = a }) → ⊥
FindsEvent p s k (Some e) = (e.actor ≡ k) × TakesNone e.act × CanHappen p s e

-- the least link of actor k by which a token comes, or none where none does
abbrev pub FindsFront : State → ℕ → Option ℕ → Type 0
FindsFront s k None = (link : ℕ) → HasFront s k link → ⊥
FindsFront s k (Some link) = HasFront s k link × ((l : ℕ) → l < link → HasFront s k l → ⊥)

-- a link by which actor k can take a token, if there is such an actor; or none where it can take none
abbrev pub FindsTake : Given → State → ℕ → Option ℕ → Type 0
FindsTake p s k None = (link word : ℕ) → CanHappen p s (record { actor = k; act = Take link word }) → ⊥
FindsTake p s k (Some link) = k < actors p → (word : ℕ) → CanHappen p s (record { actor = k; act = Take link word })

-- no event can happen
abbrev pub IsAtRestIn : Given → NetworkState → Type 0
IsAtRestIn p x = (e : Event) → CanHappenIn p x e → ⊥

-- nothing remains of any node's process
abbrev pub AllHaveEnded : Given → State → Type 0
AllHaveEnded p s = HaveEnded p (shown s)
