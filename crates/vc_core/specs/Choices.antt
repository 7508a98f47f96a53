-- Which events a network has, as lists in order: the actors that have one, and what each of these can do.
use Rattle.std.specs.Prelude.{◌≡◌, ◌⊎◌, ℕ, List, [], ◌∷◌, ◌++◌, map}
use Rattle.std.specs.List.{flat_map, range_with_len}
use Rattle.vc_network.specs.Network.{Actor, IsNode, IsSwitch}
use Rattle.vc_occam.specs.First.{first_moves}
use Rattle.vc_plan.specs.declared.plan.Plan.{Plan}
use Rattle.vc_accepted.specs.Process.{Process}
use Rattle.vc_actor.specs.Turns.{actors}
use Rattle.vc_actor.specs.declared.act.Act.{Act}
use Rattle.vc_actor.specs.declared.act.Act.TheVariants.{Proc, Take, Put, Route, Fct, Pass}
use Rattle.vc_core.specs.PossibleEvents.{NetworkState, CanHappenIn}
use Rattle.vc_core.specs.State.{State, MayHappen}
use Rattle.vc_core.specs.declared.event.Event.{Event}

-- the items of a list for which something holds, in order
abbrev pub AreThose : {X : Type 0} → (X → Type 0) → List X → List X → Type 0
AreThose Is [] found = found ≡ []
AreThose {X} Is (x ∷ xs) found = (Is x × ((rest : List X) × (found ≡ x ∷ rest) × AreThose Is xs rest)) ⊎ ((Is x → ⊥) × AreThose Is xs found)

-- actor k has an event
abbrev pub HasEvent : Plan → NetworkState → ℕ → Type 0
HasEvent p x k = (e : Event) × (e.actor ≡ k) × CanHappenIn p x e

-- the actors that have one
abbrev pub AreReady : Plan → NetworkState → List ℕ → Type 0
AreReady p x = AreThose (HasEvent p x) (range_with_len 0 (actors p))

-- what an actor may do at a link; the word that a take draws is no choice, so one take is listed for all words
abbrev pub acts_at : ℕ → List Act
acts_at l = Take l 0 ∷ Pass l ∷ Put l ∷ Fct l ∷ []

-- a switch binds the packet at a link to any
abbrev pub routes_at : ℕ → List Act
routes_at l = map (Route l) (range_with_len 0 32)

-- what an actor may do at all: at its links, and by the moves of its process, in order of site and guard
abbrev pub acts_of : Actor Process → List Act
acts_of (IsNode n) = flat_map acts_at (range_with_len 0 4) ++ map Proc (first_moves n.process.inside n.process.state.rest n.process.state.store)
acts_of (IsSwitch s) = flat_map (λ l. acts_at l ++ routes_at l) (range_with_len 0 32)

-- what actor k can do
abbrev pub AreActs : Plan → NetworkState → ℕ → List Act → Type 0
AreActs p x k = AreThose (λ a. CanHappenIn p x (record { actor = k; act = a })) (acts_of (x.state k))

-- an act without the word that a take draws
abbrev pub without_word : Act → Act
without_word (Take link word) = Take link 0
without_word act = act

-- an event of actor k can be made
abbrev pub MayMakeOne : State → ℕ → Type 0
MayMakeOne s k = (e : Event) × (e.actor ≡ k) × MayHappen s e
