-- A network of actors, numbered from 0, joined by one-way ways that keep the order of their items: its steps and runs.
use Rattle.std.specs.Prelude.{◌≡◌, ℕ, List, [], ◌∷◌}
use Rattle.vc_network.specs.Actors.{Label, Own, Takes, Puts, Network, Steps, Step, Alike, act_of, ActBy}

-- a step of the network, with the actor that makes it
pub record Event (Act Item : Type 0) : Type 0 where
  pub actor : ℕ
  pub label : Label Act Item

-- one step after another
abbrev pub Run : {State Act Item : Type 0} → Steps State Act Item → Network State Item → List (Event Act Item) → Network State Item → Type 0
Run Local old [] new = Alike old new
Run {State} {Act} {Item} Local old (e ∷ es) new = (mid : Network State Item) × Step Local old e.actor e.label mid × Run Local mid es new

-- only the way's source puts on it, and only its sink takes from it
abbrev pub KeepsTo : {Act Item : Type 0} → (ℕ → ℕ) → (ℕ → ℕ) → ℕ → Label Act Item → Type 0
KeepsTo source sink actor (Own act) = Unit {0}
KeepsTo source sink actor (Takes act way item) = sink way ≡ actor
KeepsTo source sink actor (Puts act way item) = source way ≡ actor

-- two steps of an actor from one state are the same, but for the item that a take is given
abbrev pub AreOne : {State Act Item : Type 0} → Label Act Item → State → Label Act Item → State → Type 0
AreOne (Own act) new (Own act') new' = new ≡ new'
AreOne (Takes act way item) new (Takes act' way' item') new' = (way ≡ way') × (item ≡ item' → new ≡ new')
AreOne (Puts act way item) new (Puts act' way' item') new' = (way ≡ way') × (item ≡ item') × (new ≡ new')
AreOne _ new _ new' = ⊥

-- an act says which step it is
abbrev pub IsDetermined : {State Act Item : Type 0} → Steps State Act Item → Type 0
IsDetermined {State} {Act} {Item} Local =
    (actor : ℕ) (old : State) (label label' : Label Act Item) (new new' : State)
    → Local actor old label new → Local actor old label' new' → act_of label ≡ act_of label' → AreOne label new label' new'

-- two lists of events by the same actors' same acts
abbrev pub SameActs : {Act Item : Type 0} → List (Event Act Item) → List (Event Act Item) → Type 0
SameActs [] [] = Unit {0}
SameActs (e ∷ es) (f ∷ fs) = (e.actor ≡ f.actor) × (act_of e.label ≡ act_of f.label) × SameActs es fs
SameActs _ _ = ⊥

-- the act of an event, with its actor
abbrev pub act_by : {Act Item : Type 0} → Event Act Item → ActBy Act
act_by e = record { actor = e.actor; act = act_of e.label }
