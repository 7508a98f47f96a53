-- In which order a run makes its events.
use Rattle.std.specs.Prelude.{◌≡◌, ℕ, ◌%◌, List, [], ◌∷◌, length, slice_get, Some, ⊤}
use Rattle.rand_pcg.specs.Lcg.{Lcg}
use Rattle.rand_pcg.specs.Pcg.{pcg32}
use Rattle.vc_network.specs.Network.{Happens, begins}
use Rattle.vc_switch.specs.Waiting.{Wormhole}
use Rattle.vc_plan.specs.declared.plan.Plan.{Plan}
use Rattle.vc_accepted.specs.Begin.{begin_of}
use Rattle.vc_accepted.specs.NetworkOf.{network_of}
use Rattle.vc_accepted.specs.Process.{does}
use Rattle.vc_actor.specs.declared.act.Act.{Act}
use Rattle.vc_core.specs.Choices.{AreActs, AreReady, without_word}
use Rattle.vc_core.specs.PossibleEvents.{NetworkState}
use Rattle.vc_core.specs.State.{event_of}
use Rattle.vc_core.specs.declared.event.Event.{Event}
use Rattle.vc_threads.specs.Runs.{generator}
use Rattle.vc_text.specs.declared.schedule.Schedule.{Schedule}
use Rattle.vc_text.specs.declared.schedule.Schedule.TheVariants.{InTurn, Random}

-- the generator that draws the events of a run, at its beginning: no actor has this number
abbrev pub drawer : ℕ → Lcg
drawer seed = generator seed 18446744073709551615

-- the generator's next word, modulo the length of a list, is the place of an element
pub record Picks {X : Type 0} (g : Lcg) (xs : List X) (x : X) (next : Lcg) : Type 0 where
  pub at : slice_get xs ((pcg32 g).0 % length xs) ≡ Some x
  pub after : next ≡ (pcg32 g).1

-- One word picks the event's actor from those that have an event. The next word picks what the actor does from what it can do. It does
-- not pick the word that a take draws.
pub record IsDrawn (p : Plan) (x : NetworkState) (g : Lcg) (e : Event) (next : Lcg) : Type 0 where
  pub ready : List ℕ
  pub acts : List Act
  pub act : Act
  pub between : Lcg
  pub are_ready : AreReady p x ready
  pub picks_actor : Picks g ready e.actor between
  pub are_acts : AreActs p x e.actor acts
  pub picks_act : Picks between acts act next
  pub is : without_word e.act ≡ without_word act

-- each event is drawn in the state in which it is made
abbrev pub AreDrawn : Plan → Lcg → NetworkState → List Event → NetworkState → Lcg → Type 0
AreDrawn p g old [] new last = (new ≡ old) × (last ≡ g)
AreDrawn p g old (e ∷ es) new last =
    (mid : NetworkState) × (next : Lcg) × IsDrawn p old g e next × Happens (network_of p) Wormhole does old (event_of e) mid × AreDrawn p next mid es new last

-- a seed's generator draws each event; nothing is said of the order of a run in turn
abbrev pub IsInOrder : Plan → Schedule → List Event → NetworkState → Type 0
IsInOrder p InTurn events x = ⊤
IsInOrder p (Random seed) events x = (last : Lcg) × AreDrawn p (drawer seed) (begins (network_of p) (begin_of p)) events x last
