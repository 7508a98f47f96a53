-- The generators that a run keeps, one for each actor.
use Rattle.std.specs.Prelude.{◌≡◌, ◌≢◌, ℕ, ◌<◌, List, slice_get, Option, Some}
use Rattle.rand_pcg.specs.Lcg.{Lcg}
use Rattle.rand_pcg.specs.Pcg.{pcg32}
use Rattle.vc_actor.specs.Turns.{actors}
use Rattle.vc_core.specs.declared.event.Event.{Event}
use Rattle.vc_plan.specs.declared.plan.Plan.{Plan}
use Rattle.vc_threads.specs.Runs.{Draws, generator}
use Rattle.vc_text.specs.Takes.{words_by}
use Rattle.vc_text.specs.declared.generators.Generators.{Generators}

-- actor k's generator
abbrev pub generator_of : Generators → ℕ → Option Lcg
generator_of generators k = slice_get generators.words.items k

-- the word is the next of actor k's generator, if there is one, and no other generator went on
pub record DrawsFor (old : Generators) (k word : ℕ) (new : Generators) : Type 0 where
  pub its : (g : Lcg) → generator_of old k ≡ Some g → (word ≡ (pcg32 g).0) × (generator_of new k ≡ Some (pcg32 g).1)
  pub others : (j : ℕ) → j ≢ k → generator_of new j ≡ generator_of old j

-- each actor's generator has given the words of its takes among these events, and no more
abbrev pub HaveGiven : Plan → List Event → Generators → Type 0
HaveGiven p events generators = (k : ℕ) → k < actors p → (g : Lcg) × (generator_of generators k ≡ Some g) × Draws (generator 0 k) (words_by k events) g
