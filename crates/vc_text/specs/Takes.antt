-- The words of the takes in a list of events.
use Rattle.std.specs.Prelude.{ℕ, ◌<◌, ◌==◌, List, [], ◌∷◌, if◌then◌else◌}
use Rattle.std.specs.List.{flat_map}
use Rattle.rand_pcg.specs.Lcg.{Lcg}
use Rattle.vc_actor.specs.declared.act.Act.{Act}
use Rattle.vc_actor.specs.declared.act.Act.TheVariants.{Proc, Take, Put, Route, Fct, Pass}
use Rattle.vc_actor.specs.Turns.{actors}
use Rattle.vc_core.specs.declared.event.Event.{Event}
use Rattle.vc_plan.specs.declared.plan.Plan.{Plan}
use Rattle.vc_threads.specs.Runs.{Draws, generator}

-- the word of an act that is a take
abbrev pub take_word : Act → List ℕ
take_word (Take link word) = word ∷ []
take_word (Proc made) = []
take_word (Put link) = []
take_word (Route input output) = []
take_word (Fct link) = []
take_word (Pass link) = []

-- the word of an event that is a take of actor k
abbrev pub word_by : ℕ → Event → List ℕ
word_by k e = if e.actor == k then take_word e.act else []

-- the words of actor k's takes, in order
abbrev pub words_by : ℕ → List Event → List ℕ
words_by k = flat_map (word_by k)

-- the words of each actor's takes are those of the generator of the seed and its number, in order
abbrev pub HasWordsOf : Plan → ℕ → List Event → Type 0
HasWordsOf p seed events = (k : ℕ) → k < actors p → (rest : Lcg) × Draws (generator seed k) (words_by k events) rest
