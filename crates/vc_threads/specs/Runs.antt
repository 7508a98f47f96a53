-- What an actor does by itself, with its ways named by its links.
use Rattle.std.specs.Prelude.{◌≡◌, ◌⊎◌, ℕ, zero, suc, List, [], ◌∷◌}
use Rattle.std.specs.List.{flat_map}
use Rattle.vc_network.specs.Actors.{Label, Steps}
use Rattle.vc_network.specs.Actors.Label.{Own, Takes, Puts}
use Rattle.vc_network.specs.LocalRun.{Stamped, Turn, LocalRun}
use Rattle.vc_network.specs.Plan.{Plan}
use Rattle.vc_tokens.specs.CodeTokens.{token}
use Rattle.vc_tokens.specs.declared.token.Token.{Token}
use Rattle.rand_pcg.specs.Lcg.{Lcg, started, increment_of}
use Rattle.rand_pcg.specs.Pcg.{multiplier_64, pcg32}
use Rattle.vc_actor.specs.Able.{CanAct}
use Rattle.vc_actor.specs.Acts.{MakesOwn, MakesTake, IsOwn}
use Rattle.vc_actor.specs.Turns.{IsPut}
use Rattle.vc_actor.specs.declared.act.Act.{Act}
use Rattle.vc_actor.specs.declared.act.Act.TheVariants.{Take}
use Rattle.vc_actor.specs.ActorView.{Acting}

-- The steps of actor k of the plan: of its own, the take of a token from a link, or the put of one on a link.
abbrev pub StepsByLink : Plan → Steps Acting Act Token
StepsByLink plan k old (Own act) new = MakesOwn plan k old act new
StepsByLink plan k old (Takes (Take by word) link t) new = (by ≡ link) × MakesTake plan k old link word (token t) new
StepsByLink plan k old (Puts act link t) new = IsPut plan k old link act t new
StepsByLink plan k old _ new = ⊥

-- the actor has no step of its own
abbrev pub HasNoStep : Plan → ℕ → Acting → Type 0
HasNoStep plan k n = (act : Act) → IsOwn act → CanAct plan k n act → ⊥

-- the run used n turns: in each the actor makes the next of its steps, or has no step of its own
abbrev pub Used : Plan → ℕ → ℕ → ℕ → Acting → List (Turn Act Token) → Acting → Type 0
Used plan k zero clock old [] new = new ≡ old
Used plan k zero clock old (t ∷ ts) new = ⊥
Used plan k (suc n) clock old [] new = HasNoStep plan k old × Used plan k n clock old [] new
Used plan k (suc n) clock old (t ∷ ts) new =
    (HasNoStep plan k old × Used plan k n clock old (t ∷ ts) new)
    ⊎ ((mid : Acting) × LocalRun (StepsByLink plan) k clock old (t ∷ []) mid × Used plan k n t.at mid ts new)

-- the word of a take
abbrev pub word_of : Label Act (Stamped Token) → List ℕ
word_of (Takes (Take by word) link s) = word ∷ []
word_of (Takes act link s) = []
word_of (Own act) = []
word_of (Puts act link s) = []

-- the words of the takes, in order
abbrev pub words_of : List (Turn Act Token) → List ℕ
words_of = flat_map (λ t. word_of t.it)

-- the generator of a seed and an actor's number, at its beginning
abbrev pub generator : ℕ → ℕ → Lcg
generator seed k = started 64 multiplier_64 seed (increment_of 64 k)

-- these are the next words of the generator, which then is h
abbrev pub Draws : Lcg → List ℕ → Lcg → Type 0
Draws g [] h = h ≡ g
Draws g (w ∷ ws) h = (w ≡ (pcg32 g).0) × Draws (pcg32 g).1 ws h
