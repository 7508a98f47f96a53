-- What a worker does.
use Rattle.std.specs.Prelude.{◌≡◌, ℕ, ◌+◌, ◌++◌, ◌^◌, ◌<◌, ◌≤◌, ◌⊎◌, List, [], ◌∷◌, length, map}
use Rattle.std.specs.List.{AllZip, AllByRecursion, Contains}
use mathlib.Core.List.{IsPrefix}
use Rattle.std.specs.declared.alloc.Global.{Global}
use Rattle.rand_pcg.specs.Lcg.{Lcg}
use Rattle.rtrb.specs.Ring.{received, known_items}
use Rattle.rtrb.specs.declared.producer.Producer.{Producer}
use Rattle.rtrb.specs.declared.consumer.Consumer.{Consumer}
use Rattle.vc_network.specs.Actors.{Label, act_of}
use Rattle.vc_network.specs.Actors.Label.{Own, Takes, Puts}
use Rattle.vc_network.specs.LocalRun as local
use Rattle.vc_network.specs.LocalRun.{Turn, LocalRun, clock_after}
use Rattle.vc_network.specs.Plan.{Plan}
use Rattle.vc_tokens.specs.declared.token.Token.{Token}
use Rattle.vc_actor.specs.Acts.{HasLink}
use Rattle.vc_actor.specs.declared.act.Act.{Act}
use Rattle.vc_actor.specs.ActorView.{Acting}
use Rattle.vc_threads.specs.declared.link.Ends.{Ends}
use Rattle.vc_threads.specs.declared.link.LinkRule.{LinkRule}
use Rattle.vc_threads.specs.declared.link.Stamped.{Stamped}
use Rattle.vc_threads.specs.declared.run.ActorRun.{ActorRun}
use Rattle.vc_threads.specs.declared.run.Stop.TheVariants.{Turns, Gate, Clock}
use Rattle.vc_threads.specs.Runs.{StepsByLink, Used, Draws, generator, words_of}
use Rattle.vc_threads.specs.Wires.{Sends, Receives, IsAmong, IsReady, InLooked, out_links, in_links}

-- the ends of a worker at the wires
abbrev pub Out : Type 0
Out = ℕ × Producer Stamped Global LinkRule

abbrev pub In : Type 0
In = ℕ × Consumer Stamped Global LinkRule

-- what is logged of a step
abbrev pub logged : Turn Act Token → ℕ × Act
logged t = (t.at, act_of t.it)

-- a put goes out by one of the first links, and a take comes in by one of the others
abbrev pub GoesOver : List ℕ → List ℕ → Label Act (local.Stamped Token) → Type 0
GoesOver outs ins (Own act) = Unit {0}
GoesOver outs ins (Takes act link s) = IsAmong ins link
GoesOver outs ins (Puts act link s) = IsAmong outs link

-- all steps go over the links of these ends
abbrev pub GoOver : List Out → List In → List (Turn Act Token) → Type 0
GoOver outs ins = AllByRecursion (λ t. GoesOver (out_links outs) (in_links ins) t.it)

-- a stamp after which there is none
abbrev pub IsGreatest : ℕ → Type 0
IsGreatest stamp = 2 ^ 64 ≤ stamp + 1

-- the item that waits in front has the greatest stamp
abbrev pub IsLate : In → Type 0
IsLate i = (x : Stamped) × IsPrefix (x ∷ []) (known_items i.1) × IsGreatest x.at

-- the clock is at its end, or an item with the greatest stamp waits
abbrev pub IsFull : ℕ → List In → Type 0
IsFull clock ins = IsGreatest clock ⊎ ((i : In) × Contains ins i × IsLate i)

-- the worker can take from the end: the actor has the link, and an item is known in its ring
abbrev pub CanTake : Acting → In → Type 0
CanTake x i = HasLink x i.0 × IsReady i

-- as far as the worker has seen its rings, a take is from the least link from which it can take
abbrev pub IsFromLeast : Acting → List In → Label Act (local.Stamped Token) → Type 0
IsFromLeast x seen (Takes act link s) = (i : In) → Contains seen i → CanTake x i → link ≤ i.0
IsFromLeast x seen (Own act) = Unit {0}
IsFromLeast x seen (Puts act link s) = Unit {0}

-- what a worker has seen of a ring: the items that it received, and those that it knows to wait
abbrev pub seen_in : In → List Stamped
seen_in i = received i.1 ++ known_items i.1

-- the step received what it takes, and no more was seen
abbrev pub Passed : Turn Act Token → In → In → Type 0
Passed t a b = Receives (t ∷ []) a b × (seen_in b ≡ seen_in a)

-- Step by step the worker looks at its rings, and each take is from the least link from which it can take then.
abbrev pub TakeFromLeast : Acting → List In → List (Turn Act Token) → List In → Type 0
TakeFromLeast x ins [] ins' = AllZip InLooked ins ins'
TakeFromLeast x ins (t ∷ ts) ins' =
    (seen : List In) × (after : List In) × AllZip InLooked ins seen × IsFromLeast x seen t.it × AllZip (Passed t) seen after × TakeFromLeast x after ts ins'

-- What a worker gives back: some steps are a run of actor k by itself from its first state to its last, and the log holds them as its
-- actor's acts. It made at most n turns, and in each the actor made a step, or had no step of its own.
-- What the ring ends sent and received is what the steps put and took, all over the links of these ends, and the words of the takes are
-- those of the generator, in order. Each take is from the least link that has an item, as far as the worker has looked by then.
-- A worker that ended by its turns made n of them. One that ended by its gate may have been refused its next turn: `refuses` says which
-- turns the gate may refuse an actor. One that ended by its clock had a stamp that was the greatest, its own or that of an item that waited.
pub record HasRun {L : Type 0} (holds : L → ℕ → List (ℕ × Act) → Type 0) (refuses : ℕ → ℕ → Type 0) (plan : Plan) (k n id seed : ℕ) (actor : Acting) (ends : Ends) (r : ActorRun L) : Type 0 where
  pub steps : List (Turn Act Token)
  pub made : ℕ
  pub few : length steps ≤ made
  pub within : made ≤ n
  pub run : LocalRun (StepsByLink plan) k 0 actor steps r.actor
  pub acts : holds r.log id (map logged steps)
  pub outs : AllZip (Sends steps) ends.outs.items r.ends.outs.items
  pub ins : AllZip (Receives steps) ends.ins.items r.ends.ins.items
  pub links : GoOver ends.outs.items ends.ins.items steps
  pub least : TakeFromLeast actor ends.ins.items steps r.ends.ins.items
  pub rest : Lcg
  pub words : Draws (generator seed id) (words_of steps) rest
  pub used : Used plan k made 0 actor steps r.actor
  pub all : r.stop ≡ Turns → made ≡ n
  pub gate : r.stop ≡ Gate → (made < n) × refuses id made
  pub full : r.stop ≡ Clock → IsFull (clock_after 0 steps) r.ends.ins.items
