-- What a worker does.
use Rattle.std.specs.Prelude.{◌≡◌, ◌≢◌, ℕ, ◌<◌, ◌≤◌, ◌++◌, List, [], ◌∷◌, length, map, Option, IfSome}
use Rattle.std.specs.List.{AllZip}
use Rattle.rand_pcg.specs.Lcg.{Lcg}
use Rattle.rtrb.specs.Ring.{received, known_items, SameConsumer}
use Rattle.vc_network.specs.Actors.Label.{Takes}
use Rattle.vc_network.specs.LocalRun as local
use Rattle.vc_network.specs.LocalRun.{Turn, LocalRun, clock_after}
use Rattle.vc_network.specs.Plan.{Plan}
use Rattle.vc_tokens.specs.declared.token.Token.{Token}
use Rattle.vc_actor.specs.OfPlan.{IsActorOf}
use Rattle.vc_actor.specs.declared.act.Act.{Act}
use Rattle.vc_actor.specs.declared.act.Act.TheVariants.{Take}
use Rattle.vc_actor.specs.ActorView.{Acting}
use Rattle.vc_threads.specs.declared.worker_state.WorkerState.{WorkerState}
use Rattle.vc_threads.specs.declared.link.Stamped.{Stamped}
use Rattle.vc_threads.specs.declared.run.Stop.{Stop}
use Rattle.vc_threads.specs.declared.run.Stop.TheVariants.{Turns, Gate, Clock}
use Rattle.vc_threads.specs.Runs.{StepsByLink, HasNoStep, Used, Draws, words_of}
use Rattle.vc_threads.specs.Stamps.{stamped}
use Rattle.vc_threads.specs.Wires.{Sends, Receives, OutLooked, InLooked, out_links, in_links}
use Rattle.vc_threads.specs.Works.{Out, In, IsFull, logged, GoOver, TakeFromLeast}

-- the actor is one of some plan
abbrev pub IsOfSomePlan : Acting → Type 0
IsOfSomePlan n = (plan : Plan) × (k : ℕ) × IsActorOf plan k n

-- what is seen of a worker's state
pub record Seen (L : Type 0) : Type 0 where
  pub actor : Acting
  pub clock : ℕ
  pub log : L
  pub outs : List Out
  pub ins : List In
  pub words : Lcg

abbrev pub worker_state : {L : Type 0} → WorkerState L → Seen L
worker_state d = record { actor = d.actor; clock = d.clock; log = d.log; outs = d.outs.ends.items; ins = d.ins.items; words = d.words }

-- the ends are of the same links, in order
abbrev pub SameLinks : {L : Type 0} → Seen L → Seen L → Type 0
SameLinks a b = (out_links b.outs ≡ out_links a.outs) × (in_links b.ins ≡ in_links a.ins)

-- where a room is told with which the actor had no step, it has none
abbrev pub IsRested : Acting → Option ℕ → Type 0
IsRested x rested = (plan : Plan) (k : ℕ) → IsActorOf plan k x → IfSome rested (λ room. HasNoStep plan k x)

module _ {L : Type 0} (holds : L → ℕ → List (ℕ × Act) → Type 0) where
  -- the log holds what the other holds, and then these acts
  abbrev pub Records : List (ℕ × Act) → L → L → Type 0
  Records made a b = (k : ℕ) (acts : List (ℕ × Act)) → holds a k acts → holds b k (acts ++ made)

  -- Some steps lead from one state of a worker to the other: they are a run of actor k by itself, they are recorded, the rings show what they
  -- took and put, all over the links of these rings, and the words of their takes were drawn.
  pub record Goes (plan : Plan) (k : ℕ) (a : Seen L) (ts : List (Turn Act Token)) (b : Seen L) : Type 0 where
    pub run : LocalRun (StepsByLink plan) k a.clock a.actor ts b.actor
    pub clock : b.clock ≡ clock_after a.clock ts
    pub log : Records (map logged ts) a.log b.log
    pub outs : AllZip (Sends ts) a.outs b.outs
    pub ins : AllZip (Receives ts) a.ins b.ins
    pub links : GoOver a.outs a.ins ts
    pub least : TakeFromLeast a.actor a.ins ts b.ins
    pub words : Draws a.words (words_of ts) b.words

  -- at most n steps lead from one state of a worker to the other, which use n turns
  pub record Uses (plan : Plan) (k n : ℕ) (a b : Seen L) : Type 0 where
    pub steps : List (Turn Act Token)
    pub few : length steps ≤ n
    pub goes : Goes plan k a steps b
    pub used : Used plan k n a.clock a.actor steps b.actor

  -- nothing was done
  pub record Stays (a b : Seen L) : Type 0 where
    pub actor : b.actor ≡ a.actor
    pub clock : b.clock ≡ a.clock
    pub log : Records [] a.log b.log
    pub outs : AllZip OutLooked a.outs b.outs
    pub ins : AllZip InLooked a.ins b.ins

  -- one turn was made, after which it may be known that the actor has no step
  pub record TakesTurn (a b : Seen L) (rested : Option ℕ) : Type 0 where
    pub uses : (plan : Plan) (k : ℕ) → IsActorOf plan k a.actor → Uses plan k 1 a b
    pub rests : IsRested b.actor rested

  -- the worker stops and has done nothing: before its turns are over, not by its gate, and for the clock only where that is full
  pub record StopsFor (a b : Seen L) (why : Stop) : Type 0 where
    pub stays : Stays a b
    pub early : why ≢ Turns
    pub passed : why ≢ Gate
    pub full : why ≡ Clock → IsFull b.clock b.ins

  -- What a worker did until it ended: turns that it used, at most so many, and nothing behind them. It made all where it ended by its
  -- turns, and where it ended by its gate that may refuse it the next one. For its clock it ended only where that is full.
  pub record EndsFor (refuses : ℕ → Type 0) (turns : ℕ) (a b : Seen L) (stop : Stop) : Type 0 where
    pub made : ℕ
    pub within : made ≤ turns
    pub last : Seen L
    pub uses : (plan : Plan) (k : ℕ) → IsActorOf plan k a.actor → Uses plan k made a last
    pub stays : Stays last b
    pub all : stop ≡ Turns → made ≡ turns
    pub gate : stop ≡ Gate → (made < turns) × refuses made
    pub full : stop ≡ Clock → IsFull b.clock b.ins

-- the take of this item from this link
abbrev pub take_of : ℕ × Act → ℕ → Stamped → Turn Act Token
take_of made link x = record { at = made.0; it = Takes made.1 link (stamped x) }

-- the front item of the link's ring is taken
pub record TakesFront (plan : Plan) (k : ℕ) (old : Acting) (clock word : ℕ) (end : In) (made : ℕ × Act) (new : Acting) (end' : In) : Type 0 where
  pub item : Stamped
  pub act : made.1 ≡ Take end.0 word
  pub step : StepsByLink plan k old (Takes made.1 end.0 item.item) new
  pub stamp : made.0 ≡ local.next_stamp clock (take_of made end.0 item).it
  pub link : end'.0 ≡ end.0
  pub ring : SameConsumer end.1 end'.1
  pub got : received end'.1 ≡ received end.1 ++ item ∷ []
  pub known : known_items end.1 ≡ item ∷ known_items end'.1
