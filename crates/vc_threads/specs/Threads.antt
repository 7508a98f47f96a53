-- The jobs of all actors, and what a run in threads reports.
use Rattle.std.specs.Prelude.{◌≡◌, ◌≢◌, ◌↔◌, ℕ, ◌<◌, ◌≤◌, List, [], ◌++◌, length, map, slice_get, Some}
use Rattle.std.specs.List.{AllByRecursion, Contains}
use Rattle.rand_pcg.specs.Lcg.{Lcg}
use Rattle.vc_accepted.specs.NetworkOf.{network_of}
use Rattle.vc_accepted.specs.ActorWays.{actor_of as port_actor}
use Rattle.vc_network.specs.Actors.{Label, act_of}
use Rattle.vc_network.specs.Actors.Label.{Own, Takes, Puts}
use Rattle.vc_network.specs.LocalRun.{Stamped, Turn, LocalRun, all_put, all_taken, items, restamped}
use Rattle.vc_network.specs.Merge.{Made, IsMerge}
use Rattle.vc_actor.specs.Begin.{BeginsAs}
use Rattle.vc_core.specs.Replay.{Replays}
use Rattle.vc_actor.specs.ActorView.{Acting, actor_of}
use Rattle.vc_core.specs.State.{State, state_of, shown}
use Rattle.vc_core.specs.Turns.{AllHaveEnded}
use Rattle.vc_actor.specs.Turns.{actors}
use Rattle.vc_actor.specs.declared.act.Act.{Act}
use Rattle.vc_core.specs.declared.close.Close.{Close}
use Rattle.vc_core.specs.declared.close.Close.TheVariants.{Done}
use Rattle.vc_core.specs.declared.event.Event.{Event}
use Rattle.vc_network.specs.Network as net
use Rattle.vc_plan.specs.declared.plan.Plan.{Plan}
use Rattle.vc_plan.specs.declared.port.Port.{Port}
use Rattle.vc_tokens.specs.CodeTokens.{tokens}
use Rattle.vc_tokens.specs.Tokens.{Token as Item}
use Rattle.vc_tokens.specs.declared.token.Token.{Token}
use Rattle.vc_accepted.specs.Process.{Process}
use Rattle.vc_threads.specs.Close.{ClosesBy, stop_among}
use Rattle.vc_threads.specs.MergedRuns.{made_event}
use Rattle.vc_threads.specs.Order.{OnWays}
use Rattle.vc_threads.specs.Rings.{IsOnWire}
use Rattle.vc_threads.specs.Runs.{StepsByLink, Used, Draws, generator, words_of}
use Rattle.vc_threads.specs.Works.{IsGreatest, logged}
use Rattle.vc_threads.specs.declared.report.Ending.{Ending}
use Rattle.vc_threads.specs.declared.report.Logged.{Logged}
use Rattle.vc_threads.specs.declared.report.Report.{Report}
use Rattle.vc_threads.specs.declared.run.Stop.{Stop}
use Rattle.vc_threads.specs.declared.run.Stop.TheVariants.{Turns, Gate, Clock}

-- a token that is put or taken goes over a link that is on a wire
abbrev pub IsOverWires : Plan → ℕ → Label Act (Stamped Token) → Type 0
IsOverWires p k (Own act) = Unit {0}
IsOverWires p k (Takes act link s) = IsOnWire p (length p.wires) k link
IsOverWires p k (Puts act link s) = IsOnWire p (length p.wires) k link

-- What actor k did by itself, until its worker ended as `stop` says: steps that lead from its beginning to the state `last`, over the
-- plan's wires. The worker made at most so many turns, and in each the actor made a step, or had no step of its own. Where it ended by its
-- turns it made all of them, and where it ended by its gate that may have refused it the next one. The words of its takes are those of the
-- generator of the seed and its number, in order.
pub record IsRunOf (p : Plan) (refuses : ℕ → ℕ → Type 0) (turns seed k : ℕ) (steps : List (Turn Act Token)) (stop : Stop) (last : net.Actor Process) : Type 0 where
  pub from : Acting
  pub to : Acting
  pub begins : BeginsAs p k from
  pub made : ℕ
  pub few : length steps ≤ made
  pub within : made ≤ turns
  pub run : LocalRun (StepsByLink (network_of p)) k 0 from steps to
  pub wires : AllByRecursion (λ t. IsOverWires p k t.it) steps
  pub used : Used (network_of p) k made 0 from steps to
  pub all : stop ≡ Turns → made ≡ turns
  pub gate : stop ≡ Gate → (made < turns) × refuses k made
  pub ends : actor_of to ≡ last
  pub rest : Lcg
  pub words : Draws (generator seed k) (words_of steps) rest

-- what was taken off the way from one port to another, and then what is left on it, is what was put on it, with its stamps
abbrev pub TakesInOrder : ℕ → (ℕ → List (Turn Act Token)) → (ℕ → List Item) → ℕ → Port → Port → Type 0
TakesInOrder nodes runs left way from to =
    (rest : List (Stamped Token)) × (all_taken to.link (runs (port_actor nodes to.spot)) ++ rest ≡ all_put from.link (runs (port_actor nodes from.spot))) × (left way ≡ tokens (items rest))

-- an act of the run has the greatest stamp
abbrev pub HasGreatest : List (Turn Act Token) → Type 0
HasGreatest ts = (t : Turn Act Token) × Contains ts t × IsGreatest t.at

-- The events are those of all actors' runs, by stamp, then actor. On both ways of each wire what was taken, and then what the
-- state has there, is what was put. The steps lead to the state, where each actor is as its run left it. It is told of each actor why its
-- worker ended. The run closes Done exactly where every process has ended there, and else by what is told: Failed with the least actor of
-- which want of memory is. Where a worker ended by its clock an act has the greatest stamp.
pub record IsThreadRun (p : Plan) (refuses : ℕ → ℕ → Type 0) (turns seed : ℕ) (events : List Event) (s : State) (stops : List Stop) (close : Close) : Type 0 where
  pub runs : ℕ → List (Turn Act Token)
  pub count : length stops ≡ actors p
  pub each : (k : ℕ) → k < actors p → IsRunOf p refuses turns seed k (runs k) (stop_among stops k) ((shown s).state k)
  pub none : (k : ℕ) → actors p ≤ k → runs k ≡ []
  pub order : OnWays (TakesInOrder (length p.nodes) runs (shown s).way) p.wires (length p.wires)
  pub merged : List (Made Act)
  pub merge : IsMerge (λ k. map (restamped act_of) (runs k)) merged
  pub steps : events ≡ map made_event merged
  pub replays : Replays p events s
  pub done : close ≡ Done ↔ AllHaveEnded p s
  pub closes : close ≢ Done → ClosesBy (actors p) (stop_among stops) close
  pub full : (k : ℕ) → k < actors p → stop_among stops k ≡ Clock → (j : ℕ) × HasGreatest (runs j)

-- what is reported is such a run
abbrev pub Reports : Plan → (ℕ → ℕ → Type 0) → ℕ → ℕ → Report → Type 0
Reports p refuses turns seed r = IsThreadRun p refuses turns seed r.steps.items (state_of r.state) r.stops.items r.close

-- some events are such a run, and there is a log for each actor, which holds what its worker logged
pub record EndsRunIn {L : Type 0} (holds : L → ℕ → List (ℕ × Act) → Type 0) (p : Plan) (refuses : ℕ → ℕ → Type 0) (turns seed : ℕ) (r : Logged L) : Type 0 where
  pub events : List Event
  pub run : IsThreadRun p refuses turns seed events (state_of r.ending.state) r.ending.stops.items r.ending.close
  pub count : length r.logs.items ≡ actors p
  pub logs : (k : ℕ) (log : L) → slice_get r.logs.items k ≡ Some log → holds log k (map logged (run.runs k))

-- what is told without the events is how such a run ended
abbrev pub EndsRun : Plan → (ℕ → ℕ → Type 0) → ℕ → ℕ → Ending → Type 0
EndsRun p refuses turns seed e = (events : List Event) × IsThreadRun p refuses turns seed events (state_of e.state) e.stops.items e.close
