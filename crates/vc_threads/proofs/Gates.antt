-- Runs by a gate that closes once every process has ended.
use Rattle.std.proofs.Common.{◌≡◌, ◌≢◌, ◌↔◌, ℕ, ◌<◌, List, length, subst, sym, refl}
use Rattle.vc_accepted.specs.Process.{Process}
use Rattle.vc_actor.specs.declared.act.Act.{Act}
use Rattle.vc_core.specs.State.{State, shown}
use Rattle.vc_core.specs.Turns.{AllHaveEnded}
use Rattle.vc_core.specs.declared.close.Close.{Close}
use Rattle.vc_core.specs.declared.close.Close.TheVariants.{Done, Quiet, Limit, GateClosed, Failed, ClockFull}
use Rattle.vc_core.specs.declared.event.Event.{Event}
use Rattle.vc_network.specs.LocalRun.{Turn}
use Rattle.vc_network.specs.Network as net
use Rattle.vc_plan.specs.declared.plan.Plan.{Plan}
use Rattle.vc_threads.specs.Close.{NoneStopped, stop_among}
use Rattle.vc_threads.specs.Gates.{once_ended}
use Rattle.vc_threads.specs.Threads.{IsRunOf, IsThreadRun}
use Rattle.vc_threads.specs.declared.run.Stop.{Stop}
use Rattle.vc_threads.specs.declared.run.Stop.TheVariants.{Gate}
use Rattle.vc_tokens.specs.declared.token.Token.{Token}

-- what follows from a run that closes otherwise than Done can't be, and what holds where it closes Done, holds
pub or_done : (close : Close) (Ended : Type 0) → close ≡ Done ↔ Ended → (close ≢ Done → ⊥) → Ended
or_done Done Ended done other = done.0 refl
or_done Quiet Ended done other = absurd (other (λ e. absurd (cc)))
or_done Limit Ended done other = absurd (other (λ e. absurd (cc)))
or_done GateClosed Ended done other = absurd (other (λ e. absurd (cc)))
or_done (Failed k) Ended done other = absurd (other (λ e. absurd (cc)))
or_done ClockFull Ended done other = absurd (other (λ e. absurd (cc)))

-- a run of one actor, where its gate refused it a turn only if what is said of it holds
pub run_behind : (p : Plan) (refuses other : ℕ → ℕ → Type 0) (turns seed k : ℕ) (steps : List (Turn Act Token)) (stop : Stop) (last : net.Actor Process) →
    (stop ≡ Gate → (made : ℕ) → other k made) → IsRunOf p refuses turns seed k steps stop last → IsRunOf p other turns seed k steps stop last
run_behind p refuses other turns seed k steps stop last may r = record {
  from = r.from;
  to = r.to;
  begins = r.begins;
  made = r.made;
  few = r.few;
  within = r.within;
  run = r.run;
  wires = r.wires;
  used = r.used;
  all = r.all;
  gate = λ by. ((r.gate by).0, may by r.made);
  ends = r.ends;
  rest = r.rest;
  words = r.words;
}

-- a run in threads in which no worker ended by its gate, if it did not close Done
abbrev pub ended_by : (p : Plan) (refuses : ℕ → ℕ → Type 0) (turns seed : ℕ) (events : List Event) (s : State) (stops : List Stop) (close : Close) →
    (close ≢ Done → NoneStopped (length stops) (stop_among stops) Gate) →
    IsThreadRun p refuses turns seed events s stops close → IsThreadRun p (once_ended p s) turns seed events s stops close
ended_by p refuses turns seed events s stops close none r = record {
  runs = r.runs;
  count = r.count;
  each = λ k less. run_behind p refuses (once_ended p s) turns seed k (r.runs k) (stop_among stops k) ((shown s).state k)
      (λ by made. or_done close (AllHaveEnded p s) r.done (λ not. none not k (subst (λ n. k < n) (sym r.count) less) by)) (r.each k less);
  none = r.none;
  order = r.order;
  merged = r.merged;
  merge = r.merge;
  steps = r.steps;
  replays = r.replays;
  done = r.done;
  closes = r.closes;
  full = r.full;
}
