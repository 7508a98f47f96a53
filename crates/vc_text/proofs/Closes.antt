-- How a run closes.
use Rattle.std.proofs.Common.{◌≡◌, ℕ, ◌<◌, ◌≤◌, ◌+◌, Bool, true, false, List, refl, arith}
use Rattle.vc_plan.specs.declared.plan.Plan.{Plan}
use Rattle.vc_core.specs.State.{State, shown, IsNetworkOf}
use Rattle.vc_core.specs.Private.Turns.{Rests, IsAtRest}
use Rattle.vc_core.specs.Choices.{HasEvent}
use Rattle.vc_actor.specs.Turns.{actors}
use Rattle.vc_actor.specs.declared.act.Act.TheVariants.{Take}
use Rattle.vc_core.specs.declared.event.Event.{Event}
use Rattle.vc_core.proofs.Turns.{at_rest}
use Rattle.vc_core.specs.declared.close.Close.{Close}
use Rattle.vc_core.specs.declared.close.Close.TheVariants.{Quiet}
use Rattle.vc_core.specs.Replay.{Reached, Replays}
use Rattle.vc_core.specs.Still.{OnlyMoves}
use Rattle.vc_core.proofs.Still.{only_processes_hold}
use Rattle.vc_text.specs.Close.{Closes, OnlyProcessesWait}
use Rattle.vc_text.specs.Private.Simulation.{counted}

-- where all actors rest
pub all_rest : (p : Plan) (s : State) → IsNetworkOf p s → (n : ℕ) → actors p ≤ n → ((k : ℕ) → k < n → Rests p s k) → IsAtRest p s
all_rest p s is n few rests = at_rest p s is (λ k less. rests k (omega arith))

-- an actor without an event rests
pub rests_of : (p : Plan) (s : State) (k : ℕ) → (HasEvent p (shown s) k → ⊥) → Rests p s k
rests_of p s k idle = record { takes = λ l w can. idle (record { actor = k; act = Take l w }, refl, can); acts = λ a none can. idle (record { actor = k; act = a }, refl, can) }

-- a step that made an event or none
pub counted_few : (had : Bool) (old new : ℕ) → new ≡ counted had old → (old ≤ new) × (new ≤ old + 1)
counted_few true old new is = (omega (arith, is), omega (arith, is))
counted_few false old new is = (omega (arith, is), omega (arith, is))

-- where there are no more events than at first, the last actor had none either
pub still : (had : Bool) (first old new : ℕ) → first ≤ old → new ≡ counted had old → new ≡ first → (old ≡ first) × (had ≡ false)
still true first old new least is e = absurd (omega (arith, least, is, e))
still false first old new least is e = (omega (arith, is, e), refl)

-- where a run without a cycle of dependencies is quiet only processes wait
pub processes_wait : (p : Plan) (events : List Event) (s : State) (made limit : ℕ) (close : Close) → Replays p events s → Closes p (shown s) made limit close → OnlyProcessesWait p (shown s) close
processes_wait p events s made limit Quiet r c = λ ranks.
    let reached : Reached p events s = record { is = r.is; happen = r.runs.happen } in
    let rest : OnlyMoves p s = λ e can. absurd (c.0 e can) in
    only_processes_hold p events s ranks reached rest
processes_wait p events s made limit x r c = tt
