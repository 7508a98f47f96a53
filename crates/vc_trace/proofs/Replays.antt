-- What was read, and what came of it, together.
use Rattle.std.proofs.Common.{ℕ, Bool, List, Option, Some, None, Result, Ok, Err, ap, refl, inl, inr}
use Rattle.vc_core.specs.Replay.{Replays as HasReplayed}
use Rattle.vc_core.specs.State.{IsNetworkOf, State, shown}
use Rattle.vc_core.specs.declared.close.Close.{Close}
use Rattle.vc_core.specs.declared.event.Event.{Event}
use Rattle.vc_core.proofs.ReplayRuns.{replays}
use Rattle.vc_plan.specs.declared.plan.Plan.{Plan as Network}
use Rattle.vc_reader.proofs.DistinctNames.{names_differ}
use Rattle.vc_text.specs.CheckText.{ReadsAccepted}
use Rattle.vc_text.specs.declared.fault.RunFault.{RunFault}
use Rattle.vc_text.specs.declared.fault.RunFault.TheVariants.{Read, Write, Memory}
use Rattle.vc_text.proofs.CheckText.{memory_any}
use Rattle.vc_text.specs.Close.{ClosesIn, OnlyProcessesWait}
use Rattle.vc_text.specs.Streams.{Writes}
use Rattle.vc_text.specs.Tail.{IsTail}
use Rattle.vc_trace.specs.Private.Replay.{MakesEvents}
use Rattle.vc_trace.specs.Replay.{IsReplayText, NamesDiffer, Replays, ReplaysPlan, refused_text}
use Rattle.vc_trace.specs.declared.refused_line.RefusedLine.{RefusedLine}
use Rattle.vc_trace.specs.declared.replayed.Replayed.{Replayed}
use Rattle.vc_trace.specs.declared.replayed.Replayed.TheVariants.{Ended, Refused, NoEvents}

fails_any : (network : Option (List ℕ)) → ReadsAccepted network (Err Read)
fails_any None = tt
fails_any (Some text) = tt

read_names : (network : Option (List ℕ)) (p : Network) → ReadsAccepted network (Ok p) → NamesDiffer network p
read_names None p read = tt
read_names (Some text) p (few, inl ((d, utf8, is, means), accepted)) = names_differ d p means
read_names (Some text) p (few, inr (short, (made, labelled, (d, utf8, is, means), accepted))) = names_differ d p means

-- the network was read, and its events were made
pub replays_by : (why : Bool) (network known old new : Option (List ℕ)) (Holds : Option (List ℕ) → Type 0) (Fails : Type 0) (p : Network) (result : Result Replayed RunFault) →
    ReadsAccepted network (Ok p) → Holds known → ReplaysPlan why known p old new result → Replays why network Holds Fails old new result
replays_by why network known old new Holds Fails p (Ok (Ended close)) read holds ran = (p, (read, read_names network p read), (known, holds, ran))
replays_by why network known old new Holds Fails p (Ok Refused) read holds ran = (p, (read, read_names network p read), (known, holds, ran))
replays_by why network known old new Holds Fails p (Ok NoEvents) read holds (text, is, wrote) = absurd is
replays_by why network known old new Holds Fails p (Err Write) read holds ran = (p, (read, read_names network p read), (known, holds, ran))
replays_by why network known old new Holds Fails p (Err Memory) read holds ran = (memory_any network, ran.1)
replays_by why network known old new Holds Fails p (Err Read) read holds ran = (fails_any network, ran.1)
replays_by why network known old new Holds Fails p x read holds ran = absurd ran.0

-- the network was read, and the file of events can't be opened
pub opens_nothing : (why : Bool) (network old : Option (List ℕ)) (Holds : Option (List ℕ) → Type 0) (Fails : Type 0) (p : Network) →
    ReadsAccepted network (Ok p) → Fails → Replays why network Holds Fails old old (Ok NoEvents)
opens_nothing why network old Holds Fails p read fails = (p, (read, read_names network p read), fails, refl)

-- a text of a replay could not be written, or there was no memory for it
pub replay_unwritten : (why : Bool) (known : Option (List ℕ)) (p : Network) (old new : Option (List ℕ)) (answer : Replayed) (text : List ℕ) (fault : RunFault) → IsReplayText why known p answer text →
    Writes old new text (Err fault) → ReplaysPlan why known p old new (Err fault)
replay_unwritten why known p old new answer text Write is w = (answer, (text, is, w))
replay_unwritten why known p old new answer text Memory is w = (tt, w)
replay_unwritten why known p old new answer text x is w = absurd w

-- the text of a line that is refused
pub told_refused : (why : Bool) (known : Option (List ℕ)) (p : Network) (s : State) (refused : RefusedLine) → MakesEvents known p s (Some refused) →
    IsReplayText why known p Refused (refused_text refused.number refused.line.items)
told_refused why known p s refused (events, reached, number, behind) =
    (events, shown s, (replays p events s reached).runs, (refused.line.items, behind, ap (λ n. refused_text n refused.line.items) number))

-- the text of the state that the events lead to
pub ended_text : (why : Bool) (known : Option (List ℕ)) (p : Network) (s : State) (close : Close) (text : List ℕ) → MakesEvents known p s None →
    ((q : Network) → IsNetworkOf q s → ClosesIn q (shown s) close) → ((q : Network) (events : List Event) → HasReplayed q events s → OnlyProcessesWait q (shown s) close) →
    ((events : List Event) → IsTail why p events (shown s) close text) → IsReplayText why known p (Ended close) text
ended_text why known p s close text (events, reached, behind) closes waits is =
    let all = replays p events s reached in
    (events, behind, (shown s, record { runs = all.runs; closes = closes p reached.is; waits = waits p events all }, is events))
