-- What a run answers and writes.
use Rattle.std.specs.Prelude.{◌≡◌, ◌⊎◌, ℕ, ◌≤◌, List, length, Option, Result, Ok, Err}
use Rattle.std.specs.Io.KnownBytes.{Appends}
use Rattle.vc_core.specs.declared.close.Close.{Close}
use Rattle.vc_core.specs.PossibleEvents.{NetworkState}
use Rattle.vc_core.specs.Replay.{RunsTo}
use Rattle.vc_core.specs.State.{State, shown}
use Rattle.vc_core.specs.declared.event.Event.{Event}
use Rattle.vc_text.specs.ChannelStates.{channels_of}
use Rattle.vc_plan.specs.declared.plan.Plan.{Plan as Network}
use Rattle.vc_text.specs.declared.fault.RunFault.{RunFault}
use Rattle.vc_text.specs.declared.fault.RunFault.TheVariants.{Write, Memory}
use Rattle.vc_text.specs.declared.run.StepReport.{StepReport}
use Rattle.vc_text.specs.declared.schedule.Schedule.{Schedule}
use Rattle.vc_text.specs.declared.schedule.Schedule.TheVariants.{InTurn}
use Rattle.vc_text.specs.Schedules.{IsInOrder}
use Rattle.vc_text.specs.Streams.{AppendsFront}
use Rattle.vc_text.specs.CheckText.{ReadsAccepted}
use Rattle.vc_text.specs.OneNode.{ReadsTogether}
use Rattle.vc_text.specs.Close.{Closes, OnlyProcessesWait}
use Rattle.vc_text.specs.Takes.{HasWordsOf}
use Rattle.vc_text.specs.Traffic.{traffic}

-- An accepted plan's network was run for at most so many events, which replay, with the headline and a linearization there, and are in the
-- schedule's order. The words of each actor's takes are those of the generator of seed 0 and its number.
pub record IsRunSoFar (plan : Network) (schedule : Schedule) (limit : ℕ) (events : List Event) (x : NetworkState) : Type 0 where
  pub few : length events ≤ limit
  pub runs : RunsTo plan events x
  pub order : IsInOrder plan schedule events x
  pub words : HasWordsOf plan 0 events

-- It was run so, and closes as the state says. If it is quiet and there is no cycle of dependencies, only its processes wait.
pub record IsRunWithin (plan : Network) (schedule : Schedule) (limit : ℕ) (events : List Event) (x : NetworkState) (close : Close) : Type 0 where
  pub so_far : IsRunSoFar plan schedule limit events x
  pub closes : Closes plan x (length events) limit close
  pub waits : OnlyProcessesWait plan x close

-- a run stopped at these events, which a sink has taken, or all but the last, which it could not take
abbrev pub HasStopped : {K : Type 0} → (K → Network → List Event → State → Type 0) → (K → Network → List Event → Type 0) → K → Network → Schedule → ℕ → Type 0
HasStopped holds left taken plan schedule limit =
    (events : List Event) × (s : State) × IsRunSoFar plan schedule limit events (shown s) × (holds taken plan events s ⊎ left taken plan events)

-- A plan was run, each actor in turn, and the traffic of the state was written, or a prefix of it if the writer failed. Out of memory,
-- nothing was written.
abbrev pub RunsPlan : Network → Option (List ℕ) → Option (List ℕ) → ℕ → Result StepReport RunFault → Type 0
RunsPlan plan old new limit (Ok report) =
    (x : NetworkState) × IsRunWithin plan InTurn limit report.events x report.close × Appends old new (traffic (channels_of plan x) report.close)
RunsPlan plan old new limit (Err Write) =
    (events : List Event) × (x : NetworkState) × (close : Close) × IsRunWithin plan InTurn limit events x close × AppendsFront old new (traffic (channels_of plan x) close)
RunsPlan plan old new limit (Err Memory) = new ≡ old
RunsPlan plan old new limit (Err fault) = ⊥

-- the plan that is read so is run; else nothing was written
abbrev pub StepsBy : (Result Network RunFault → Type 0) → Option (List ℕ) → Option (List ℕ) → ℕ → Result StepReport RunFault → Type 0
StepsBy Reads old new limit (Ok report) = (plan : Network) × Reads (Ok plan) × RunsPlan plan old new limit (Ok report)
StepsBy Reads old new limit (Err Write) = (plan : Network) × Reads (Ok plan) × RunsPlan plan old new limit (Err Write)
StepsBy Reads old new limit (Err fault) = Reads (Err fault) × (new ≡ old)

-- the reader's network is run, each process on its node
abbrev pub StepsApart : Option (List ℕ) → Option (List ℕ) → Option (List ℕ) → ℕ → Result StepReport RunFault → Type 0
StepsApart known = StepsBy (ReadsAccepted known)

-- all its processes are run side by side on one node
abbrev pub StepsTogether : Option (List ℕ) → Option (List ℕ) → Option (List ℕ) → ℕ → Result StepReport RunFault → Type 0
StepsTogether known = StepsBy (ReadsTogether known)

-- what a text says of a run: of its plan, its events, the state after them, and how it closed
abbrev pub RunText : Type 1
RunText = Network → List Event → NetworkState → Close → List ℕ → Type 0

-- such a text was written, or a front of one before a fault of the writer; without memory nothing was
abbrev pub WritesRun : RunText → Network → Option (List ℕ) → Option (List ℕ) → Schedule → ℕ
    → Result Close RunFault → Type 0
WritesRun IsText plan old new schedule limit (Ok close) =
    (events : List Event) × (x : NetworkState) × IsRunWithin plan schedule limit events x close
    × ((text : List ℕ) × IsText plan events x close text × Appends old new text)
WritesRun IsText plan old new schedule limit (Err Write) =
    (events : List Event) × (x : NetworkState) × (close : Close) × IsRunWithin plan schedule limit events x close
    × ((text : List ℕ) × IsText plan events x close text × AppendsFront old new text)
WritesRun IsText plan old new schedule limit (Err Memory) = new ≡ old
WritesRun IsText plan old new schedule limit (Err fault) = ⊥

-- the plan that is read so is run; else nothing was written
abbrev pub WritesRunBy : RunText → (Result Network RunFault → Type 0) → Option (List ℕ) → Option (List ℕ) → Schedule → ℕ
    → Result Close RunFault → Type 0
WritesRunBy IsText Reads old new schedule limit (Ok close) = (plan : Network) × Reads (Ok plan) × WritesRun IsText plan old new schedule limit (Ok close)
WritesRunBy IsText Reads old new schedule limit (Err Write) = (plan : Network) × Reads (Ok plan) × WritesRun IsText plan old new schedule limit (Err Write)
WritesRunBy IsText Reads old new schedule limit (Err fault) = Reads (Err fault) × (new ≡ old)
