-- A plan that was read and its run, together.
use Rattle.std.proofs.Common.{◌≡◌, ℕ, List, Option, Result, Ok, Err, ap, inr}
use Rattle.std.specs.Result.{IsErr, IsErrAnd}
use Rattle.std.proofs.lemmas.Bool.{false≢true}
use Rattle.vc_core.specs.PossibleEvents.{NetworkState}
use Rattle.vc_core.specs.declared.close.Close.{Close}
use Rattle.vc_core.specs.declared.event.Event.{Event}
use Rattle.vc_plan.specs.declared.plan.Plan.{Plan as Network}
use Rattle.vc_text.specs.CheckText.{ReadsAccepted}
use Rattle.vc_text.specs.OneNode.{JoinsNodes, ReadsTogether}
use Rattle.vc_text.specs.declared.schedule.Schedule.{Schedule}
use Rattle.vc_text.specs.declared.schedule.Schedule.TheVariants.{InTurn}
use Rattle.vc_text.specs.RunText.{IsRunWithin, RunText, RunsPlan, StepsBy, WritesRun, WritesRunBy}
use Rattle.vc_text.specs.ChannelStates.{channels_of}
use Rattle.vc_text.specs.Streams.{Writes}
use Rattle.vc_text.specs.Private.Streams.{WritesOne}
use Rattle.vc_text.specs.Traffic.{traffic}
use Rattle.vc_text.specs.declared.fault.RunFault.{RunFault}
use Rattle.vc_text.specs.declared.fault.RunFault.TheVariants.{Write, Memory}
use Rattle.vc_text.specs.declared.run.StepReport.{StepReport}

-- a fault that is handed on stays as it is
pub handed_on : {A : Type 0} (result : Result A RunFault) (fault : RunFault) → IsErr result × IsErrAnd result (λ e. e ≡ fault) → result ≡ Err fault
handed_on (Ok a) fault is = absurd (false≢true is.0)
handed_on (Err e) fault is = ap Err is.1

-- the traffic could not be written, or there was no memory for it
pub unwritten : (old new : Option (List ℕ)) (limit : ℕ) (plan : Network) (events : List Event) (x : NetworkState) (close : Close) (fault : RunFault) →
    IsRunWithin plan InTurn limit events x close → Writes old new (traffic (channels_of plan x) close) (Err fault) → RunsPlan plan old new limit (Err fault)
unwritten old new limit plan events x close Write ran w = (events, x, close, ran, w)
unwritten old new limit plan events x close Memory ran w = w
unwritten old new limit plan events x close y ran w = absurd w

-- the plan was read, and it was run
pub steps_by : (Reads : Result Network RunFault → Type 0) → Reads (Err Memory) → (plan : Network) (old new : Option (List ℕ)) (limit : ℕ) (result : Result StepReport RunFault) →
    Reads (Ok plan) → RunsPlan plan old new limit result → StepsBy Reads old new limit result
steps_by Reads memory plan old new limit (Ok report) read ran = (plan, read, ran)
steps_by Reads memory plan old new limit (Err Write) read ran = (plan, read, ran)
steps_by Reads memory plan old new limit (Err Memory) read ran = (memory, ran)
steps_by Reads memory plan old new limit x read ran = absurd ran

-- a network was read, and its processes were put on one node
pub reads_together : (known : Option (List ℕ)) (plan : Network) (result : Result Network RunFault) → ReadsAccepted known (Ok plan) → JoinsNodes plan result → ReadsTogether known result
reads_together known plan (Ok one) read joined = (plan, read, joined)
reads_together known plan (Err fault) read joined = inr (plan, read, joined)

-- a text was made, and then written
pub writes_one : (IsText : List ℕ → Type 0) (old new : Option (List ℕ)) (text : List ℕ) (result : Result (Unit {0}) RunFault) → IsText text → Writes old new text result → WritesOne IsText old new result
writes_one IsText old new text (Ok u) is w = (text, is, w)
writes_one IsText old new text (Err Write) is w = (text, is, w)
writes_one IsText old new text (Err Memory) is w = w
writes_one IsText old new text x is w = absurd w

-- a text of a run could not be written, or there was no memory for it
pub run_unwritten : (IsText : RunText) (old new : Option (List ℕ)) (schedule : Schedule) (limit : ℕ) (plan : Network) (events : List Event) (x : NetworkState) (close : Close) (fault : RunFault) →
    IsRunWithin plan schedule limit events x close → WritesOne (IsText plan events x close) old new (Err fault) → WritesRun IsText plan old new schedule limit (Err fault)
run_unwritten IsText old new schedule limit plan events x close Write ran w = (events, x, close, ran, w)
run_unwritten IsText old new schedule limit plan events x close Memory ran w = w
run_unwritten IsText old new schedule limit plan events x close y ran w = absurd w

-- the plan was read, and it was run
pub writes_by : (IsText : RunText) (Reads : Result Network RunFault → Type 0) → Reads (Err Memory) → (plan : Network) (old new : Option (List ℕ)) (schedule : Schedule) (limit : ℕ) (result : Result Close RunFault) →
    Reads (Ok plan) → WritesRun IsText plan old new schedule limit result → WritesRunBy IsText Reads old new schedule limit result
writes_by IsText Reads memory plan old new schedule limit (Ok close) read ran = (plan, read, ran)
writes_by IsText Reads memory plan old new schedule limit (Err Write) read ran = (plan, read, ran)
writes_by IsText Reads memory plan old new schedule limit (Err Memory) read ran = (memory, ran)
writes_by IsText Reads memory plan old new schedule limit x read ran = absurd ran
