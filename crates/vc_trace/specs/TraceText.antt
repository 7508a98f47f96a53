-- The text of a traced run.
use Rattle.std.specs.Prelude.{◌≡◌, ◌⊎◌, ℕ, Bool, List, ◌++◌, Option, Result, Ok, Err}
use Rattle.std.specs.Io.KnownBytes.{Appends}
use Rattle.vc_core.specs.PossibleEvents.{NetworkState}
use Rattle.vc_core.specs.declared.close.Close.{Close}
use Rattle.vc_core.specs.declared.event.Event.{Event}
use Rattle.vc_plan.specs.declared.plan.Plan.{Plan as Network}
use Rattle.vc_text.specs.RunText.{IsRunSoFar, RunText, WritesRun}
use Rattle.vc_text.specs.Streams.{AppendsFront}
use Rattle.vc_text.specs.Tail.{IsTail}
use Rattle.vc_text.specs.declared.fault.RunFault.{RunFault}
use Rattle.vc_text.specs.declared.fault.RunFault.TheVariants.{Write, Memory}
use Rattle.vc_text.specs.declared.schedule.Schedule.{Schedule}
use Rattle.vc_trace.specs.EventText.{events_text}

-- the events of a run, and then the traffic of the state after them, with who waits for what or without
abbrev pub IsTracedText : (why : Bool) → RunText
IsTracedText why plan events x close text =
    (tail : List ℕ) × IsTail why plan events x close tail × (text ≡ events_text plan events ++ tail)

-- A run ended early for this reason: out of memory, the lines of its events so far were written; if the writer failed, a prefix of them.
abbrev pub StopsTrace : Network → Option (List ℕ) → Option (List ℕ) → Schedule → ℕ → RunFault → Type 0
StopsTrace plan old new schedule limit Memory =
    (events : List Event) × (x : NetworkState) × IsRunSoFar plan schedule limit events x × Appends old new (events_text plan events)
StopsTrace plan old new schedule limit Write =
    (events : List Event) × (x : NetworkState) × IsRunSoFar plan schedule limit events x × AppendsFront old new (events_text plan events)
StopsTrace plan old new schedule limit fault = ⊥

-- the text of a run is written as its events happen, or the run or the writing of its traffic ended early
abbrev pub WritesTrace : (why : Bool) → Network → Option (List ℕ) → Option (List ℕ) → Schedule → ℕ → Result Close RunFault → Type 0
WritesTrace why plan old new schedule limit (Ok close) = WritesRun (IsTracedText why) plan old new schedule limit (Ok close)
WritesTrace why plan old new schedule limit (Err Write) =
    StopsTrace plan old new schedule limit Write ⊎ WritesRun (IsTracedText why) plan old new schedule limit (Err Write)
WritesTrace why plan old new schedule limit (Err fault) = StopsTrace plan old new schedule limit fault

-- the plan that is read so is run; else nothing was written
abbrev pub WritesTraceBy : (why : Bool) → (Result Network RunFault → Type 0) → Option (List ℕ) → Option (List ℕ) → Schedule → ℕ → Result Close RunFault → Type 0
WritesTraceBy why Reads old new schedule limit result =
    ((plan : Network) × Reads (Ok plan) × WritesTrace why plan old new schedule limit result)
    ⊎ ((fault : RunFault) × Reads (Err fault) × (result ≡ Err fault) × (new ≡ old))
