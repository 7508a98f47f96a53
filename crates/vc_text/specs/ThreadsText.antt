-- What a run in threads answers and writes.
use Rattle.std.specs.Prelude.{◌≡◌, ℕ, false, List, Option, Result, Ok, Err}
use Rattle.std.specs.Io.KnownBytes.{Appends}
use Rattle.vc_core.specs.State.{shown, state_of}
use Rattle.vc_core.specs.declared.event.Event.{Event}
use Rattle.vc_plan.specs.declared.plan.Plan.{Plan}
use Rattle.vc_threads.specs.Gates.{once_ended}
use Rattle.vc_threads.specs.Threads.{IsThreadRun, Reports}
use Rattle.vc_threads.specs.declared.report.Ending.{Ending}
use Rattle.vc_threads.specs.declared.report.Report.{Report}
use Rattle.vc_text.specs.declared.fault.RunFault.{RunFault}
use Rattle.vc_text.specs.declared.fault.RunFault.TheVariants.{Write, Threads}
use Rattle.vc_text.specs.Streams.{AppendsFront}
use Rattle.vc_text.specs.CheckText.{ReadsAccepted}
use Rattle.vc_text.specs.RunText.{RunText}
use Rattle.vc_text.specs.Tail.{IsTail}

-- Events of all actors' runs lead to this ending, under a gate that closes once every process has ended. The headline holds there and a
-- linearization exists, and the text is one of these events.
abbrev pub IsEndingText : RunText → Plan → ℕ → ℕ → Ending → List ℕ → Type 0
IsEndingText IsText plan turns seed e text =
    (events : List Event)
    × IsThreadRun plan (once_ended plan (state_of e.state)) turns seed events (state_of e.state) e.stops.items e.close
    × IsText plan events (shown (state_of e.state)) e.close text

-- The reader's network was run in threads, of so many turns at most and with this seed, and such a text was written, or a front of one
-- before a fault of the writer; else nothing was written.
abbrev pub WritesThreads : RunText → ℕ → ℕ → Option (List ℕ) → Option (List ℕ) → Option (List ℕ)
    → Result Ending RunFault → Type 0
WritesThreads IsText turns seed known old new (Ok e) =
    (plan : Plan) × ReadsAccepted known (Ok plan)
    × ((text : List ℕ) × IsEndingText IsText plan turns seed e text × Appends old new text)
WritesThreads IsText turns seed known old new (Err Write) =
    (plan : Plan) × ReadsAccepted known (Ok plan)
    × ((e : Ending) × (text : List ℕ) × IsEndingText IsText plan turns seed e text × AppendsFront old new text)
WritesThreads IsText turns seed known old new (Err (Threads why)) = (plan : Plan) × ReadsAccepted known (Ok plan) × (new ≡ old)
WritesThreads IsText turns seed known old new (Err fault) = ReadsAccepted known (Err fault) × (new ≡ old)

-- and the events are reported, whose traffic was written
abbrev pub RunsInThreads : ℕ → ℕ → Option (List ℕ) → Option (List ℕ) → Option (List ℕ) → Result Report RunFault → Type 0
RunsInThreads turns seed known old new (Ok r) =
    (plan : Plan) × ReadsAccepted known (Ok plan) × Reports plan (once_ended plan (state_of r.state)) turns seed r
    × ((text : List ℕ) × IsTail false plan r.steps.items (shown (state_of r.state)) r.close text × Appends old new text)
RunsInThreads turns seed known old new (Err fault) = WritesThreads (IsTail false) turns seed known old new (Err fault)
