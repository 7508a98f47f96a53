-- What a run in threads wrote.
use Rattle.std.proofs.Common.{List, ℕ, Option, Err, Ok}
use Rattle.vc_core.specs.State.{shown, state_of}
use Rattle.vc_core.specs.declared.event.Event.{Event}
use Rattle.vc_plan.specs.declared.plan.Plan.{Plan as Network}
use Rattle.vc_threads.specs.Gates.{once_ended}
use Rattle.vc_threads.specs.Threads.{IsThreadRun}
use Rattle.vc_threads.specs.declared.report.Ending.{Ending}
use Rattle.vc_text.specs.declared.fault.RunFault.{RunFault}
use Rattle.vc_text.specs.declared.fault.RunFault.TheVariants.{Write, Memory}
use Rattle.vc_text.specs.RunText.{RunText}
use Rattle.vc_text.specs.Private.Streams.{WritesOne}
use Rattle.vc_text.specs.CheckText.{ReadsAccepted}
use Rattle.vc_text.specs.ThreadsText.{WritesThreads}
use Rattle.vc_text.proofs.CheckText.{memory_any}

-- the text could not be written, or there was no memory for it
pub threads_unwritten : (IsText : RunText) (turns seed : ℕ) (known old new : Option (List ℕ)) (plan : Network) (e : Ending) (events : List Event) (fault : RunFault) → ReadsAccepted known (Ok plan) →
    IsThreadRun plan (once_ended plan (state_of e.state)) turns seed events (state_of e.state) e.stops.items e.close →
    WritesOne (IsText plan events (shown (state_of e.state)) e.close) old new (Err fault) → WritesThreads IsText turns seed known old new (Err fault)
threads_unwritten IsText turns seed known old new plan e events Write read is w = (plan, read, (e, w.0, (events, is, w.1), w.2))
threads_unwritten IsText turns seed known old new plan e events Memory read is w = (memory_any known, w)
threads_unwritten IsText turns seed known old new plan e events x read is w = absurd w
