-- The program's status.
use Rattle.std.specs.Prelude.{ℕ, Bool, true, false}
use Rattle.vc_core.specs.declared.close.Close.{Close}
use Rattle.vc_core.specs.declared.close.Close.TheVariants.{Done, Quiet, Limit, GateClosed, ClockFull, Failed}
use Rattle.vc_plan.specs.declared.check_refused.CheckRefused.{CheckRefused}
use Rattle.vc_plan.specs.declared.check_refused.CheckRefused.TheVariants as check
use Rattle.vc_reader.specs.declared.refused.ReadRefused.{ReadRefused}
use Rattle.vc_reader.specs.declared.refused.ReadRefused.TheVariants as read
use Rattle.vc_trace.specs.declared.replayed.Replayed.{Replayed}
use Rattle.vc_trace.specs.declared.replayed.Replayed.TheVariants.{Ended, Refused, NoEvents}
use Rattle.vc_text.specs.declared.fault.RunFault.{RunFault}
use Rattle.vc_text.specs.declared.fault.RunFault.TheVariants.{Read, Write, Text, Network, Plan, Threads, Memory}

-- 2 for a text or a plan that is refused, but 4 when out of memory
abbrev pub status_of_text : ReadRefused → ℕ
status_of_text read.Memory = 4
status_of_text refused = 2

abbrev pub status_of_check : CheckRefused → ℕ
status_of_check check.Memory = 4
status_of_check why = 2

-- 2 for a network that can't be labelled, 4 for threads that gave no report, and 6 for the streams
abbrev pub status_of_fault : RunFault → ℕ
status_of_fault Read = 6
status_of_fault Write = 6
status_of_fault (Text refused) = status_of_text refused
status_of_fault (Network cause) = 2
status_of_fault (Plan refusal) = status_of_check refusal.why
status_of_fault (Threads why) = 4
status_of_fault Memory = 4

-- 0 if the network is accepted, and 2 if it is refused
abbrev pub status_of_acceptance : Bool → ℕ
status_of_acceptance true = 0
status_of_acceptance false = 2

-- 0 if the dependencies have no cycle, and 1 if one is shown
abbrev pub status_of_freedom : Bool → ℕ
status_of_freedom true = 0
status_of_freedom false = 1

-- 0 if every process has ended, 1 if the network is quiet, 3 for a limit, 4 when out of memory
abbrev pub status_of_end : Close → ℕ
status_of_end Done = 0
status_of_end Quiet = 1
status_of_end Limit = 3
status_of_end GateClosed = 3
status_of_end ClockFull = 3
status_of_end (Failed actor) = 4

-- that of the end of a run, 2 for an event that is refused, and 6 if the file of events can't be opened
abbrev pub status_of_replay : Replayed → ℕ
status_of_replay (Ended close) = status_of_end close
status_of_replay Refused = 2
status_of_replay NoEvents = 6
