use Rattle.std.proofs.Common.{◌≡◌, ◌++◌, drop}
use Rattle.vc_text.specs.EventLog.{events_of}
use Rattle.vc_text.proofs.event_log.EventLog.to_vec.Given as goal

abbrev pub invariant-loop-entry : goal.invariant-loop-entry
invariant-loop-entry l = l.events.items ++ events_of (drop l.entry-index l.entries) l.words l.moves ≡ l.fn.self
