use Rattle.vc_plan.specs.Names.{channel_name}
use Rattle.vc_trace.specs.Private.EventOf.{IsNamed}
use Rattle.vc_trace.specs.Private.Names.{AreNumbered}
use Rattle.vc_trace.proofs.names.channels_of.Given as goal

abbrev pub invariant-loop-chan : goal.invariant-loop-chan
invariant-loop-chan l = IsNamed l.plan → AreNumbered (channel_name l.plan) l.chan l.channels
