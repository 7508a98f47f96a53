use Rattle.std.proofs.Common.{[]}
use Rattle.vc_core.specs.State.{shown}
use Rattle.vc_stats.proofs.monitor.Monitor.new.Goals as goal

pub returns : goal.returns
returns c = λ s begun few. (
  [],
  record {
    counts = c.new.ensures few;
    visits = begun.begins;
    times = c.in_ok-new.ensures (shown s) begun.begins;
    peaks = c.in_ok-new-2.ensures (shown s) begun.begins;
    buffers = c.new-4.ensures c.args.plan.now (shown s) begun.begins;
    packets = c.new-5.ensures c.args.plan.now;
  },
)
