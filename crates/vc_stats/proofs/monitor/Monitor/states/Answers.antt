use Rattle.std.proofs.Common.{◌∙◌}
use Rattle.vc_stats.proofs.Figures.{unfinished_are}
use Rattle.vc_stats.proofs.monitor.Monitor.states.Goals as goal

pub returns : goal.returns
returns c = λ es xs x is i. record {
  unfinished = (c.in_ok-unfinished.ensures ∙ unfinished_are c.args.plan.now c.args.self.now es xs x is c.events.result (c.events.ensures es is.counts)) i;
  ways = (c.in_ok-ways.ensures es xs x is) i;
}
