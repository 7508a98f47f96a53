use Rattle.std.proofs.Common.{refl}
use Rattle.vc_stats.proofs.Figures.{way_is}
use Rattle.vc_stats.proofs.monitor.Monitor.way.Goals as goal

pub returns : goal.returns
returns c = λ es xs x is.
    let p = c.args.plan.now in
    way_is p c.args.self.now es xs x c.args.way c.port_on-start.result c.port_on-end.result c.actor_of-source.result c.actor_of-sink.result c.at-buffer.result _ c.events.result is c.requires.way
    c.port_on-start.ensures.port c.port_on-end.ensures.port (c.port_on-end.ensures.few c.requires.plan) (c.actor_of-source.ensures p c.port_on-start.result.link c.len.ensures) (c.actor_of-sink.ensures p c.port_on-end.result.link c.len-2.ensures)
    c.at-buffer.ensures (c.events.ensures es is.counts) c.whole.ensures c.acks.ensures c.most.ensures refl c.busy.ensures
