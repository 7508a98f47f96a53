use Rattle.std.proofs.Common.{◌∙◌}
use Rattle.std.proofs.lemmas.Result.{on_ok_weaker}
use Rattle.vc_core.specs.State.{state_of}
use Rattle.vc_stats.proofs.Figures.{monitor_more}
use Rattle.vc_stats.proofs.monitor.Monitor.follow.Goals as goal

pub returns : goal.returns
returns c = on_ok_weaker c.count.result (λ counts p es s monitors made.
    monitor_more p c.args.self.now (record { stats = c.count.new.self; unfinished = c.follow.new.self; peaks = c.follow-2.new.self; buffers = c.follow-3.new.self; packets = c.follow-4.new.self }) es s (state_of c.args.network.now) c.args.event.now monitors made (counts es)
    (λ xs times counted many. c.follow.ensures p xs s times (c.events-before.ensures es counted ∙ many) made) (λ xs peaks. c.follow-2.ensures p xs s peaks made)
    (λ xs buffers counted many. c.in_ok-follow.ensures p xs s buffers (c.events-before.ensures es counted ∙ many) made)
    (λ xs packets many few. c.in_ok-follow-2.ensures p es xs s packets many few made)) c.count.ensures
