use Rattle.std.proofs.Common.{subst, sym}
use Rattle.vc_text.specs.ThreadsText.{WritesThreads}
use Rattle.vc_words.specs.Program.{IsThreadTextOf}
use Rattle.vc_words.proofs.words.write_net.Goals as goal

pub returns-in-Traffic : goal.returns-in-Traffic
returns-in-Traffic g c =
    let options = c.args.options in
    subst (λ account. WritesThreads (IsThreadTextOf account options.is_why) options.turns options.seed (g.R.Read.remaining c.args.reader.now) (g.W.Write.contents c.args.writer.now) (g.W.Write.contents c.run_net_unlogged.new.writer) c.run_net_unlogged.result) (sym c.in-Traffic.is) c.run_net_unlogged.ensures

pub returns-in-Events : goal.returns-in-Events
returns-in-Events g c =
    let options = c.args.options in
    subst (λ account. WritesThreads (IsThreadTextOf account options.is_why) options.turns options.seed (g.R.Read.remaining c.args.reader.now) (g.W.Write.contents c.args.writer.now) (g.W.Write.contents c.trace_net.new.writer) c.trace_net.result) (sym c.in-Events.is) c.trace_net.ensures

pub returns-in-Counts : goal.returns-in-Counts
returns-in-Counts g c =
    let options = c.args.options in
    subst (λ account. WritesThreads (IsThreadTextOf account options.is_why) options.turns options.seed (g.R.Read.remaining c.args.reader.now) (g.W.Write.contents c.args.writer.now) (g.W.Write.contents c.stats_net.new.writer) c.stats_net.result) (sym c.in-Counts.is) c.stats_net.ensures

pub returns-in-Json : goal.returns-in-Json
returns-in-Json g c =
    let options = c.args.options in
    subst (λ account. WritesThreads (IsThreadTextOf account options.is_why) options.turns options.seed (g.R.Read.remaining c.args.reader.now) (g.W.Write.contents c.args.writer.now) (g.W.Write.contents c.json_net.new.writer) c.json_net.result) (sym c.in-Json.is) c.json_net.ensures
