use Rattle.vc_trace.proofs.Replays.{opens_nothing, replays_by}
use Rattle.vc_trace.proofs.replay.run_replay.Goals as goal

pub returns-in_default : goal.returns-in_default
returns-in_default g c =
    opens_nothing c.args.is_why (g.R.Read.remaining c.args.reader.now) (g.W.Write.contents c.args.writer.now)
    (g.F.NamedFiles.holds c.args.file.files.now c.args.file.name.now) (g.F.NamedFiles.fails c.args.file.files.now c.args.file.name.now)
    c.in_ok-accepted.accepted c.in_ok-accepted.ensures c.in_default.ensures

pub returns : goal.returns
returns g c =
    replays_by c.args.is_why (g.R.Read.remaining c.args.reader.now) (g.F.File.Read.remaining c.in-Some.events) (g.W.Write.contents c.args.writer.now) _
    (g.F.NamedFiles.holds c.args.file.files.now c.args.file.name.now) (g.F.NamedFiles.fails c.args.file.files.now c.args.file.name.now)
    c.in_ok-accepted.accepted _ c.in_ok-accepted.ensures c.in-Some.ensures c.replay_plan.ensures
