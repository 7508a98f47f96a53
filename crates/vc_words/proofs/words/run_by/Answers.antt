use Rattle.std.proofs.Common.{inl, subst}
use Rattle.vc_text.specs.ThreadsText.{WritesThreads}
use Rattle.vc_words.specs.Program.{IsThreadTextOf}
use Rattle.vc_words.proofs.words.run_by.Goals as goal

pub returns-in-Ok : goal.returns-in-Ok
returns-in-Ok g c =
    let options = c.args.options in
    inl (
      c.in-Ok.ending,
      subst (WritesThreads (IsThreadTextOf c.args.account options.is_why) options.turns options.seed (g.R.Read.remaining c.args.reader.now) (g.W.Write.contents c.args.writer.now) (g.W.Write.contents c.write_net.new.writer)) c.in-Ok.is c.write_net.ensures,
      c.status_of_close.ensures,
    )
