use Rattle.std.proofs.Common.{Ok, refl, subst}
use Rattle.vc_text.specs.Streams.{Writes}
use Rattle.vc_words.proofs.words.tell_text.Goals as goal

pub returns-in-Ok : goal.returns-in-Ok
returns-in-Ok g c =
    (Ok tt, subst (Writes (g.W.Write.contents c.args.writer.now) (g.W.Write.contents c.write_text.new.writer) c.args.text.now) c.in-Ok.is c.write_text.ensures, refl)
