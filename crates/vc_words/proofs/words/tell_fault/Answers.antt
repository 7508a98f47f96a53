use Rattle.std.proofs.Common.{Ok, Err, subst}
use Rattle.vc_text.specs.FaultLine.{fault_text}
use Rattle.vc_text.specs.Streams.{Writes}
use Rattle.vc_words.proofs.words.tell_fault.Goals as goal

pub returns-in-Ok : goal.returns-in-Ok
returns-in-Ok g c =
    let writes = Writes (g.W.Write.contents c.args.writer.now) (g.W.Write.contents c.write_fault.new.writer) (fault_text c.args.fault) in
    (Ok tt, subst writes c.in-Ok.is c.write_fault.ensures, c.status_of.ensures)

pub returns : goal.returns
returns g c =
    let writes = Writes (g.W.Write.contents c.args.writer.now) (g.W.Write.contents c.write_fault.new.writer) (fault_text c.args.fault) in
    (Err c.in-Err.later, subst writes c.in-Err.is c.write_fault.ensures, c.status_of-in-Err.ensures)
