use Rattle.std.proofs.Common.{ap, sym}
use Rattle.vc_text.specs.FaultLine.{check_head}
use Rattle.vc_text.proofs.check_line.head.Goals as goal

pub returns-in-WrongEnd : goal.returns-in-WrongEnd
returns-in-WrongEnd c = sym (ap check_head c.in-WrongEnd.is)
