use Rattle.std.proofs.Common.{ap, sym}
use Rattle.vc_words.specs.Status.{status_of_end}
use Rattle.vc_words.proofs.words.status_of_close.Goals as goal

pub returns-in-Quiet : goal.returns-in-Quiet
returns-in-Quiet c = sym (ap status_of_end c.in-Quiet.is)
