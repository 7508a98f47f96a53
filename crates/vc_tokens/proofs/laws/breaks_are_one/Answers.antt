use Rattle.vc_tokens.proofs.Breaks.{read_or_broken, read_unbroken, broken_once}
use Rattle.vc_tokens.proofs.laws.breaks_are_one.Goals as goal

pub returns : goal.returns
returns c = record { some = read_or_broken; none = read_unbroken; one = broken_once }
