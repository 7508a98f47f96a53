use Rattle.vc_tokens.proofs.StreamReads.{read_once}
use Rattle.vc_tokens.proofs.laws.readings_are_one.Goals as goal

pub returns : goal.returns
returns c = λ limit ts ps qs rest other a b. read_once ts ps qs rest other a.spells b.spells
