use Rattle.vc_reader.proofs.DistinctNames.{names_differ}
use Rattle.vc_reader.proofs.laws.names_differ.Goals as goal

pub returns : goal.returns
returns c = names_differ
