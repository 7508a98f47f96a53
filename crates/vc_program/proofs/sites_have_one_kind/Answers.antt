use Rattle.vc_program.proofs.OneKind.{kinds}
use Rattle.vc_program.proofs.sites_have_one_kind.Goals as goal

pub returns : goal.returns
returns c = kinds
