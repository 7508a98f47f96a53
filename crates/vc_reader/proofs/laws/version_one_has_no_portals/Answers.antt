use Rattle.vc_reader.proofs.Versions.{version_one}
use Rattle.vc_reader.proofs.laws.version_one_has_no_portals.Goals as goal

pub returns : goal.returns
returns c = version_one
