use Rattle.vc_reader.proofs.FirstLimit.{limits_kept}
use Rattle.vc_reader.proofs.laws.four_limits_refuse_no_file.Goals as goal

pub returns : goal.returns
returns c = limits_kept
