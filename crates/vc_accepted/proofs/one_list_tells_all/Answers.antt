use Rattle.vc_accepted.proofs.Main.{all_told}
use Rattle.vc_accepted.proofs.one_list_tells_all.Goals as goal

pub returns : goal.returns
returns c = all_told
