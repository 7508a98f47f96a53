use Rattle.vc_free.proofs.NeverStuck.{never_stuck_anywhere}
use Rattle.vc_free.proofs.never_stuck_anywhere.Goals as goal

pub returns : goal.returns
returns c = never_stuck_anywhere
