use Rattle.vc_text.proofs.QuietActors.{least_among}
use Rattle.vc_text.proofs.masks.least_among.Goals as goal

pub returns : goal.returns
returns c = least_among c.args.mask c.args.among c.lowest.result c.lowest.ensures
