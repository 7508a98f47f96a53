use Rattle.vc_label_laws.proofs.Parts.{parts_free}
use Rattle.vc_label_laws.proofs.parts_are_free.Goals as goal

pub returns : goal.returns
returns c = parts_free
