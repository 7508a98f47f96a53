use Rattle.std.proofs.Common.{Err, subst, sym}
use Rattle.vc_text.proofs.Forms.{not_made}
use Rattle.vc_text.specs.CheckText.{ReadsFile}
use Rattle.vc_text.proofs.network_file.read_made.Goals as goal

pub returns-in-Err : goal.returns-in-Err
returns-in-Err c = subst (λ f. ReadsFile c.args.text.now (Err f)) (sym c.from.ensures) (not_made c.args.text.now c.in-Err.refused c.requires c.in-Err.ensures.refused)
