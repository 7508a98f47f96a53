use Rattle.std.proofs.Common.{◌∙◌, sym, ap}
use Rattle.vc_process.specs.InOrder.{number}
use Rattle.vc_process.specs.ProcessLimits.{names_fit}
use Rattle.vc_process.specs.Syntax.{Proc}
use Rattle.vc_process.proofs.Questions.{names_is}
use Rattle.vc_process.proofs.Numbers.{written_is}
use Rattle.vc_process.proofs.process.Process.fits.Goals as goal

pub returns : goal.returns
returns c = c.everywhere.ensures 0 ∙ names_is c.args.kinds.now c.args.channels ((number c.args.self.now).tree 0) ∙ ap (λ (p : Proc). names_fit p c.args.kinds.now c.args.channels) (sym (written_is c.args.self.now))
