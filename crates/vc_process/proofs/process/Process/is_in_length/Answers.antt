use Rattle.std.proofs.Common.{◌∙◌, sym, ap, []}
use Rattle.vc_process.specs.InOrder.{number}
use Rattle.vc_process.specs.ProcessLimits.{in_length}
use Rattle.vc_process.specs.Syntax.{Proc}
use Rattle.vc_process.proofs.Questions.{length_is}
use Rattle.vc_process.proofs.Numbers.{written_is}
use Rattle.vc_process.proofs.process.Process.is_in_length.Goals as goal

pub returns : goal.returns
returns c = c.everywhere.ensures 0 ∙ length_is [] ((number c.args.self.now).tree 0) ∙ ap (λ (p : Proc). in_length p) (sym (written_is c.args.self.now))
