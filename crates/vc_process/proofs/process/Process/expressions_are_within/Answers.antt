use Rattle.std.proofs.Common.{◌∙◌, sym, ap, []}
use Rattle.vc_process.specs.InOrder.{number}
use Rattle.vc_process.specs.ProcessLimits.{exps_within}
use Rattle.vc_process.specs.Syntax.{Proc}
use Rattle.vc_process.proofs.Questions.{within_is}
use Rattle.vc_process.proofs.Numbers.{written_is}
use Rattle.vc_process.proofs.process.Process.expressions_are_within.Goals as goal

pub returns : goal.returns
returns c = c.everywhere.ensures 0 ∙ within_is [] c.args.depth ((number c.args.self.now).tree 0) ∙ ap (λ (p : Proc). exps_within p c.args.depth) (sym (written_is c.args.self.now))
