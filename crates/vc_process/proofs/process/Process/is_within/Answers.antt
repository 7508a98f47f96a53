use Rattle.std.proofs.Common.{◌∙◌, sym, ap}
use Rattle.vc_process.specs.ProcessLimits.{depth_within}
use Rattle.vc_process.specs.Syntax.{Proc}
use Rattle.vc_process.proofs.Numbers.{written_is}
use Rattle.vc_process.proofs.process.Process.is_within.Goals as goal

pub returns : goal.returns
returns c = c.depth_within.ensures 0 ∙ ap (λ (p : Proc). depth_within p c.args.depth) (sym (written_is c.args.self.now))
