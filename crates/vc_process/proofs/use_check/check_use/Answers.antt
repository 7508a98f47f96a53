use Rattle.std.proofs.Common.{sym, subst}
use Rattle.vc_process.specs.Lawful.{FirstOffence, Lawfully}
use Rattle.vc_process.specs.Numbering.{written}
use Rattle.vc_process.specs.Private.Clashes.{Judges}
use Rattle.vc_process.specs.Syntax.{Proc}
use Rattle.vc_process.proofs.Numbers.{written_is}
use Rattle.vc_process.proofs.Verdicts.{exact_use}
use Rattle.vc_process.proofs.Judgements.{judges_use}
use Rattle.vc_process.proofs.use_check.check_use.Goals as goal
use Rattle.vc_process.proofs.use_check.check_use.Goals.{After-check_process}

judged : (c : After-check_process) → Judges c.check_process.result (Lawfully (written c.args.process.now)) (FirstOffence (written c.args.process.now))
judged c = subst (λ (q : Proc). Judges c.check_process.result (Lawfully q) (FirstOffence q)) (sym (written_is c.args.process.now)) (c.check_process.ensures 0)

pub returns-clause-verdict : goal.returns-clause-verdict
returns-clause-verdict c = judges_use (written c.args.process.now) c.check_process.result (judged c)

pub returns-clause-exact : goal.returns-clause-exact
returns-clause-exact c = exact_use (written c.args.process.now) c.check_process.result (judged c)
