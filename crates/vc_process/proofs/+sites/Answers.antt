use Rattle.std.proofs.Common.{arith}
use Rattle.vc_process.proofs.Counts.{has_a_site}
use Rattle.vc_process.proofs.+sites.Goals as goal

pub process::Process::sites-returns-then-most-eq0 : goal.process::Process::sites-returns-then-most-eq0
process::Process::sites-returns-then-most-eq0 t c = omega (arith, has_a_site c.args.self.now)

pub process::Process::sites-returns : goal.process::Process::sites-returns
process::Process::sites-returns t c = (omega arith, omega arith)
