use Rattle.vc_blocks.proofs.Logs.{before_none}
use Rattle.vc_blocks.proofs.ends.Ends.before.Goals as goal

pub returns-in-None : goal.returns-in-None
returns-in-None c = before_none c.args.self.now c.args.at c.if-at-eq0.false c.in-None.ensures
