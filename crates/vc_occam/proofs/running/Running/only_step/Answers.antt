use Rattle.vc_occam.proofs.NoInnerChannels.{only_moves}
use Rattle.vc_occam.proofs.running.Running.only_step.Goals as goal

pub returns-in-Quiet : goal.returns-in-Quiet
returns-in-Quiet c = only_moves c.args.self.now c.in-Quiet.site c.in-Quiet.is
