use Rattle.std.proofs.Common.{◌∙◌, sym}
use Rattle.vc_occam.specs.Frames.{remains}
use Rattle.vc_occam.specs.Private.Frames.{seen_task}
use Rattle.vc_process.specs.Terms.{store}
use Rattle.vc_occam.proofs.Outcomes.{quiet_assigned, task_outcome}
use Rattle.vc_occam.proofs.running.Running.act_quietly.Goals as goal

pub step-requires-clause-assigned : goal.step-requires-clause-assigned
step-requires-clause-assigned c =
    let self = c.args.self.now in
    sym (quiet_assigned c.args.site (remains self.task) c.in-Quiet.site (store self.vars.items) (task_outcome (seen_task self.task) self.sound ∙ c.in-Quiet.is))
