use Rattle.vc_occam.proofs.Views.{view_roll}
use Rattle.vc_occam.proofs.frame_tree.task.Goals as goal

pub returns-clause-frame : goal.returns-clause-frame
returns-clause-frame c = view_roll _
