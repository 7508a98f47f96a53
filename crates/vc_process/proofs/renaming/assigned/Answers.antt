use Rattle.vc_process.specs.Renaming.{moved_by}
use Rattle.vc_process.proofs.Renamings.{word_set}
use Rattle.vc_process.proofs.renaming.assigned.Goals as goal

pub returns : goal.returns
returns c = word_set (moved_by c.args.by) c.args.var c.moved_variable.result c.args.value.now c.in_ok-value.value c.moved_variable.ensures c.in_ok-value.ensures
