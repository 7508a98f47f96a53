use Rattle.vc_process.specs.Renaming.{moved_by}
use Rattle.vc_process.proofs.Renamings.{word_send}
use Rattle.vc_process.proofs.renaming.sent.Goals as goal

pub returns : goal.returns
returns c = word_send (moved_by c.args.by) c.args.chan c.args.value.now c.in_ok-value.value c.in_ok-value.ensures
