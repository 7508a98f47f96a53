use Rattle.std.proofs.Common.{sym, ap, ◌∙◌, length}
use Rattle.vc_blocks.proofs.Logs.{length-cut}
use Rattle.vc_blocks.proofs.message_log.MessageLog.len.Goals as goal

pub returns : goal.returns
returns c = c.len.ensures ∙ sym (length-cut c.self.inside.bytes.items 0 c.self.inside.ends) ∙ ap length c.self.view_is
