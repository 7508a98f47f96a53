use Rattle.std.proofs.Common.{length, sym, ap, ◌∙◌}
use Rattle.vc_text.proofs.LogEntries.{as_many}
use Rattle.vc_text.proofs.event_log.EventLog.len.Goals as goal

pub returns : goal.returns
returns c =
    let x = c.self.inside in
    c.len.ensures ∙ sym (as_many x.entries x.words x.moves) ∙ ap length c.self.view_is
