use Rattle.std.proofs.Common.{◌≡◌, [], refl, sym, subst, ◌∙◌}
use Rattle.vc_text.specs.EventLog.{events_of}
use Rattle.vc_text.proofs.LogEntries.{none_of_none}
use Rattle.vc_text.proofs.event_log.EventLog.is_empty.Goals as goal

pub returns : goal.returns
returns c =
    let x = c.self.inside in (
      (λ t. sym c.self.view_is ∙ subst (λ es. events_of es x.words x.moves ≡ []) (sym (c.is_empty.ensures.0 t)) refl),
      (λ e. c.is_empty.ensures.1 (none_of_none x.entries x.words x.moves (c.self.view_is ∙ e))),
    )
