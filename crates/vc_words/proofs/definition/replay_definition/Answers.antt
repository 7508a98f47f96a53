use Rattle.std.proofs.Common.{ap, ap₂, ◌∙◌}
use Rattle.std.proofs.lemmas.Result.{IfOk-weaker}
use Rattle.clap.specs.Words.{App, with_rule}
use Rattle.vc_words.proofs.Commands.{neither}
use Rattle.vc_words.proofs.definition.replay_definition.Goals as goal

pub returns-clause-shape : goal.returns-clause-shape
returns-clause-shape c =
    let top = c.in_ok-network_command.ensures.app in
    let one = c.in_ok-arg.ensures.shape c.file_option-events.ensures.local ∙ ap₂ with_rule top c.file_option-events.ensures.rule in
    let last = c.in_ok-arg-2.ensures.shape c.flag.ensures.local ∙ ap₂ with_rule one c.flag.ensures.rule in
    let shown = c.in_ok-arg-3.ensures.shape c.flag-2.ensures.local ∙ ap₂ with_rule last c.flag-2.ensures.rule in
    IfOk-weaker c.arg-4.result _ _ (λ r h. ap (λ (a : App). a.top) (h.shape c.flag-3.ensures.local ∙ ap₂ with_rule shown c.flag-3.ensures.rule)) c.arg-4.ensures

pub returns-clause-local : goal.returns-clause-local
returns-clause-local c =
    let top = c.in_ok-network_command.ensures.local in
    let one = neither _ _ _ c.in_ok-arg.ensures.globals top c.file_option-events.ensures.local in
    let last = neither _ _ _ c.in_ok-arg-2.ensures.globals one c.flag.ensures.local in
    let shown = neither _ _ _ c.in_ok-arg-3.ensures.globals last c.flag-2.ensures.local in
    IfOk-weaker c.arg-4.result _ _ (λ r h. neither _ _ _ h.globals shown c.flag-3.ensures.local) c.arg-4.ensures
