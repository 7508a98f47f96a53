use Rattle.std.proofs.Common.{ap, ap₂, codes, ◌∙◌}
use Rattle.std.proofs.lemmas.Result.{IfOk-weaker}
use Rattle.clap.specs.Words.{App, with_rule}
use Rattle.vc_words.specs.CommandLine.{optional_of}
use Rattle.vc_words.proofs.Commands.{neither}
use Rattle.vc_words.proofs.definition.draw_definition.Goals as goal

pub returns-clause-shape : goal.returns-clause-shape
returns-clause-shape c =
    let top = c.in_ok-network_command.ensures.app in
    IfOk-weaker c.arg.result _ _ (λ r h. ap (λ (a : App). a.top) (h.shape c.optional_number-after.ensures.local ∙ ap₂ with_rule top (c.optional_number-after.ensures.rule ∙ ap (λ n. optional_of (codes "after") n) c.counts.ensures))) c.arg.ensures

pub returns-clause-local : goal.returns-clause-local
returns-clause-local c =
    let top = c.in_ok-network_command.ensures.local in
    IfOk-weaker c.arg.result _ _ (λ r h. neither _ _ _ h.globals top c.optional_number-after.ensures.local) c.arg.ensures
