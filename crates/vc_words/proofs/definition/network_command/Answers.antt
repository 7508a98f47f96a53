use Rattle.std.proofs.Common.{ap, ap₂, false, ◌≡◌, ◌∙◌}
use Rattle.std.proofs.lemmas.Result.{IfOk-weaker}
use Rattle.clap.specs.Words.{app_of, new_app, with_rule}
use Rattle.clap.specs.Simple.{app_of_fields}
use Rattle.clap.specs.declared.builder.command.Command.TheViews.{out-Command}
use Rattle.vc_words.proofs.Commands.{globals, neither}
use Rattle.vc_words.proofs.definition.network_command.Goals as goal

pub returns-clause-app : goal.returns-clause-app
returns-clause-app c =
    let top : app_of c.after_help.result ≡ new_app c.args.name.now = ap app_of_fields c.after_help.ensures ∙ ap app_of_fields c.about.ensures ∙ c.new.ensures.app in
    IfOk-weaker c.arg.result _ _ (λ r h. h.shape c.network_argument.ensures.local ∙ ap₂ with_rule top c.network_argument.ensures.rule) c.arg.ensures

pub returns-clause-local : goal.returns-clause-local
returns-clause-local c =
    let top : (out-Command c.after_help.result).has_globals ≡ false = ap globals c.after_help.ensures ∙ ap globals c.about.ensures ∙ c.new.ensures.local in
    IfOk-weaker c.arg.result _ _ (λ r h. neither _ _ _ h.globals top c.network_argument.ensures.local) c.arg.ensures
