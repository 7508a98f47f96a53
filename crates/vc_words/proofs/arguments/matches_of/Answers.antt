use Rattle.std.proofs.Common.{ap, sym, subst, ◌∙◌}
use Rattle.clap.specs.Walk.{texts}
use Rattle.clap.specs.Simple.{is_simple, subcommand_of}
use Rattle.clap.specs.Kinds.{HasKind}
use Rattle.clap.specs.Faults.{fault_of, is_simple_and_free}
use Rattle.vc_words.specs.CommandLine.{faults}
use Rattle.vc_words.proofs.Questions.{simple, simple_and_free, told, wanted}
use Rattle.vc_words.proofs.arguments.matches_of.Goals as goal

pub returns-in-Ok-clause-found : goal.returns-in-Ok-clause-found
returns-in-Ok-clause-found c =
    let words = texts c.args.words.now in
    let app = c.in_ok-definition.ensures.app in
    let found = c.in-Ok.ensures in (
      ap (λ a. fault_of a words) (sym app) ∙ found.kinds (ap is_simple_and_free app ∙ simple_and_free),
      (found.matches (ap is_simple app ∙ simple)).1 ∙ ap (λ a. subcommand_of a words) app,
      wanted c.in_ok-definition.field-0 c.in-Ok.matches app c.in_ok-definition.ensures.local found.parsed,
    )

pub returns-in-Err-clause-faults : goal.returns-in-Err-clause-faults
returns-in-Err-clause-faults c =
    let app = c.in_ok-definition.ensures.app in
    let why = c.in-Err.ensures.kinds (ap is_simple_and_free app ∙ simple_and_free) in
    told (faults (texts c.args.words.now)) c.in-Err.error c.fault_of.result (subst (λ a. HasKind (fault_of a (texts c.args.words.now)) c.in-Err.error) app why) c.fault_of.ensures
