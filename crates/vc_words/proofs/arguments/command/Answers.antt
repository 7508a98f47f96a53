use Rattle.std.proofs.Common.{ap, sym, ◌∙◌, option_map}
use Rattle.clap.specs.Words.{subcommand_rows_of}
use Rattle.vc_words.specs.CommandLine.{line_of}
use Rattle.vc_words.proofs.Questions.{asked}
use Rattle.vc_words.proofs.arguments.command.Goals as goal

pub returns-clause-asks : goal.returns-clause-asks
returns-clause-asks c =
    let (good, same, there) = c.in_ok-matches.ensures.found in (
      good,
      ap (option_map line_of) (sym same) ∙ asked line_of (subcommand_rows_of c.in_ok-matches.matches) c.line_of.result there c.line_of.ensures.line,
    )
