-- The text that the words have for an argument of their subcommand.
use Rattle.std.proofs.Common.{◌≡◌, ◌∙◌, refl, sym, ap, List, codes, Option, Some, None, option_and_then, option_map, true≢false, is_some}
use Rattle.clap.specs.Words.{found_of, first_value, rows_of, subcommand_of, subcommand_rows_of}
use Rattle.clap.specs.Walk.{Row, Text, first_of}
use Rattle.clap.specs.declared.parser.matches.ArgMatches.{ArgMatches}
use Rattle.clap.proofs.WalkLemmas.{first_value-rows}
use Rattle.vc_words.specs.CommandLine.{vcnet, HasFound, text_in}

-- what is looked up among what was found of the subcommand
looked_up : (id : Text) (o : Option (Text × List Row)) (rows : List Row) → Some rows ≡ option_map (λ p. p.1) o → first_of id rows ≡ option_and_then (λ p. first_of id p.1) o
looked_up id None rows is = absurd (true≢false (ap is_some is))
looked_up id (Some p) rows is = ap (λ o. option_and_then (first_of id) o) is

-- what the matches of the subcommand have for the argument is what the words have
pub found_in_words : (id : Text) (words : List Text) (m f : ArgMatches) (o : Option Text) → HasFound words m → Some (rows_of (found_of f)) ≡ option_map (λ p. p.1) (subcommand_rows_of m)
    → o ≡ first_value (found_of f) id → o ≡ text_in id words
found_in_words id words m f o (good, same, there) rows value =
    value ∙ first_value-rows (found_of f) id ∙ looked_up id (subcommand_rows_of m) (rows_of (found_of f)) rows ∙ ap (option_and_then (λ p. first_of id p.1)) same
