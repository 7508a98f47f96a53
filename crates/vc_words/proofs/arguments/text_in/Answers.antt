use Rattle.std.proofs.Common.{option_map}
use Rattle.clap.specs.Walk.{texts}
use Rattle.vc_words.proofs.ArgumentTexts.{found_in_words}
use Rattle.vc_words.proofs.arguments.text_in.Goals as goal

pub returns-in-Some-clause-text : goal.returns-in-Some-clause-text
returns-in-Some-clause-text c =
    found_in_words c.args.id.now (texts c.args.words.now) c.in_ok-matches.matches c.in-Some.found.now (option_map (λ t. t.now) c.get_str.result) c.in_ok-matches.ensures.found c.in-Some.ensures.rows c.get_str.ensures
