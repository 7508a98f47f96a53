use Rattle.clap.specs.Words.{found_of}
use Rattle.vc_words.proofs.Flags.{found, absent}
use Rattle.vc_words.proofs.arguments.is_set.Goals as goal

pub returns-in-Some : goal.returns-in-Some
returns-in-Some c =
    let read = c.in-Some.ensures in
    found (found_of c.args.matches.now) c.args.id.now c.in-Some.set read.none (λ t e. read.value t e)

pub returns-in-None : goal.returns-in-None
returns-in-None c =
    let read = c.in-None.ensures in
    absent (found_of c.args.matches.now) c.args.id.now (λ t e. (read.value t e).1.0)
