use Rattle.clap.specs.Words.{found_of}
use Rattle.vc_words.proofs.Numbers.{found, beyond, absent}
use Rattle.vc_words.proofs.arguments.number.Goals as goal

pub returns-in-Some-clause-number : goal.returns-in-Some-clause-number
returns-in-Some-clause-number c =
    let read = c.in-Some.ensures in
    found (found_of c.args.matches.now) c.args.id.now c.args.most c.args.usual c.in-Some.number read.none (λ t e. (read.value t e).0) c.if-number-most.true

pub returns-in_default-clause-number : goal.returns-in_default-clause-number
returns-in_default-clause-number c =
    let read = c.in-Some.ensures in
    beyond (found_of c.args.matches.now) c.args.id.now c.args.most c.args.usual c.in-Some.number read.none (λ t e. (read.value t e).0) c.ranges.most.fits c.if-number-most.false

pub returns-in_default-2-clause-number : goal.returns-in_default-2-clause-number
returns-in_default-2-clause-number c =
    let read = c.in_default.ensures in
    absent (found_of c.args.matches.now) c.args.id.now c.args.most c.args.usual (λ t e. (read.value t e).1.0) c.ranges.most.fits
