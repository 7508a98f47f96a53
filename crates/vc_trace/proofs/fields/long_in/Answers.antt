use Rattle.std.proofs.Common.{arith, decimal}
use Rattle.vc_trace.proofs.NameWords.{word_decimal}
use Rattle.vc_trace.proofs.fields.long_in.Goals as goal

pub returns : goal.returns
returns c = λ n words is whole.
    let word = word_decimal n (omega (arith, is)) in
    (c.long.ensures n is (c.next.ensures.word (decimal n) words word whole), c.next.ensures.rest (decimal n) words word whole)
