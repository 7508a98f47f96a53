use Rattle.vc_trace.specs.EventText.{guard_word}
use Rattle.vc_trace.proofs.NameWords.{word_guard}
use Rattle.vc_trace.proofs.fields.guard_in.Goals as goal

pub returns : goal.returns
returns c = λ guard words is whole.
    let word = word_guard guard is in
    (c.guard.ensures guard is (c.next.ensures.word (guard_word guard) words word whole), c.next.ensures.rest (guard_word guard) words word whole)
