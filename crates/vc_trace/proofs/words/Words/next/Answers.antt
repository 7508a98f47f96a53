use Rattle.std.proofs.Common.{◌++◌, ◌∙◌}
use Rattle.vc_trace.specs.EventText.{spaced}
use Rattle.vc_trace.proofs.LineWords.{behind, word_parts}
use Rattle.vc_trace.proofs.words.Words.next.Goals as goal

pub returns-clause-word : goal.returns-clause-word
returns-clause-word c = λ w ws is whole.
    let text = c.in-Some.text.now in
    let here = behind c.args.self.now.rest.now c.in-Some.field-0-0.now text (w ++ spaced ws) c.in-Some.ensures.cases.0 whole in
    let n = c.word_len.ensures in
    c.split_at.ensures.front ∙ (word_parts text c.word_len.result n.within n.before n.space w ws is here).0

pub returns-clause-rest : goal.returns-clause-rest
returns-clause-rest c = λ w ws is whole.
    let text = c.in-Some.text.now in
    let here = behind c.args.self.now.rest.now c.in-Some.field-0-0.now text (w ++ spaced ws) c.in-Some.ensures.cases.0 whole in
    let n = c.word_len.ensures in
    c.split_at.ensures.back ∙ (word_parts text c.word_len.result n.within n.before n.space w ws is here).1
