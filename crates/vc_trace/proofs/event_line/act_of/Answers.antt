use Rattle.std.proofs.Common.{Some, [], ap, ◌∙◌}
use Rattle.vc_actor.specs.declared.act.Act.TheVariants as act
use Rattle.vc_trace.specs.EventText.{spaced}
use Rattle.vc_trace.specs.Private.Verbs.{verb_word}
use Rattle.vc_trace.specs.declared.verb.Verb.TheVariants.{Proc, Take, Put, Route, Fct, Pass}
use Rattle.vc_trace.proofs.Found.{mapped, neither}
use Rattle.vc_trace.proofs.Verbs.{act_begins, fct_only, pass_only, proc_only, put_only, route_only, take_only, verb_of, word_of, words_of}
use Rattle.vc_trace.proofs.event_line.act_of.Goals as goal
use Rattle.vc_core.proofs.Turns.{same_some}

pub returns-in_err-of : goal.returns-in_err-of
returns-in_err-of c = λ p named done is whole.
    let text = whole ∙ ap spaced (act_begins p done) in
    let word = word_of (verb_of done) in
    let verb = c.of.ensures (verb_of done) (c.next.ensures.word (verb_word (verb_of done)) (words_of p done) word text) in
    absurd (neither c.of.result (verb_of done) c.in_err-of.was verb)

pub returns-in-Proc : goal.returns-in-Proc
returns-in-Proc c = λ p named done is whole.
    let text = whole ∙ ap spaced (act_begins p done) in
    let word = word_of (verb_of done) in
    let verb = c.of.ensures (verb_of done) (c.next.ensures.word (verb_word (verb_of done)) (words_of p done) word text) in
    let rest = c.next.ensures.rest (verb_word (verb_of done)) (words_of p done) word text in
    let same = same_some c.of.result (verb_of done) Proc verb (c.in_ok-of.was ∙ ap Some c.in-Proc.is) in
    proc_only p done c.map.result c.next.new.self.rest.now same is rest
    (λ made ok here. mapped c.move_of.result c.map.result act.Proc made c.map.ensures.cases (c.move_of.ensures p named made ok here))

pub returns-in-Take : goal.returns-in-Take
returns-in-Take c = λ p named done is whole.
    let text = whole ∙ ap spaced (act_begins p done) in
    let word = word_of (verb_of done) in
    let verb = c.of.ensures (verb_of done) (c.next.ensures.word (verb_word (verb_of done)) (words_of p done) word text) in
    let rest = c.next.ensures.rest (verb_word (verb_of done)) (words_of p done) word text in
    let same = same_some c.of.result (verb_of done) Take verb (c.in_ok-of.was ∙ ap Some c.in-Take.is) in
    take_only p done c.take_in.result c.next.new.self.rest.now same is rest
    (λ link word byte long here. c.take_in.ensures link word byte long here)

pub returns-in_err-link-in-Put : goal.returns-in_err-link-in-Put
returns-in_err-link-in-Put c = λ p named done is whole.
    let text = whole ∙ ap spaced (act_begins p done) in
    let word = word_of (verb_of done) in
    let verb = c.of.ensures (verb_of done) (c.next.ensures.word (verb_word (verb_of done)) (words_of p done) word text) in
    let rest = c.next.ensures.rest (verb_word (verb_of done)) (words_of p done) word text in
    let same = same_some c.of.result (verb_of done) Put verb (c.in_ok-of.was ∙ ap Some c.in-Put.is) in
    put_only p done c.from_residual-in_err-link-in-Put.result c.next.new.self.rest.now same is rest
    (λ link is_one here. absurd (neither c.byte_in.result link c.in_err-link-in-Put.was (c.byte_in.ensures link [] is_one here).0))

pub returns-in_ok-link-in-Put : goal.returns-in_ok-link-in-Put
returns-in_ok-link-in-Put c = λ p named done is whole.
    let text = whole ∙ ap spaced (act_begins p done) in
    let word = word_of (verb_of done) in
    let verb = c.of.ensures (verb_of done) (c.next.ensures.word (verb_word (verb_of done)) (words_of p done) word text) in
    let rest = c.next.ensures.rest (verb_word (verb_of done)) (words_of p done) word text in
    let same = same_some c.of.result (verb_of done) Put verb (c.in_ok-of.was ∙ ap Some c.in-Put.is) in
    put_only p done (Some (act.Put c.in_ok-link-in-Put.link)) c.next.new.self.rest.now same is rest
    (λ link is_one here. ap (λ x. Some (act.Put x)) (same_some c.byte_in.result c.in_ok-link-in-Put.link link c.in_ok-link-in-Put.was (c.byte_in.ensures link [] is_one here).0))

pub returns-in-Route : goal.returns-in-Route
returns-in-Route c = λ p named done is whole.
    let text = whole ∙ ap spaced (act_begins p done) in
    let word = word_of (verb_of done) in
    let verb = c.of.ensures (verb_of done) (c.next.ensures.word (verb_word (verb_of done)) (words_of p done) word text) in
    let rest = c.next.ensures.rest (verb_word (verb_of done)) (words_of p done) word text in
    let same = same_some c.of.result (verb_of done) Route verb (c.in_ok-of.was ∙ ap Some c.in-Route.is) in
    route_only p done c.route_in.result c.next.new.self.rest.now same is rest
    (λ input output byte other here. c.route_in.ensures input output byte other here)

pub returns-in_err-link-in-Fct : goal.returns-in_err-link-in-Fct
returns-in_err-link-in-Fct c = λ p named done is whole.
    let text = whole ∙ ap spaced (act_begins p done) in
    let word = word_of (verb_of done) in
    let verb = c.of.ensures (verb_of done) (c.next.ensures.word (verb_word (verb_of done)) (words_of p done) word text) in
    let rest = c.next.ensures.rest (verb_word (verb_of done)) (words_of p done) word text in
    let same = same_some c.of.result (verb_of done) Fct verb (c.in_ok-of.was ∙ ap Some c.in-Fct.is) in
    fct_only p done c.from_residual-in_err-link-in-Fct.result c.next.new.self.rest.now same is rest
    (λ link is_one here. absurd (neither c.byte_in-in-Fct.result link c.in_err-link-in-Fct.was (c.byte_in-in-Fct.ensures link [] is_one here).0))

pub returns-in_ok-link-in-Fct : goal.returns-in_ok-link-in-Fct
returns-in_ok-link-in-Fct c = λ p named done is whole.
    let text = whole ∙ ap spaced (act_begins p done) in
    let word = word_of (verb_of done) in
    let verb = c.of.ensures (verb_of done) (c.next.ensures.word (verb_word (verb_of done)) (words_of p done) word text) in
    let rest = c.next.ensures.rest (verb_word (verb_of done)) (words_of p done) word text in
    let same = same_some c.of.result (verb_of done) Fct verb (c.in_ok-of.was ∙ ap Some c.in-Fct.is) in
    fct_only p done (Some (act.Fct c.in_ok-link-in-Fct.link)) c.next.new.self.rest.now same is rest
    (λ link is_one here. ap (λ x. Some (act.Fct x)) (same_some c.byte_in-in-Fct.result c.in_ok-link-in-Fct.link link c.in_ok-link-in-Fct.was (c.byte_in-in-Fct.ensures link [] is_one here).0))

pub returns-in_err-link-in-Pass : goal.returns-in_err-link-in-Pass
returns-in_err-link-in-Pass c = λ p named done is whole.
    let text = whole ∙ ap spaced (act_begins p done) in
    let word = word_of (verb_of done) in
    let verb = c.of.ensures (verb_of done) (c.next.ensures.word (verb_word (verb_of done)) (words_of p done) word text) in
    let rest = c.next.ensures.rest (verb_word (verb_of done)) (words_of p done) word text in
    let same = same_some c.of.result (verb_of done) Pass verb (c.in_ok-of.was ∙ ap Some c.in-Pass.is) in
    pass_only p done c.from_residual-in_err-link-in-Pass.result c.next.new.self.rest.now same is rest
    (λ link is_one here. absurd (neither c.byte_in-in-Pass.result link c.in_err-link-in-Pass.was (c.byte_in-in-Pass.ensures link [] is_one here).0))

pub returns-in_ok-link-in-Pass : goal.returns-in_ok-link-in-Pass
returns-in_ok-link-in-Pass c = λ p named done is whole.
    let text = whole ∙ ap spaced (act_begins p done) in
    let word = word_of (verb_of done) in
    let verb = c.of.ensures (verb_of done) (c.next.ensures.word (verb_word (verb_of done)) (words_of p done) word text) in
    let rest = c.next.ensures.rest (verb_word (verb_of done)) (words_of p done) word text in
    let same = same_some c.of.result (verb_of done) Pass verb (c.in_ok-of.was ∙ ap Some c.in-Pass.is) in
    pass_only p done (Some (act.Pass c.in_ok-link-in-Pass.link)) c.next.new.self.rest.now same is rest
    (λ link is_one here. ap (λ x. Some (act.Pass x)) (same_some c.byte_in-in-Pass.result c.in_ok-link-in-Pass.link link c.in_ok-link-in-Pass.was (c.byte_in-in-Pass.ensures link [] is_one here).0))
