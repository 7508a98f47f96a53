use Rattle.std.proofs.Common.{ℕ, Some, [], ap, ◌∙◌}
use Rattle.vc_occam.specs.declared.moves.Move.TheVariants as move
use Rattle.vc_trace.specs.EventText.{spaced}
use Rattle.vc_trace.specs.Private.Verbs.{move_word}
use Rattle.vc_trace.specs.declared.move_verb.MoveVerb.TheVariants.{Offer, Want, Choose, Stopch, Inner, Quiet}
use Rattle.vc_trace.proofs.Found.{neither}
use Rattle.vc_trace.proofs.Verbs.{choose_only, inner_only, move_begins, offer_only, quiet_only, stopch_only, verb_of_move, want_only, word_of_move, words_of_move}
use Rattle.vc_trace.proofs.event_line.move_of.Goals as goal
use Rattle.vc_core.proofs.Turns.{same_some}

pub returns-in_err-of : goal.returns-in_err-of
returns-in_err-of c = λ p named made is whole.
    let text = whole ∙ ap spaced (move_begins p made) in
    let word = word_of_move (verb_of_move made) in
    let verb = c.of.ensures (verb_of_move made) (c.next.ensures.word (move_word (verb_of_move made)) (words_of_move p made) word text) in
    absurd (neither c.of.result (verb_of_move made) c.in_err-of.was verb)

pub returns-in_err-site-in-Offer : goal.returns-in_err-site-in-Offer
returns-in_err-site-in-Offer c = λ p named made is whole.
    let text = whole ∙ ap spaced (move_begins p made) in
    let word = word_of_move (verb_of_move made) in
    let verb = c.of.ensures (verb_of_move made) (c.next.ensures.word (move_word (verb_of_move made)) (words_of_move p made) word text) in
    let rest = c.next.ensures.rest (move_word (verb_of_move made)) (words_of_move p made) word text in
    let same = same_some c.of.result (verb_of_move made) Offer verb (c.in_ok-of.was ∙ ap Some c.in-Offer.is) in
    offer_only p made c.from_residual-in_err-site-in-Offer.result c.next.new.self.rest.now same is rest
    (λ site chan half on here. absurd (neither c.place_in.result (site, chan) c.in_err-site-in-Offer.was (c.place_in.ensures p named site chan half on here)))

pub returns-in_ok-site-in-Offer : goal.returns-in_ok-site-in-Offer
returns-in_ok-site-in-Offer c = λ p named made is whole.
    let text = whole ∙ ap spaced (move_begins p made) in
    let word = word_of_move (verb_of_move made) in
    let verb = c.of.ensures (verb_of_move made) (c.next.ensures.word (move_word (verb_of_move made)) (words_of_move p made) word text) in
    let rest = c.next.ensures.rest (move_word (verb_of_move made)) (words_of_move p made) word text in
    let same = same_some c.of.result (verb_of_move made) Offer verb (c.in_ok-of.was ∙ ap Some c.in-Offer.is) in
    offer_only p made (Some (move.Offer c.in_ok-site-in-Offer.site c.in_ok-site-in-Offer.chan)) c.next.new.self.rest.now same is rest
    (λ site chan half on here. ap (λ (x : ℕ × ℕ). Some (move.Offer x.0 x.1)) (same_some c.place_in.result (c.in_ok-site-in-Offer.site, c.in_ok-site-in-Offer.chan) (site, chan) c.in_ok-site-in-Offer.was (c.place_in.ensures p named site chan half on here)))

pub returns-in_err-site-in-Want : goal.returns-in_err-site-in-Want
returns-in_err-site-in-Want c = λ p named made is whole.
    let text = whole ∙ ap spaced (move_begins p made) in
    let word = word_of_move (verb_of_move made) in
    let verb = c.of.ensures (verb_of_move made) (c.next.ensures.word (move_word (verb_of_move made)) (words_of_move p made) word text) in
    let rest = c.next.ensures.rest (move_word (verb_of_move made)) (words_of_move p made) word text in
    let same = same_some c.of.result (verb_of_move made) Want verb (c.in_ok-of.was ∙ ap Some c.in-Want.is) in
    want_only p made c.from_residual-in_err-site-in-Want.result c.next.new.self.rest.now same is rest
    (λ site chan half on here. absurd (neither c.place_in-in-Want.result (site, chan) c.in_err-site-in-Want.was (c.place_in-in-Want.ensures p named site chan half on here)))

pub returns-in_ok-site-in-Want : goal.returns-in_ok-site-in-Want
returns-in_ok-site-in-Want c = λ p named made is whole.
    let text = whole ∙ ap spaced (move_begins p made) in
    let word = word_of_move (verb_of_move made) in
    let verb = c.of.ensures (verb_of_move made) (c.next.ensures.word (move_word (verb_of_move made)) (words_of_move p made) word text) in
    let rest = c.next.ensures.rest (move_word (verb_of_move made)) (words_of_move p made) word text in
    let same = same_some c.of.result (verb_of_move made) Want verb (c.in_ok-of.was ∙ ap Some c.in-Want.is) in
    want_only p made (Some (move.Want c.in_ok-site-in-Want.site c.in_ok-site-in-Want.chan)) c.next.new.self.rest.now same is rest
    (λ site chan half on here. ap (λ (x : ℕ × ℕ). Some (move.Want x.0 x.1)) (same_some c.place_in-in-Want.result (c.in_ok-site-in-Want.site, c.in_ok-site-in-Want.chan) (site, chan) c.in_ok-site-in-Want.was (c.place_in-in-Want.ensures p named site chan half on here)))

pub returns-in-Choose : goal.returns-in-Choose
returns-in-Choose c = λ p named made is whole.
    let text = whole ∙ ap spaced (move_begins p made) in
    let word = word_of_move (verb_of_move made) in
    let verb = c.of.ensures (verb_of_move made) (c.next.ensures.word (move_word (verb_of_move made)) (words_of_move p made) word text) in
    let rest = c.next.ensures.rest (move_word (verb_of_move made)) (words_of_move p made) word text in
    let same = same_some c.of.result (verb_of_move made) Choose verb (c.in_ok-of.was ∙ ap Some c.in-Choose.is) in
    choose_only p made c.choice_in.result c.next.new.self.rest.now same is rest
    (λ site guard chan half other on here. c.choice_in.ensures p named site guard chan half other on here)

pub returns-in_err-site-in-Stopch : goal.returns-in_err-site-in-Stopch
returns-in_err-site-in-Stopch c = λ p named made is whole.
    let text = whole ∙ ap spaced (move_begins p made) in
    let word = word_of_move (verb_of_move made) in
    let verb = c.of.ensures (verb_of_move made) (c.next.ensures.word (move_word (verb_of_move made)) (words_of_move p made) word text) in
    let rest = c.next.ensures.rest (move_word (verb_of_move made)) (words_of_move p made) word text in
    let same = same_some c.of.result (verb_of_move made) Stopch verb (c.in_ok-of.was ∙ ap Some c.in-Stopch.is) in
    stopch_only p made c.from_residual-in_err-site-in-Stopch.result c.next.new.self.rest.now same is rest
    (λ site chan half on here. absurd (neither c.place_in-in-Stopch.result (site, chan) c.in_err-site-in-Stopch.was (c.place_in-in-Stopch.ensures p named site chan half on here)))

pub returns-in_ok-site-in-Stopch : goal.returns-in_ok-site-in-Stopch
returns-in_ok-site-in-Stopch c = λ p named made is whole.
    let text = whole ∙ ap spaced (move_begins p made) in
    let word = word_of_move (verb_of_move made) in
    let verb = c.of.ensures (verb_of_move made) (c.next.ensures.word (move_word (verb_of_move made)) (words_of_move p made) word text) in
    let rest = c.next.ensures.rest (move_word (verb_of_move made)) (words_of_move p made) word text in
    let same = same_some c.of.result (verb_of_move made) Stopch verb (c.in_ok-of.was ∙ ap Some c.in-Stopch.is) in
    stopch_only p made (Some (move.Stopch c.in_ok-site-in-Stopch.site c.in_ok-site-in-Stopch.chan)) c.next.new.self.rest.now same is rest
    (λ site chan half on here. ap (λ (x : ℕ × ℕ). Some (move.Stopch x.0 x.1)) (same_some c.place_in-in-Stopch.result (c.in_ok-site-in-Stopch.site, c.in_ok-site-in-Stopch.chan) (site, chan) c.in_ok-site-in-Stopch.was (c.place_in-in-Stopch.ensures p named site chan half on here)))

pub returns-in-Inner : goal.returns-in-Inner
returns-in-Inner c = λ p named made is whole.
    let text = whole ∙ ap spaced (move_begins p made) in
    let word = word_of_move (verb_of_move made) in
    let verb = c.of.ensures (verb_of_move made) (c.next.ensures.word (move_word (verb_of_move made)) (words_of_move p made) word text) in
    let rest = c.next.ensures.rest (move_word (verb_of_move made)) (words_of_move p made) word text in
    let same = same_some c.of.result (verb_of_move made) Inner verb (c.in_ok-of.was ∙ ap Some c.in-Inner.is) in
    inner_only p made c.meeting_in.result c.next.new.self.rest.now same is rest
    (λ sender receiver chan guard half other place on here. c.meeting_in.ensures p named sender receiver chan guard half other place on here)

pub returns-in_err-site-in-Quiet : goal.returns-in_err-site-in-Quiet
returns-in_err-site-in-Quiet c = λ p named made is whole.
    let text = whole ∙ ap spaced (move_begins p made) in
    let word = word_of_move (verb_of_move made) in
    let verb = c.of.ensures (verb_of_move made) (c.next.ensures.word (move_word (verb_of_move made)) (words_of_move p made) word text) in
    let rest = c.next.ensures.rest (move_word (verb_of_move made)) (words_of_move p made) word text in
    let same = same_some c.of.result (verb_of_move made) Quiet verb (c.in_ok-of.was ∙ ap Some c.in-Quiet.is) in
    quiet_only p made c.from_residual-in_err-site-in-Quiet.result c.next.new.self.rest.now same is rest
    (λ site is_one here. absurd (neither c.half_in.result site c.in_err-site-in-Quiet.was (c.half_in.ensures site [] is_one here).0))

pub returns-in_ok-site-in-Quiet : goal.returns-in_ok-site-in-Quiet
returns-in_ok-site-in-Quiet c = λ p named made is whole.
    let text = whole ∙ ap spaced (move_begins p made) in
    let word = word_of_move (verb_of_move made) in
    let verb = c.of.ensures (verb_of_move made) (c.next.ensures.word (move_word (verb_of_move made)) (words_of_move p made) word text) in
    let rest = c.next.ensures.rest (move_word (verb_of_move made)) (words_of_move p made) word text in
    let same = same_some c.of.result (verb_of_move made) Quiet verb (c.in_ok-of.was ∙ ap Some c.in-Quiet.is) in
    quiet_only p made (Some (move.Quiet c.in_ok-site-in-Quiet.site)) c.next.new.self.rest.now same is rest
    (λ site is_one here. ap (λ x. Some (move.Quiet x)) (same_some c.half_in.result c.in_ok-site-in-Quiet.site site c.in_ok-site-in-Quiet.was (c.half_in.ensures site [] is_one here).0))
