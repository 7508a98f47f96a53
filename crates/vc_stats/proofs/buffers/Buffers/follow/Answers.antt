use Rattle.std.proofs.Common.{◌∙◌, sym, ap, arith}
use Rattle.std.proofs.lemmas.Bool.Decides.{nat_tests}
use Rattle.std.proofs.lemmas.Result.{on_ok_weaker}
use Rattle.std.proofs.lemmas.Option.{same_Some}
use Rattle.vc_core.specs.Links.{buffered_in}
use Rattle.vc_core.specs.State.{event_of, shown, state_of}
use Rattle.vc_stats.proofs.Acts.{buffers_by}
use Rattle.vc_stats.proofs.RunStates.{buffers_hold, buffers_still}
use Rattle.vc_stats.proofs.buffers.Buffers.follow.Goals as goal

pub returns-in_default : goal.returns-in_default
returns-in_default c = λ p xs s are many made.
    let e = c.args.event.now in
    buffers_still p c.args.self.now xs (shown s) (shown (state_of c.args.network.now)) (event_of e) are made.happens (λ l less is. c.in_default.not-Some l (c.buffer_of.ensures ∙ sym (buffers_by e.act) ∙ is))

pub returns-then-from-ge-LINKS : goal.returns-then-from-ge-LINKS
returns-then-from-ge-LINKS c = λ p xs s are many made.
    let e = c.args.event.now in
    let from = c.from.ensures in
    let past = c.if-from-ge-LINKS.true in
    buffers_still p c.args.self.now xs (shown s) (shown (state_of c.args.network.now)) (event_of e) are made.happens (λ l less is.
    let same = same_Some c.in-Some.link l (c.in-Some.ensures ∙ sym (buffers_by e.act) ∙ is) in grind (arith, nat_tests))

pub returns : goal.returns
returns c = on_ok_weaker c.hold.result (λ after p xs s are many made.
    let e = c.args.event.now in
    let y = shown (state_of c.args.network.now) in
    buffers_hold p c.args.self.now c.hold.new.self xs (shown s) y (event_of e) c.in-Some.link c.buffered-tokens.result c.args.before are made.happens (buffers_by e.act ∙ sym c.in-Some.ensures)
    (c.buffered-tokens.ensures ∙ ap (λ k. buffered_in y k c.in-Some.link) c.from-2.ensures) many after) c.hold.ensures
