use Rattle.std.proofs.Common.{sym, refl, ◌∙◌, subst}
use Rattle.vc_core.specs.Choices.{AreReady, MayMakeOne}
use Rattle.vc_core.specs.State.{shown, state_of}
use Rattle.vc_core.proofs.ListedActs.{all_at}
use Rattle.vc_text.proofs.DrawnEvents.{nothing, picks, there}
use Rattle.vc_text.proofs.draws.Draws.next_actor.Goals as goal

pub returns-then-count-eq0-clause-draws : goal.returns-then-count-eq0-clause-draws
returns-then-count-eq0-clause-draws c = λ p is.
    let ready = c.list_ready.new.ready in
    let empty = nothing ready.items (sym ready.ok.0 ∙ sym c.len-count.ensures ∙ c.if-count-eq0.true) in
    (subst (AreReady p (shown (state_of c.args.network.now))) empty (c.in_ok-list_ready.ensures.ready p is), refl)

pub returns-clause-draws : goal.returns-clause-draws
returns-clause-draws c = λ p is.
    let ready = c.list_ready.new.ready in
    let many = c.len-count.ensures ∙ ready.ok.0 in
    let place = c.drawn-place.ensures in (
      ready.items,
      c.in_ok-list_ready.ensures.ready p is,
      picks c.args.self.now.words ready.items c.len-count.result c.drawn-place.result c.index.result.now c.drawn-place.new.words many place.less place.place c.index.ensures place.next,
    )

pub returns-clause-may : goal.returns-clause-may
returns-clause-may c = λ p is.
    let ready = c.list_ready.new.ready in
    let many = c.len-count.ensures ∙ ready.ok.0 in
    all_at (MayMakeOne (state_of c.args.network.now)) ready.items c.drawn-place.result c.index.result.now (c.in_ok-list_ready.ensures.may p is)
    (there ready.items c.len-count.result c.drawn-place.result c.index.result.now many c.drawn-place.ensures.less c.index.ensures)
