use Rattle.std.proofs.Common.{◌<◌, sym, ◌∙◌, subst}
use Rattle.vc_text.proofs.DrawnEvents.{picks, something}
use Rattle.vc_text.proofs.draws.Draws.next_act.Goals as goal

pub drawn-place-requires : goal.drawn-place-requires
drawn-place-requires c =
    let acts = c.list_acts.new.acts in
    subst (λ n. 0 < n) (sym (c.len-many.ensures ∙ acts.ok.0)) (something acts.items (c.in_ok-list_acts.ensures.some c.requires))

pub returns : goal.returns
returns c = λ p is.
    let acts = c.list_acts.new.acts in
    let many = c.len-many.ensures ∙ acts.ok.0 in
    let place = c.drawn-place.ensures in (
      acts.items,
      c.in_ok-list_acts.ensures.acts p is,
      picks c.args.self.now.words acts.items c.len-many.result c.drawn-place.result c.index.result.now c.drawn-place.new.words many place.less place.place c.index.ensures place.next,
    )
