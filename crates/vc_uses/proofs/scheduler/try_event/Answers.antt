use Rattle.std.proofs.Common.{◌++◌, [], ◌∷◌, ap, subst, sym, ◌∙◌}
use Rattle.vc_core.specs.Replay.{Reached}
use Rattle.vc_core.specs.State.{state_of}
use Rattle.vc_uses.proofs.scheduler.try_event.Goals as goal

pub returns-in-Ok : goal.returns-in-Ok
returns-in-Ok c = λ p r.
    let s = state_of c.args.network.now in
    let t = state_of c.step.new.self in
    subst (λ es. Reached p es t) (sym (c.push_reserved.ensures.items ∙ ap (λ es. es ++ c.args.event.now ∷ []) c.in_ok-reserve.ensures.items))
    (c.events_lead_on.ensures.next p c.args.made.now.items c.args.event.now s t r (c.in-Ok.ensures.makes p r.is))
