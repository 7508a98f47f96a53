use Rattle.std.proofs.Common.{[], ◌∷◌, ◌++◌, sym, ap, subst, ◌∙◌}
use Rattle.vc_actor.specs.declared.act.Act.TheVariants.{Proc}
use Rattle.vc_text.specs.EventLog.{Fit, events_of}
use Rattle.vc_text.specs.declared.entry.Brief.TheVariants as brief
use Rattle.vc_text.specs.declared.entry.Entry.{Entry}
use Rattle.vc_text.proofs.LogEntries.{fits_move, move_more}
use Rattle.vc_text.proofs.event_log.EventLog.enter_move.Goals as goal

pub invariant_of-self-in_default : goal.invariant_of-self-in_default
invariant_of-self-in_default c =
    let x = c.self.inside in
    let e : Entry = record { actor = c.args.actor; brief = brief.Move } in
    let fit = fits_move x.entries c.args.actor c.args.made x.words x.moves c.self.invariant in
    subst (λ es. Fit es x.words c.push.new.self) (sym c.in_default.ensures.ok) (subst (λ ms. Fit (x.entries ++ e ∷ []) x.words ms) (sym c.in_ok-push.ensures.ok) fit)

pub returns-clause-ok : goal.returns-clause-ok
returns-clause-ok c =
    let x = c.self.inside in
    let e : Entry = record { actor = c.args.actor; brief = brief.Move } in
    ap (λ es. events_of es x.words c.push.new.self) c.in_default.ensures.ok
    ∙ ap (λ ms. events_of (x.entries ++ e ∷ []) x.words ms) c.in_ok-push.ensures.ok
    ∙ move_more x.entries c.args.actor c.args.made x.words x.moves c.self.invariant
    ∙ ap (λ events. events ++ record { actor = c.args.actor; act = Proc c.args.made } ∷ []) c.self.view_is
