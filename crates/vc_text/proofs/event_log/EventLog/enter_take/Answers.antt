use Rattle.std.proofs.Common.{[], ◌∷◌, ◌++◌, sym, ap, subst, ◌∙◌}
use Rattle.vc_actor.specs.declared.act.Act.TheVariants.{Take}
use Rattle.vc_text.specs.EventLog.{Fit, events_of}
use Rattle.vc_text.specs.declared.entry.Brief.TheVariants as brief
use Rattle.vc_text.specs.declared.entry.Entry.{Entry}
use Rattle.vc_text.proofs.LogEntries.{fits_word, word_more}
use Rattle.vc_text.proofs.event_log.EventLog.enter_take.Goals as goal

pub invariant_of-self-in_default : goal.invariant_of-self-in_default
invariant_of-self-in_default c =
    let x = c.self.inside in
    let e : Entry = record { actor = c.args.actor; brief = brief.Take c.args.link } in
    let fit = fits_word x.entries c.args.actor c.args.link c.args.word x.words x.moves c.self.invariant in
    subst (λ es. Fit es c.push.new.self x.moves) (sym c.in_default.ensures.ok) (subst (λ ws. Fit (x.entries ++ e ∷ []) ws x.moves) (sym c.in_ok-push.ensures.ok) fit)

pub returns-clause-ok : goal.returns-clause-ok
returns-clause-ok c =
    let x = c.self.inside in
    let e : Entry = record { actor = c.args.actor; brief = brief.Take c.args.link } in
    ap (λ es. events_of es c.push.new.self x.moves) c.in_default.ensures.ok
    ∙ ap (λ ws. events_of (x.entries ++ e ∷ []) ws x.moves) c.in_ok-push.ensures.ok
    ∙ word_more x.entries c.args.actor c.args.link c.args.word x.words x.moves c.self.invariant
    ∙ ap (λ events. events ++ record { actor = c.args.actor; act = Take c.args.link c.args.word } ∷ []) c.self.view_is
