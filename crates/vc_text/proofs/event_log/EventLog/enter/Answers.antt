use Rattle.std.proofs.Common.{[], ◌∷◌, ◌++◌, sym, ap, subst, ◌∙◌}
use Rattle.vc_text.specs.EventLog.{Fit, events_of, act_of}
use Rattle.vc_text.specs.declared.entry.Entry.{Entry}
use Rattle.vc_text.proofs.LogEntries.{fits_brief, brief_more}
use Rattle.vc_text.proofs.event_log.EventLog.enter.Goals as goal

pub invariant_of-self-2 : goal.invariant_of-self-2
invariant_of-self-2 c =
    let x = c.self.inside in
    let e : Entry = record { actor = c.args.actor; brief = c.args.brief } in
    subst (λ es. Fit es x.words x.moves) (sym c.in_ok-push.ensures.ok) (fits_brief x.entries e x.words x.moves c.self.invariant c.requires.words c.requires.moves)

pub returns-clause-ok : goal.returns-clause-ok
returns-clause-ok c =
    let x = c.self.inside in
    let e : Entry = record { actor = c.args.actor; brief = c.args.brief } in
    ap (λ es. events_of es x.words x.moves) c.in_ok-push.ensures.ok ∙ brief_more x.entries e x.words x.moves c.self.invariant
    ∙ ap (λ events. events ++ record { actor = c.args.actor; act = act_of c.args.brief [] [] } ∷ []) c.self.view_is
