use Rattle.std.proofs.Common.{◌∷◌, ◌∙◌, None, Some, ap, refl}
use Rattle.vc_actor.specs.declared.act.Act.{Act}
use Rattle.vc_plan.specs.Names.{actor_name}
use Rattle.vc_trace.specs.EventText.{act_words, spaced}
use Rattle.vc_trace.proofs.Found.{neither}
use Rattle.vc_trace.proofs.event_line.event_of.Goals as goal
use Rattle.vc_core.proofs.Turns.{same_some}

pub returns-in_err-words_of : goal.returns-in_err-words_of
returns-in_err-words_of c = λ p named event is whole.
    let text = spaced (actor_name p event.actor ∷ act_words p event.act) in
    absurd (neither None text refl (c.in_err-words_of.ensures text whole))

pub returns-in_err-actor : goal.returns-in_err-actor
returns-in_err-actor c = λ p named event is whole.
    let text = c.in_ok-words_of.ensures (spaced (actor_name p event.actor ∷ act_words p event.act)) whole in
    let rest = same_some (Some c.in_ok-words_of.field-0.now) c.in_ok-words_of.field-0.now (spaced (actor_name p event.actor ∷ act_words p event.act)) refl text in
    let actor = c.actor_in.ensures p named event.actor (act_words p event.act) is.0 rest in
    absurd (neither c.actor_in.result event.actor c.in_err-actor.was actor.0)

pub returns-in_err-act : goal.returns-in_err-act
returns-in_err-act c = λ p named event is whole.
    let text = c.in_ok-words_of.ensures (spaced (actor_name p event.actor ∷ act_words p event.act)) whole in
    let rest = same_some (Some c.in_ok-words_of.field-0.now) c.in_ok-words_of.field-0.now (spaced (actor_name p event.actor ∷ act_words p event.act)) refl text in
    let actor = c.actor_in.ensures p named event.actor (act_words p event.act) is.0 rest in
    absurd (neither c.act_of.result event.act c.in_err-act.was (c.act_of.ensures p named event.act is.1 actor.1))

pub returns : goal.returns
returns c = λ p named event is whole.
    let text = c.in_ok-words_of.ensures (spaced (actor_name p event.actor ∷ act_words p event.act)) whole in
    let rest = same_some (Some c.in_ok-words_of.field-0.now) c.in_ok-words_of.field-0.now (spaced (actor_name p event.actor ∷ act_words p event.act)) refl text in
    let actor = c.actor_in.ensures p named event.actor (act_words p event.act) is.0 rest in
    let act = same_some c.act_of.result c.in_ok-act.act event.act c.in_ok-act.was (c.act_of.ensures p named event.act is.1 actor.1) in
    let by = same_some c.actor_in.result c.in_ok-actor.actor event.actor c.in_ok-actor.was actor.0 in
    ap (λ k. Some (record { actor = k; act = c.in_ok-act.act })) by ∙ ap (λ (a : Act). Some (record { actor = event.actor; act = a })) act
