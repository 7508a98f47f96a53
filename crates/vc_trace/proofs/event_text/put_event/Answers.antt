use Rattle.std.proofs.Common.{◌≡◌, ◌++◌, ◌∙◌, ℕ, List, Option, ap, sym, subst, codes, append_assoc}
use Rattle.std.proofs.lemmas.Result.{on_err_weaker, on_ok_weaker}
use Rattle.vc_core.specs.declared.event.Event.{Event}
use Rattle.vc_plan.specs.declared.plan.Plan.{Plan}
use Rattle.vc_text.specs.Streams.{AppendsFront}
use Rattle.vc_waits.specs.Waits.{newline}
use Rattle.vc_plan.specs.Names.{actor_name}
use Rattle.vc_trace.specs.EventText.{act_words, event_line, spaced}
use Rattle.vc_text.specs.Pieces.{Passes}
use Rattle.vc_text.proofs.TextWrites.{any_err, front_first, passes_front, passes_two}
use Rattle.vc_trace.proofs.event_text.put_event.Goals as goal

-- the parts of a line, as they are put
line_is : (p : Plan) (e : Event) → codes "event " ++ (actor_name p e.actor ++ (spaced (act_words p e.act) ++ newline)) ≡ event_line p e
line_is p e = ap (λ t. codes "event " ++ t) (sym (append_assoc (actor_name p e.actor) (spaced (act_words p e.act)) newline))

-- behind the name
named_is : (p : Plan) (e : Event) → (codes "event " ++ actor_name p e.actor) ++ (spaced (act_words p e.act) ++ newline) ≡ event_line p e
named_is p e = append_assoc (codes "event ") (actor_name p e.actor) (spaced (act_words p e.act) ++ newline) ∙ line_is p e

-- behind what the actor does
done_is : (p : Plan) (e : Event) → ((codes "event " ++ actor_name p e.actor) ++ spaced (act_words p e.act)) ++ newline ≡ event_line p e
done_is p e = append_assoc (codes "event " ++ actor_name p e.actor) (spaced (act_words p e.act)) newline ∙ named_is p e

fails_at : (old new : Option (List ℕ)) (held text line : List ℕ) → text ≡ line → AppendsFront old new (held ++ text) → AppendsFront old new (held ++ line)
fails_at old new held text line is front = subst (λ t. AppendsFront old new (held ++ t)) is front

pub returns-in_err-put-clause-err : goal.returns-in_err-put-clause-err
returns-in_err-put-clause-err g c =
    let p = c.args.plan.now in
    let e = c.args.event.now in
    any_err c.from_residual.result (fails_at _ _ _ _ _ (line_is p e)
    (front_first _ _ c.args.piece.now.items (codes "event ") (actor_name p e.actor ++ (spaced (act_words p e.act) ++ newline)) c.in_err-put.ensures.err))

pub returns-in_err-put-2-clause-err : goal.returns-in_err-put-2-clause-err
returns-in_err-put-2-clause-err g c =
    let p = c.args.plan.now in
    let e = c.args.event.now in
    any_err c.from_residual-in_err-put-2.result (fails_at _ _ _ _ _ (line_is p e)
    (passes_front _ _ _ c.args.piece.now.items _ (codes "event ") (actor_name p e.actor ++ (spaced (act_words p e.act) ++ newline)) c.in_ok-put.ensures.ok
    (front_first _ _ _ (actor_name p e.actor) (spaced (act_words p e.act) ++ newline) (rw (c.actor_name.ensures ∙ ap (λ k. actor_name p k) c.from.ensures) at c.in_err-put-2.ensures.err))))

-- the word `event` and the name were put
named : (p : Plan) (e : Event) (old mid new : Option (List ℕ)) (held left after name : List ℕ) → name ≡ actor_name p e.actor → Passes old held mid left (codes "event ") → Passes mid left new after name →
    Passes old held new after (codes "event " ++ actor_name p e.actor)
named p e old mid new held left after name is first then =
    passes_two old mid new held left after (codes "event ") (actor_name p e.actor) first (subst (Passes mid left new after) is then)

pub returns-in_err-put_act-clause-err : goal.returns-in_err-put_act-clause-err
returns-in_err-put_act-clause-err g c =
    let p = c.args.plan.now in
    let e = c.args.event.now in
    let front = named p e _ _ _ c.args.piece.now.items _ _ _ (c.actor_name.ensures ∙ ap (λ k. actor_name p k) c.from.ensures) c.in_ok-put.ensures.ok c.in_ok-put-2.ensures.ok in
    any_err c.from_residual-in_err-put_act.result (fails_at _ _ _ _ _ (named_is p e)
    (passes_front _ _ _ c.args.piece.now.items _ (codes "event " ++ actor_name p e.actor) (spaced (act_words p e.act) ++ newline) front
    (front_first _ _ _ (spaced (act_words p e.act)) newline c.in_err-put_act.ensures.err)))

pub returns-clause-ok : goal.returns-clause-ok
returns-clause-ok g c =
    let p = c.args.plan.now in
    let e = c.args.event.now in
    let held = c.args.piece.now.items in
    let front = named p e _ _ _ held _ _ _ (c.actor_name.ensures ∙ ap (λ k. actor_name p k) c.from.ensures) c.in_ok-put.ensures.ok c.in_ok-put-2.ensures.ok in
    let words = spaced (act_words p e.act) in
    let body = passes_two _ _ _ held _ _ (codes "event " ++ actor_name p e.actor) words front c.in_ok-put_act.ensures.ok in
    let old = g.W.Write.contents c.args.writer.now in
    let new = g.W.Write.contents c.put-3.new.writer in
    on_ok_weaker c.put-3.result (λ last. subst (Passes old held new c.put-3.new.piece.items) (done_is p e)
    (passes_two old _ new held _ _ ((codes "event " ++ actor_name p e.actor) ++ words) newline body last)) c.put-3.ensures.ok

pub returns-clause-err : goal.returns-clause-err
returns-clause-err g c =
    let p = c.args.plan.now in
    let e = c.args.event.now in
    let held = c.args.piece.now.items in
    let front = named p e _ _ _ held _ _ _ (c.actor_name.ensures ∙ ap (λ k. actor_name p k) c.from.ensures) c.in_ok-put.ensures.ok c.in_ok-put-2.ensures.ok in
    let words = spaced (act_words p e.act) in
    let body = passes_two _ _ _ held _ _ (codes "event " ++ actor_name p e.actor) words front c.in_ok-put_act.ensures.ok in
    on_err_weaker c.put-3.result (λ last. fails_at _ _ _ _ _ (done_is p e)
    (passes_front _ _ _ held _ ((codes "event " ++ actor_name p e.actor) ++ words) newline body last)) c.put-3.ensures.err
