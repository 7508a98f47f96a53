-- The item that is seen is the item that is taken.
use Rattle.std.proofs.Common.{◌≡◌, ◌+◌, List, [], ◌∷◌, ◌++◌, inl, inr, refl, sym, subst, ap, max, ◌∙◌}
use Rattle.rtrb.specs.Ring.{known_items}
use Rattle.vc_network.specs.Actors.Label.{Takes}
use Rattle.vc_actor.specs.Acts.{MakesTake}
use Rattle.vc_tokens.specs.CodeTokens.{token}
use Rattle.vc_threads.specs.declared.link.Stamped.{Stamped}
use Rattle.vc_threads.specs.Runs.{StepsByLink}
use Rattle.vc_threads.proofs.Late.{greatest_of}
use Rattle.vc_threads.proofs.worker_state.take_front.Goals as goal

-- the front item is the first that is known
front_is : (x y : Stamped) (rest known after : List Stamped) → (x ∷ []) ++ rest ≡ known → known ≡ y ∷ after → x ≡ y
front_is x y rest known after p q = let e : x ∷ rest ≡ y ∷ after = p ∙ q in cc

pub returns-clause-ok : goal.returns-clause-ok
returns-clause-ok c = λ plan k of.
    let old = c.args.actor.now in
    let new = c.take.new.self in
    let link = c.args.end.now.0 in
    let x = c.pop_known.result in
    let f = c.peek_known-front.ensures in
    let r = c.pop_known.ensures.received in
    let same = front_is c.peek_known-front.result.now x f.0 (known_items c.args.end.now.1) (known_items c.pop_known.new.self) f.1 r.1 in
    let made : MakesTake plan k old link c.args.word (token x.item) new = subst (λ (v : Stamped). MakesTake plan k old link c.args.word (token v.item) new) same (c.in-Ok.ensures.ok plan k of) in
    record {
      item = x;
      act = c.in-Ok.ensures.act;
      step = subst (λ a. StepsByLink plan k old (Takes a link x.item) new) (sym c.in-Ok.ensures.act) (refl, made);
      stamp = c.in-Some.ensures ∙ ap (λ (v : Stamped). max c.args.clock v.at + 1) same;
      link = refl;
      ring = c.pop_known.ensures.ring;
      got = r.0;
      known = r.1;
    }

pub returns-in_default-clause-full : goal.returns-in_default-clause-full
returns-in_default-clause-full c = λ is.
    let front = c.peek_known-front.result.now in
    elim (greatest_of c.args.clock front.at c.in_default.ensures) [
      | inl own ↦ inl own
      | inr late ↦ inr (front, c.peek_known-front.ensures, late)
    ]
