use Rattle.std.proofs.Common.{◌≡◌, List, [], ◌∷◌, ◌++◌, map, ap, sym, ◌∙◌, append_assoc}
use Rattle.std.proofs.lemmas.List.{map-append}
use Rattle.vc_threads.specs.Private.Order.{actor_left, outs_left, ins_left, log_left}
use Rattle.vc_threads.proofs.order.all_parts.Goals as goal

-- what is read of one item more joins what was read of those before it
joined : {V A B : Type 0} (g : V → B) (f : A → B) (done pushed : List V) (x : V) (a : A) (rest rest' : List A) (all : List B) →
    pushed ≡ done ++ x ∷ [] → g x ≡ f a → rest ≡ a ∷ rest' → map g done ++ map f rest ≡ all → map g pushed ++ map f rest' ≡ all
joined g f done pushed x a rest rest' all more same steps before =
    ap (λ ys. map g ys ++ map f rest') more ∙ ap (λ ys. ys ++ map f rest') (map-append g done (x ∷ []))
    ∙ append_assoc (map g done) (g x ∷ []) (map f rest') ∙ ap (λ y. map g done ++ y ∷ map f rest') same ∙ ap (λ ys. map g done ++ map f ys) (sym steps) ∙ before

-- the same, where the items themselves are kept
kept : {A B : Type 0} (f : A → B) (done pushed : List B) (x : B) (a : A) (rest rest' : List A) (all : List B) →
    pushed ≡ done ++ x ∷ [] → x ≡ f a → rest ≡ a ∷ rest' → done ++ map f rest ≡ all → pushed ++ map f rest' ≡ all
kept f done pushed x a rest rest' all more same steps before =
    ap (λ ys. ys ++ map f rest') more ∙ append_assoc done (x ∷ []) (map f rest') ∙ ap (λ y. done ++ y ∷ map f rest') same ∙ ap (λ ys. done ++ map f ys) (sym steps) ∙ before

pub loop-run-preserved : goal.loop-run-preserved
loop-run-preserved g c =
    let inv = c.loop-run.invariant in
    let steps = c.in-Some.ensures.steps.0 in
    let parts = c.parts_of-actor.ensures in
    record {
      actors = kept actor_left _ _ _ _ _ _ _ c.in_ok-push.ensures.items (ap (λ p. p.0) parts) steps inv.actors;
      outs = joined _ outs_left _ _ _ _ _ _ _ c.in_ok-push-2.ensures.items (ap (λ p. p.1.outs.items) parts) steps inv.outs;
      ins = joined _ ins_left _ _ _ _ _ _ _ c.in_ok-push-3.ensures.items (ap (λ p. p.1.ins.items) parts) steps inv.ins;
      logs = kept log_left _ _ _ _ _ _ _ c.in_ok-push-4.ensures.items (ap (λ p. p.2) parts) steps inv.logs;
    }
