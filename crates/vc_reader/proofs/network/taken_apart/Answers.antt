use Rattle.std.proofs.Common.{◌≡◌, ◌∙◌, ◌<◌, List, [], ◌∷◌, ◌++◌, length, length-append, sym, ap, append_assoc, reverse, arith}
use Rattle.std.proofs.lemmas.List.{append-nil, reverse-append}
use Rattle.vc_reader.proofs.network.taken_apart.Goals as goal

-- the last of what is left becomes the first of what is behind it
moved : {T : Type 0} (left rest back more all : List T) (x : T) → left ≡ rest ++ x ∷ [] → more ≡ back ++ x ∷ [] → left ++ reverse back ≡ all → rest ++ reverse more ≡ all
moved left rest back more all x l m r =
    ap (λ b. rest ++ reverse b) m ∙ ap (λ b. rest ++ b) (reverse-append back (x ∷ [])) ∙ sym (append_assoc rest (x ∷ []) (reverse back)) ∙ sym (ap (λ f. f ++ reverse back) l) ∙ r

pub loop-last-preserved : goal.loop-last-preserved
loop-last-preserved g c =
    moved c.loop-last.rest c.pop.new.self c.loop-last.backward.items c.push.new.self.items c.args.items c.in-Some.last c.in-Some.ensures c.in_ok-push.ensures.items c.loop-last.invariant

pub returns : goal.returns
returns g c = c.reverse.ensures.items ∙ sym (ap (λ f. f ++ reverse c.loop-last.backward.items) c.in_default.ensures.0) ∙ c.loop-last.invariant

begins : {T : Type 0} (items back : List T) → back ≡ [] → items ++ reverse back ≡ items
begins items back e = ap (λ b. items ++ reverse b) e ∙ append-nil items

shorter : {T : Type 0} (left rest : List T) (x : T) → left ≡ rest ++ x ∷ [] → length rest < length left
shorter left rest x e = omega (arith, ap length e, length-append rest (x ∷ []))

pub loop-last-init : goal.loop-last-init
loop-last-init g c = begins c.args.items c.new-backward.result.items c.new-backward.ensures.items

pub loop-last-smaller : goal.loop-last-smaller
loop-last-smaller g c = shorter c.loop-last.rest c.pop.new.self c.in-Some.last c.in-Some.ensures
