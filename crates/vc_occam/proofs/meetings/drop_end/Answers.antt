use Rattle.std.proofs.Common.{◌≡◌, ◌∙◌, ◌+◌, ◌-◌, ◌<◌, ◌++◌, ℕ, zero, suc, refl, ap, sym, List, [], ◌∷◌, take, length, arith}
use Rattle.std.specs.Prelude.{MatchOption, Option, Some, None}
use Rattle.vc_occam.specs.declared.moves.Move.{Move}
use Rattle.vc_occam.proofs.meetings.drop_end.Goals as goal

-- without its last move the front of a list is one move shorter
shorter : (n : ℕ) (ms left : List Move) (m : Move) → n < length ms → take (suc n) ms ≡ left ++ m ∷ [] → left ≡ take n ms
shorter n [] left m less e = absurd (omega (arith, less))
shorter zero (x ∷ ms) [] m less e = refl
shorter zero (x ∷ ms) (y ∷ []) m less e = cc
shorter zero (x ∷ ms) (y ∷ (z ∷ left)) m less e = cc
shorter (suc n) (x ∷ []) left m less e = absurd (omega (arith, less))
shorter (suc n) (x ∷ (w ∷ ms)) [] m less e = cc
shorter (suc n) (x ∷ (w ∷ ms)) (y ∷ left) m less e =
    let head : x ≡ y = cc in
    let tail : take (suc n) (w ∷ ms) ≡ left ++ m ∷ [] = cc in
    let rest = shorter n (w ∷ ms) left m (omega (arith, less)) tail in
    cc

something : (n : ℕ) (ms : List Move) → n < length ms → take (suc n) ms ≡ [] → ⊥
something n [] less e = omega (arith, less)
something n (x ∷ ms) less e = cc

popped : (k : ℕ) (ms found new : List Move) (r : Option Move) → k < length ms → found ≡ take (length ms - k) ms → MatchOption r ((found ≡ []) × (new ≡ [])) (λ last. found ≡ new ++ last ∷ []) → new ≡ take (length ms - (k + 1)) ms
popped k ms found new r less here pops =
    let n = length ms - (k + 1) in
    let more : suc n ≡ length ms - k = omega (arith, less) in
    let all : take (suc n) ms ≡ found = ap (λ (i : ℕ). take i ms) more ∙ sym here in
    by_result n r all pops (omega (arith, less))
  where
    by_result : (n : ℕ) (r : Option Move) → take (suc n) ms ≡ found → MatchOption r ((found ≡ []) × (new ≡ [])) (λ last. found ≡ new ++ last ∷ []) → n < length ms → new ≡ take n ms
    by_result n None all pops within = absurd (something n ms within (all ∙ pops.0))
    by_result n (Some m) all pops within = shorter n ms new m within (all ∙ pops)

pub loop-done-preserved : goal.loop-done-preserved
loop-done-preserved c =
    let less = c.loop-done-test.true in
    popped c.loop-done._done c.args.found.now c.loop-done.found c.pop.new.self c.pop.result (omega (arith, less, c.requires)) c.loop-done.invariant c.pop.ensures
