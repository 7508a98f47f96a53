use Rattle.std.proofs.Common.{◌≡◌, ◌∙◌, ◌+◌, ◌-◌, ◌<◌, ◌≤◌, ◌++◌, ℕ, zero, suc, refl, ap, sym, List, [], ◌∷◌, drop, take, length, get_or, arith, length-drop}
use Rattle.std.specs.Prelude.{slice_set}
use Rattle.std.proofs.lemmas.List.{get_or-drop}
use Rattle.vc_occam.specs.declared.moves.Move.{Move}
use Rattle.vc_occam.proofs.meetings.move_front.Goals as goal

-- one move more is written behind those that were moved
written : (p : ℕ) (moved whole : List Move) (m : Move) → p < length whole → p ≤ length moved → slice_set (take p moved ++ drop p whole) p m ≡ take p moved ++ m ∷ drop (suc p) whole
written p moved [] m less within = absurd (omega (arith, less))
written zero moved (w ∷ whole) m less within = refl
written (suc p) [] (w ∷ whole) m less within = absurd (omega (arith, within))
written (suc p) (x ∷ moved) (w ∷ whole) m less within = ap (λ xs. x ∷ xs) (written p moved whole m (omega (arith, less)) (omega (arith, within)))

-- and it is the next one
taken : (p : ℕ) (moved rest : List Move) (d : Move) → p < length moved → take p moved ++ get_or moved p d ∷ rest ≡ take (suc p) moved ++ rest
taken p [] rest d less = absurd (omega (arith, less))
taken zero (x ∷ moved) rest d less = refl
taken (suc p) (x ∷ moved) rest d less = ap (λ xs. x ∷ xs) (taken p moved rest d (omega (arith, less)))

-- behind what was moved all is as it was
behind : (p i : ℕ) (moved whole : List Move) (d : Move) → p ≤ i → p ≤ length moved → p < length whole → get_or (take p moved ++ drop p whole) i d ≡ get_or whole i d
behind p i moved [] d past within less = absurd (omega (arith, less))
behind zero i moved (w ∷ whole) d past within less = refl
behind (suc p) zero moved (w ∷ whole) d past within less = absurd (omega (arith, past))
behind (suc p) (suc i) [] (w ∷ whole) d past within less = absurd (omega (arith, within))
behind (suc p) (suc i) (x ∷ moved) (w ∷ whole) d past within less = behind p i moved whole d (omega (arith, past)) (omega (arith, within)) (omega (arith, less))

next : (p c : ℕ) (ms : List Move) (d : Move) → p + c < length ms → slice_set (take p (drop c ms) ++ drop p ms) p (get_or (take p (drop c ms) ++ drop p ms) (p + c) d) ≡ take (suc p) (drop c ms) ++ drop (suc p) ms
next p c ms d less =
    let n : length (drop c ms) ≡ length ms - c = length-drop c ms in
    let swap : p + c ≡ c + p = omega arith in
    written p (drop c ms) ms (get_or (take p (drop c ms) ++ drop p ms) (p + c) d) (omega (arith, less)) (omega (arith, less, n))
    ∙ (ap (λ (m : Move). take p (drop c ms) ++ m ∷ drop (suc p) ms) (behind p (p + c) (drop c ms) ms d (omega arith) (omega (arith, less, n)) (omega (arith, less)) ∙ (ap (λ (i : ℕ). get_or ms i d) swap ∙ sym (get_or-drop c ms p d)))
    ∙ taken p (drop c ms) (drop (suc p) ms) d (omega (arith, less, n)))

moved : (p c : ℕ) (ms found seen new : List Move) (d : Move) → p + c < length ms → found ≡ take p (drop c ms) ++ drop p ms → seen ≡ found → new ≡ slice_set found p (get_or seen (p + c) d) → new ≡ take (p + 1) (drop c ms) ++ drop (p + 1) ms
moved p c ms found seen new d less here same wrote =
    let one : suc p ≡ p + 1 = omega arith in
    wrote
    ∙ (ap (λ (xs : List Move). slice_set found p (get_or xs (p + c) d)) same
    ∙ (ap (λ (xs : List Move). slice_set xs p (get_or xs (p + c) d)) here
    ∙ (next p c ms d less ∙ ap (λ (n : ℕ). take n (drop c ms) ++ drop n ms) one)))

pub loop-place-preserved : goal.loop-place-preserved
loop-place-preserved c =
    let less = c.loop-place-test.true in
    let count = c.len.ensures in
    moved c.loop-place.place c.args.count c.args.found.now c.loop-place.found c.as_slice.result.now c.set.new.self _ (omega (arith, less, count, c.requires)) c.loop-place.invariant c.as_slice.ensures c.set.ensures
