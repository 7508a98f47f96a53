-- The words of a line, taken apart.
use Rattle.std.proofs.Common.{◌≡◌, ◌<◌, ◌≤◌, ◌-◌, ◌==◌, ℕ, zero, suc, ◌+◌, List, [], ◌∷◌, ◌++◌, Bool, true, false, not, length, length-append, take, drop, get_or, subst, Option, Some, None, refl, ap, ◌∙◌, sym, arith}
use Rattle.std.specs.Option.{MatchOption, option_map}
use Rattle.std.specs.Str.{bytes_eq}
use Rattle.std.proofs.lemmas.Slice.Eq.{bytes_eq-Decides}
use Rattle.std.proofs.lemmas.Bool.{and_parts}
use Rattle.vc_waits.specs.Waits.{newline}
use Rattle.vc_trace.specs.EventText.{spaced}
use Rattle.vc_trace.specs.Private.Words.{IsWord}

-- no space
unspaced : (b : ℕ) → not (b == 32) ≡ true → b ≡ 32 → ⊥
unspaced b e is = let same : not (b == 32) ≡ not (32 == 32) = ap (λ n. not (n == 32)) is in cc

-- the first space of a word and what is behind it is behind the word
pub word_end : (w : List ℕ) (ws : List (List ℕ)) (n : ℕ) → IsWord w → n ≤ length (w ++ spaced ws) →
    ((k : ℕ) → k < n → get_or (w ++ spaced ws) k 0 ≡ 32 → ⊥) → (n < length (w ++ spaced ws) → get_or (w ++ spaced ws) n 0 ≡ 32) → n ≡ length w
word_end [] ws zero is within before space = refl
word_end [] [] (suc n) is within before space = absurd (omega (arith, within))
word_end [] (v ∷ vs) (suc n) is within before space = absurd (before 0 (omega arith) refl)
word_end (b ∷ bs) ws zero is within before space = absurd (unspaced b (and_parts _ _ is).0 (space (omega arith)))
word_end (b ∷ bs) ws (suc n) is within before space =
    ap suc (word_end bs ws n (and_parts _ _ is).1 (omega (arith, within)) (λ k less. before (suc k) (omega arith)) (λ less. space (omega arith)))

first_behind : (w r : List ℕ) → (take (length w) (w ++ r) ≡ w) × (drop (length w) (w ++ r) ≡ r)
first_behind [] r = (refl, refl)
first_behind (b ∷ bs) r = let p = first_behind bs r in (ap (λ t. b ∷ t) p.0, p.1)

pub behind : (line : List ℕ) (x : ℕ) (xs ys : List ℕ) → line ≡ x ∷ xs → line ≡ 32 ∷ ys → xs ≡ ys
behind line x xs ys p q = cc

-- what stands in front of the first space of a text, and behind it
pub word_parts : (text : List ℕ) (n : ℕ) → n ≤ length text → ((k : ℕ) → k < n → get_or text k 0 ≡ 32 → ⊥) → (n < length text → get_or text n 0 ≡ 32) →
    (w : List ℕ) (ws : List (List ℕ)) → IsWord w → text ≡ w ++ spaced ws → (take n text ≡ w) × (drop n text ≡ spaced ws)
word_parts text n within before space w ws is whole =
    let P : List ℕ → Type 0 = λ t. n ≤ length t → ((k : ℕ) → k < n → get_or t k 0 ≡ 32 → ⊥) → (n < length t → get_or t n 0 ≡ 32) → n ≡ length w in
    let at : P text = subst P (sym whole) (λ a b c. word_end w ws n is a b c) in
    let here : n ≡ length w = at within before space in
    rw (whole, here) (first_behind w (spaced ws))

-- a text of two parts, cut between them
pub begun : (xs ys line : List ℕ) (n : ℕ) → line ≡ xs ++ ys → n ≡ length xs → (take n line ≡ xs) × (drop n line ≡ ys)
begun xs ys line n whole is = rw (whole, is) (first_behind xs ys)

pub ended : (xs ys line : List ℕ) (n : ℕ) → line ≡ xs ++ ys → n ≡ length line - length ys → (take n line ≡ xs) × (drop n line ≡ ys)
ended xs ys line n whole is =
    let many : length line ≡ length xs + length ys = ap length whole ∙ length-append xs ys in
    begun xs ys line n whole (omega arith)

clash : (b : Bool) → b ≡ true → b ≡ false → ⊥
clash b p q = let e : true ≡ false = sym p ∙ q in absurd (cc)

-- a line without the newline at its end
pub at_end : (front line last : List ℕ) → front ++ newline ≡ line → last ≡ newline → bytes_eq (drop (length line - length last) line) last ≡ false → ⊥
at_end front line last whole is other =
    let cut = ended front newline line (length line - length last) (sym whole) (ap (λ t. length line - length t) is) in
    clash _ ((bytes_eq-Decides _ last).1 (cut.1 ∙ sym is)) other

pub before_end : (front line last : List ℕ) → front ++ newline ≡ line → last ≡ newline → take (length line - length last) line ≡ front
before_end front line last whole is = (ended front newline line (length line - length last) (sym whole) (ap (λ t. length line - length t) is)).0

-- and without what it begins with
pub behind_front : {A : Type 0} (now : A → List ℕ) (found : Option A) (front rest line first : List ℕ) → line ≡ front ++ rest → first ≡ front →
    MatchOption found (bytes_eq (take (length first) line) first ≡ false)
    (λ x. (bytes_eq (take (length first) line) first ≡ true) × (now x ≡ drop (length first) line) × (length (now x) + length first ≡ length line)) → option_map now found ≡ Some rest
behind_front now None front rest line first whole is cases =
    let cut = begun front rest line (length first) whole (ap length is) in
    absurd (clash _ ((bytes_eq-Decides _ first).1 (cut.0 ∙ sym is)) cases)
behind_front now (Some x) front rest line first whole is cases = ap Some (cases.1 ∙ (begun front rest line (length first) whole (ap length is)).1)
