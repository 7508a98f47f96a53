-- A text of some pieces.
use Rattle.std.proofs.Common.{◌≡◌, ◌+◌, ℕ, List, [], ◌∷◌, ◌++◌, append-nil, append_assoc, ap, sym, ◌∙◌, arith}
use Rattle.std.proofs.lemmas.List.Concat.{flat_map-append}
use Rattle.std.specs.List.{flat_map, range_with_len}
use Rattle.vc_text.proofs.Texts.{four_more}
use Rattle.vc_stats.proofs.Numbers.{range_more}

pub two_more : (t0 t1 t2 a b : List ℕ) → t1 ≡ t0 ++ a → t2 ≡ t1 ++ b → t2 ≡ t0 ++ (a ++ b)
two_more t0 t1 t2 a b e f = grind (arith, append_assoc)

-- the piece of the next number
pub next_of : (piece : ℕ → List ℕ) (t0 t1 t2 : List ℕ) (n : ℕ) → t1 ≡ t0 ++ flat_map piece (range_with_len 0 n) → t2 ≡ t1 ++ piece n → t2 ≡ t0 ++ flat_map piece (range_with_len 0 (n + 1))
next_of piece t0 t1 t2 n e f =
    two_more t0 t1 t2 (flat_map piece (range_with_len 0 n)) (piece n) e f
    ∙ ap (λ z. t0 ++ z) (sym (ap (flat_map piece) (range_more n) ∙ flat_map-append piece (range_with_len 0 n) (n ∷ []) ∙ ap (λ z. flat_map piece (range_with_len 0 n) ++ z) (append-nil (piece n))))

pub five_more : (t0 t1 t2 t3 t4 t5 a b c d e : List ℕ) → t1 ≡ t0 ++ a → t2 ≡ t1 ++ b → t3 ≡ t2 ++ c → t4 ≡ t3 ++ d → t5 ≡ t4 ++ e → t5 ≡ t0 ++ (a ++ b ++ c ++ d ++ e)
five_more t0 t1 t2 t3 t4 t5 a b c d e p q r s t = grind (arith, append_assoc)

pub eight_more : (t0 t1 t2 t3 t4 t5 t6 t7 t8 a b c d e f g h : List ℕ) → t1 ≡ t0 ++ a → t2 ≡ t1 ++ b → t3 ≡ t2 ++ c → t4 ≡ t3 ++ d → t5 ≡ t4 ++ e → t6 ≡ t5 ++ f → t7 ≡ t6 ++ g → t8 ≡ t7 ++ h →
    t8 ≡ t0 ++ (a ++ b ++ c ++ d ++ e ++ f ++ g ++ h)
eight_more t0 t1 t2 t3 t4 t5 t6 t7 t8 a b c d e f g h p q r s t u v w =
    four_more t4 t5 t6 t7 t8 e f g h t u v w
    ∙ ap (λ z. z ++ (e ++ f ++ g ++ h)) (four_more t0 t1 t2 t3 t4 a b c d p q r s)
    ∙ (let all : (t0 ++ (a ++ b ++ c ++ d)) ++ (e ++ f ++ g ++ h) ≡ t0 ++ (a ++ b ++ c ++ d ++ e ++ f ++ g ++ h) = grind (arith, append_assoc) in all)
