-- Texts that are written one after another.
use Rattle.std.proofs.Common.{◌≡◌, ◌∙◌, List, ◌++◌, ap, append_assoc}

pub two_more : {A : Type 0} (o a b p q : List A) → p ≡ o ++ a → q ≡ p ++ b → q ≡ o ++ (a ++ b)
two_more o a b p q e f = f ∙ ap (λ xs. xs ++ b) e ∙ append_assoc o a b

pub three_more : {A : Type 0} (o a b c p q r : List A) → p ≡ o ++ a → q ≡ p ++ b → r ≡ q ++ c → r ≡ o ++ (a ++ (b ++ c))
three_more o a b c p q r e f g = two_more p b c q r f g ∙ ap (λ xs. xs ++ (b ++ c)) e ∙ append_assoc o a (b ++ c)
