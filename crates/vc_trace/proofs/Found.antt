-- What a search has found, and what two tests say.
use Rattle.std.proofs.Common.{◌≡◌, ◌∙◌, Option, Some, None, ap, refl, MatchOption}
use Rattle.std.specs.Option.{IsSomeAnd}
use Rattle.vc_core.proofs.Turns.{same_some}

pub neither : {A : Type 0} (found : Option A) (x : A) → found ≡ None → found ≡ Some x → ⊥
neither (Some y) x p q = let e : Some y ≡ None = p in absurd (cc)
neither None x p q = let e : None ≡ Some x = q in absurd (cc)

-- what is made of what was found
pub mapped : {A B : Type 0} (found : Option A) (made : Option B) (f : A → B) (x : A) → MatchOption found (made ≡ None) (λ y. IsSomeAnd made (λ z. z ≡ f y)) → found ≡ Some x → made ≡ Some (f x)
mapped None made f x cases is = absurd (neither None x refl is)
mapped (Some y) (Some z) f x cases is = ap Some (cases ∙ ap f (same_some (Some y) y x refl is))
mapped (Some y) None f x cases is = absurd cases
