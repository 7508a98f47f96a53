-- The front of a buffer.
use Rattle.std.proofs.Common.{◌≡◌, List, [], ◌∷◌, Option, Some, None, MatchOption, refl, ap}
use Rattle.std.specs.Prelude.{slice_get}
use Rattle.vc_tokens.specs.declared.token.Token.{Token as CodeToken}
use Rattle.vc_tokens.specs.CodeTokens.{token, tokens}
use Rattle.vc_tokens.specs.Tokens.{Token}

pub front_is : (items : List CodeToken) (o : Option CodeToken) → o ≡ slice_get items 0 →
    MatchOption o (tokens items ≡ []) (λ front. (rest : List Token) × (tokens items ≡ token front ∷ rest))
front_is [] None e = refl
front_is [] (Some t) e = absurd cc
front_is (t ∷ ts) None e = absurd cc
front_is (t ∷ ts) (Some u) e = let same : t ≡ u = cc in (tokens ts, ap (λ k. token k ∷ tokens ts) same)
