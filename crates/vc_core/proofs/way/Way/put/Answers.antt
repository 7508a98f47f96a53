use Rattle.std.proofs.Common.{◌≡◌, List, [], ◌∷◌, ◌++◌, ap, ◌∙◌}
use Rattle.std.proofs.lemmas.List.{map-append}
use Rattle.vc_tokens.specs.Tokens.{Token}
use Rattle.vc_tokens.specs.CodeTokens.{token, tokens}
use Rattle.vc_tokens.specs.declared.token.Token.{Token as Code}
use Rattle.vc_core.proofs.way.Way.put.Goals as goal

at_end : (xs ys zs : List Code) (t : Code) (ts : List Token) → zs ≡ ys ++ t ∷ [] → ys ≡ xs → tokens xs ≡ ts → tokens zs ≡ ts ++ token t ∷ []
at_end xs ys zs t ts more same shows = ap tokens (more ∙ ap (λ z. z ++ t ∷ []) same) ∙ map-append token xs (t ∷ []) ∙ ap (λ z. z ++ token t ∷ []) shows

pub returns-clause-ok : goal.returns-clause-ok
returns-clause-ok c = record {
  token = token c.put-token.result;
  ends = at_end c.self.inside.queue.items c.try_reserve.new.self.items c.push_back_reserved.new.self.items c.put-token.result c.args.self.now c.push_back_reserved.ensures.items c.in_ok-try_reserve.ensures.items c.self.view_is;
  puts = c.put-token.ensures;
}
