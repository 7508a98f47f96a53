-- The sum of credit: a way's tokens, wherever they are, and those that may still be sent, have places in its buffer.
use Rattle.std.specs.Prelude.{◌≡◌, ◌+◌, ◌*◌, ◌≤◌, ◌<◌, List, [], ◌∷◌, length}
use Rattle.vc_tokens.specs.Tokens.{Token, Fct, fcts, without_fcts}
use Rattle.vc_credit.specs.Ends.{Sender, Receiver}

-- a way with this sending end and this receiving end, and the tokens on the wire back and forth
pub record IsUnderCredit (a : Sender) (back wire : List Token) (r : Receiver) : Type 0 where
  pub within : a.credit + 8 * fcts back + length (without_fcts wire) + length r.buffer ≤ 16
  -- a token finds the place that was promised to it
  pub place : (k : Token) (rest : List Token) → without_fcts (k ∷ []) ≡ k ∷ [] → wire ≡ k ∷ rest → (0 < r.promised) × (length r.buffer < 16)
  -- an FCT finds a credit of at most 8
  pub low : (rest : List Token) → back ≡ Fct ∷ rest → a.credit ≤ 8
