-- What state of the packet machine a state of the token machine stands for.
use Rattle.std.specs.Prelude.{◌≡◌, ℕ, ◌+◌, ◌*◌, ◌≤◌, List, length}
use Rattle.vc_tokens.specs.Tokens.{Token, without_fcts, fcts}
use Rattle.vc_credit.specs.Ends.{Sender}
use Rattle.vc_machine.specs.Links.{Receiver, Tokens}

-- the places promised are the credit, come or coming, and the tokens on the wire
pub record Promised (a : Sender) (back wire : List Token) (r : Receiver) : Type 0 where
  pub same : r.promised ≡ a.credit + 8 * fcts back + length (without_fcts wire)
  pub fits : length r.buffer + r.promised ≤ 16

-- each way's tokens are within their credit
pub record Credited (back : ℕ → ℕ) (t : Tokens) : Type 0 where
  pub each : (w : ℕ) → Promised (t.sender w) (t.wire (back w)) (t.wire w) (t.receiver w)
