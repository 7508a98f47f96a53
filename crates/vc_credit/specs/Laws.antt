-- What the two ends of a way do, and that they keep the sum of credit.
use Rattle.std.specs.Prelude.{◌≡◌, ◌-◌, ◌<◌, List, [], ◌∷◌, ◌++◌}
use Rattle.vc_tokens.specs.Tokens.{Token, Fct, fcts, without_fcts}
use Rattle.vc_credit.specs.Ends.{Sender, Receiver, new_sender, new_receiver, credited, received, Passes, Grants}
use Rattle.vc_credit.specs.Credit.{IsUnderCredit}

-- a way: its ends, the wire back, and the wire forth
pub record Way : Type 0 where
  pub sender : Sender
  pub back : List Token
  pub wire : List Token
  pub receiver : Receiver

abbrev pub new_way : Way
new_way = record { sender = new_sender; back = []; wire = []; receiver = new_receiver }

-- a byte or an end mark, which needs a place
abbrev pub NeedsPlace : Token → Type 0
NeedsPlace k = without_fcts (k ∷ []) ≡ k ∷ []

-- One step: the sender puts a token under credit, the receiver takes it, passes one on or puts an FCT, the sender takes an FCT;
-- or something goes over the two wires that is not this way's.
pub data CreditStep (old new : Way) : Type 0 where
  puts : (k : Token) (sender : Sender) → NeedsPlace k → 0 < old.sender.credit → sender.credit ≡ old.sender.credit - 1 →
      new ≡ record old { sender = sender; wire = old.wire ++ k ∷ [] } → CreditStep old new
  takes : (k : Token) (rest : List Token) → NeedsPlace k → old.wire ≡ k ∷ rest →
      new ≡ record old { wire = rest; receiver = received old.receiver k } → CreditStep old new
  passes : (k : Token) (receiver : Receiver) → Passes old.receiver k receiver → new ≡ record old { receiver = receiver } → CreditStep old new
  puts_fct : (receiver : Receiver) → Grants old.receiver receiver → new ≡ record old { back = old.back ++ Fct ∷ []; receiver = receiver } → CreditStep old new
  takes_fct : (rest : List Token) → old.back ≡ Fct ∷ rest → new ≡ record old { sender = credited old.sender; back = rest } → CreditStep old new
  other : (back wire : List Token) → fcts back ≡ fcts old.back → without_fcts wire ≡ without_fcts old.wire →
      new ≡ record old { back = back; wire = wire } → CreditStep old new

-- steps from a new way to this one, the last state but one first
abbrev pub CreditRun : List Way → Way → Type 0
CreditRun [] w = w ≡ new_way
CreditRun (v ∷ before) w = CreditRun before v × CreditStep v w

-- whatever the two ends do, each token finds a place, and no FCT raises the credit past 16
abbrev pub CreditIsKept : Type 0
CreditIsKept = (before : List Way) (w : Way) → CreditRun before w → IsUnderCredit w.sender w.back w.wire w.receiver
