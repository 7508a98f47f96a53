-- Tokens, and how packets are spelled in them ("Networks, Routers and Transputers", chapter 2): a byte token for each byte of the
-- packet's body, then its end mark.
use Rattle.std.specs.Prelude.{◌≡◌, ℕ, suc, ◌≤◌, List, [], ◌∷◌, ◌++◌, length, Option, Some, None}
use Rattle.std.specs.List.{AllByRecursion}
use Rattle.vc_packets.specs.declared.mark.Mark.{Mark}
use Rattle.vc_packets.specs.declared.packet.Packet.{Packet}

-- a token: a byte, a flow control token, or an end mark, EOP or EOM
pub data Token : Type 0 where
  Byte : (byte : ℕ) → Token
  Fct : Token
  EndMark : (mark : Mark) → Token

-- bytes as tokens
abbrev pub bytes : List ℕ → List Token
bytes [] = []
bytes (b ∷ bs) = Byte b ∷ bytes bs

-- a packet's spelling: its body's bytes, then its mark
abbrev pub spelling : Packet → List Token
spelling p = bytes p.body ++ EndMark p.mark ∷ []

abbrev pub spellings : List Packet → List Token
spellings [] = []
spellings (p ∷ ps) = spelling p ++ spellings ps

-- the tokens are the spellings of these packets, in order, and then bytes only
abbrev pub Spells : List Token → List Packet → List ℕ → Type 0
Spells ts ps rest = ts ≡ spellings ps ++ bytes rest

-- no body is longer than the limit
pub record Whole (limit : ℕ) (ts : List Token) (ps : List Packet) (rest : List ℕ) : Type 0 where
  pub spells : Spells ts ps rest
  pub bodies : AllByRecursion (λ p. length p.body ≤ limit) ps
  pub rest_fits : length rest ≤ limit

-- what a wire carries besides flow control
abbrev pub without_fcts : List Token → List Token
without_fcts [] = []
without_fcts (Fct ∷ ts) = without_fcts ts
without_fcts (Byte b ∷ ts) = Byte b ∷ without_fcts ts
without_fcts (EndMark m ∷ ts) = EndMark m ∷ without_fcts ts

abbrev pub fcts : List Token → ℕ
fcts [] = 0
fcts (Fct ∷ ts) = suc (fcts ts)
fcts (Byte b ∷ ts) = fcts ts
fcts (EndMark m ∷ ts) = fcts ts

-- the mark that is still to come, if it is
abbrev pub last_mark : Option Mark → List Token
last_mark None = []
last_mark (Some m) = EndMark m ∷ []
