-- What a decoder keeps between two feeds, and what a feed does. A token breaks the spelling of packets if it is a byte past the
-- limit, or an FCT.
use Rattle.std.specs.Prelude.{◌≡◌, ℕ, List, [], ◌∷◌, ◌++◌, length, Option, Some, None}
use Rattle.vc_packets.specs.declared.packet.Packet.{Packet}
use Rattle.vc_tokens.specs.declared.refused.Why.{Why}
use Rattle.vc_tokens.specs.declared.refused.Why.TheVariants.{TooLong, StrayFct, Memory}
use Rattle.vc_tokens.specs.Tokens.{Token, Byte, Fct, EndMark, bytes, Whole}

-- the bytes of a packet whose mark hasn't come, how many a packet may have, and what broke the spelling, once something has
pub record Decoding : Type 0 where
  pub rest : List ℕ
  pub limit : ℕ
  pub broken : Option Why

-- behind these bytes of a packet, the token breaks the spelling
abbrev pub IsBreak : ℕ → List ℕ → Token → Why → Type 0
IsBreak limit rest (Byte b) TooLong = length rest ≡ limit
IsBreak limit rest Fct StrayFct = Unit {0}
IsBreak limit rest (Byte b) StrayFct = ⊥
IsBreak limit rest (Byte b) Memory = ⊥
IsBreak limit rest Fct TooLong = ⊥
IsBreak limit rest Fct Memory = ⊥
IsBreak limit rest (EndMark m) why = ⊥

-- the first token that breaks the spelling stands behind these packets
pub record Breaks (limit : ℕ) (ts : List Token) (before : List Packet) (why : Why) : Type 0 where
  pub good : List Token
  pub bad : Token
  pub later : List Token
  pub rest : List ℕ
  pub is : ts ≡ good ++ bad ∷ later
  pub whole : Whole limit good before rest
  pub breaks : IsBreak limit rest bad why

-- whatever tokens spelled the old packets and bytes, with this token behind them they spell the new ones
abbrev pub ReadsOn : ℕ → List Packet → List ℕ → Token → List Packet → List ℕ → Type 0
ReadsOn limit old_packets old_rest t new_packets new_rest =
    (ts : List Token) → Whole limit ts old_packets old_rest → Whole limit (ts ++ t ∷ []) new_packets new_rest

-- the tokens, behind the bytes that were left before, spell these packets and the bytes that are left now
pub record IsRead (old : Decoding) (ts : List Token) (packets : List Packet) (new : Decoding) : Type 0 where
  pub going : old.broken ≡ None
  pub whole : Whole old.limit (bytes old.rest ++ ts) packets new.rest
  pub after : new ≡ record old { rest = new.rest }

-- A refusal: a token broke the spelling, now or at an earlier feed, or there was no memory.
pub data IsRefused (old : Decoding) (ts : List Token) (before : List Packet) (why : Why) (new : Decoding) : Type 0 where
  breaks : old.broken ≡ None → Breaks old.limit (bytes old.rest ++ ts) before why → new.limit ≡ old.limit → new.broken ≡ Some why → IsRefused old ts before why new
  broken_before : old.broken ≡ Some why → before ≡ [] → new ≡ old → IsRefused old ts before why new
  no_memory : old.broken ≡ None → why ≡ Memory → before ≡ [] → new ≡ old → IsRefused old ts before why new
