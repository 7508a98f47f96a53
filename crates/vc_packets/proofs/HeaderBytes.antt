-- Headers as bytes.
use Rattle.std.proofs.Common.{◌≡◌, ℕ, ◌+◌, ◌/◌, ◌%◌, ◌^◌, ◌<◌, List, [], ◌∷◌, ◌++◌, length, take, get_or, refl, ap, ◌∙◌, arith}
use Rattle.std.specs.Int.{w16, to_be_bytes}
use Rattle.std.proofs.lemmas.List.{take_more}
use Rattle.vc_packets.specs.Headers.{spelled}

pub spelled-append : (hs more : List ℕ) → spelled (hs ++ more) ≡ spelled hs ++ spelled more
spelled-append [] more = refl
spelled-append (h ∷ hs) more = ap (λ bs. h / 256 ∷ h % 256 ∷ bs) (spelled-append hs more)

byte_pair : (h : ℕ) → h < 65536 → h / 256 ∷ h % 256 ∷ [] ≡ to_be_bytes w16 h
byte_pair h small = let high : h / 256 ≡ h / 256 ^ 1 % 256 = omega arith in λ i. high i ∷ h % 256 ∷ []

-- one header more
pub spelled_more : (route : List ℕ) (i : ℕ) → i < length route → get_or route i 0 < 65536 → spelled (take (i + 1) route) ≡ spelled (take i route) ++ to_be_bytes w16 (get_or route i 0)
spelled_more route i within small =
    ap spelled (take_more route i 0 within) ∙ spelled-append (take i route) (get_or route i 0 ∷ [])
    ∙ ap (λ bs. spelled (take i route) ++ bs) (byte_pair (get_or route i 0) small)
