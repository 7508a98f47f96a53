-- Spellings: of lists one after another, and what the first packet of a stream is.
use Rattle.std.proofs.Common.{◌≡◌, ℕ, ◌+◌, List, [], ◌∷◌, ◌++◌, refl, sym, ap, ap₂, ◌∙◌, arith, append-nil, append_assoc}
use Rattle.vc_packets.specs.declared.mark.Mark.{Mark}
use Rattle.vc_packets.specs.declared.packet.Packet.{Packet}
use Rattle.vc_tokens.specs.Tokens.{Token, Byte, Fct, EndMark, bytes, spelling, spellings, Spells, without_fcts, fcts}

pub bytes-append : (xs ys : List ℕ) → bytes (xs ++ ys) ≡ bytes xs ++ bytes ys
bytes-append [] ys = refl
bytes-append (x ∷ xs) ys = ap (λ k. Byte x ∷ k) (bytes-append xs ys)

pub spellings-append : (ps qs : List Packet) → spellings (ps ++ qs) ≡ spellings ps ++ spellings qs
spellings-append [] qs = refl
spellings-append (p ∷ ps) qs = ap (λ k. spelling p ++ k) (spellings-append ps qs) ∙ sym (append_assoc (spelling p) (spellings ps) (spellings qs))

pub without_fcts-append : (xs ys : List Token) → without_fcts (xs ++ ys) ≡ without_fcts xs ++ without_fcts ys
without_fcts-append [] ys = refl
without_fcts-append (Fct ∷ xs) ys = without_fcts-append xs ys
without_fcts-append (Byte b ∷ xs) ys = ap (λ k. Byte b ∷ k) (without_fcts-append xs ys)
without_fcts-append (EndMark m ∷ xs) ys = ap (λ k. EndMark m ∷ k) (without_fcts-append xs ys)

pub fcts-append : (xs ys : List Token) → fcts (xs ++ ys) ≡ fcts xs + fcts ys
fcts-append [] ys = omega arith
fcts-append (Fct ∷ xs) ys = omega (arith, fcts-append xs ys)
fcts-append (Byte b ∷ xs) ys = fcts-append xs ys
fcts-append (EndMark m ∷ xs) ys = fcts-append xs ys

-- a byte put goes to the rest
pub byte_spelled : (ts : List Token) (ps : List Packet) (rest : List ℕ) (b : ℕ) → Spells ts ps rest → Spells (ts ++ Byte b ∷ []) ps (rest ++ b ∷ [])
byte_spelled ts ps rest b e =
    ap (λ k. k ++ Byte b ∷ []) e ∙ append_assoc (spellings ps) (bytes rest) (Byte b ∷ []) ∙ ap (λ k. spellings ps ++ k) (sym (bytes-append rest (b ∷ [])))

-- a mark put makes the rest a packet
pub mark_spelled : (ts : List Token) (ps : List Packet) (rest : List ℕ) (m : Mark) → Spells ts ps rest → Spells (ts ++ EndMark m ∷ []) (ps ++ record { body = rest; mark = m } ∷ []) []
mark_spelled ts ps rest m e =
    let p : Packet = record { body = rest; mark = m } in
    ap (λ k. k ++ EndMark m ∷ []) e
    ∙ append_assoc (spellings ps) (bytes rest) (EndMark m ∷ [])
    ∙ sym (append-nil (spellings ps ++ spelling p))
    ∙ ap (λ k. k ++ []) (ap (λ k. spellings ps ++ k) (sym (append-nil (spelling p))) ∙ sym (spellings-append ps (p ∷ [])))

-- the first packet of a stream
pub record FirstPacket (body : List ℕ) (m : Mark) (xs : List Token) (ps : List Packet) (rest : List ℕ) : Type 0 where
  pub others : List Packet
  pub is : ps ≡ record { body = body; mark = m } ∷ others
  pub spells : Spells xs others rest

pub mark_in_bytes : (bs : List ℕ) (m : Mark) (xs : List Token) (cs : List ℕ) → bytes bs ++ EndMark m ∷ xs ≡ bytes cs → ⊥
mark_in_bytes [] m xs [] e = cc
mark_in_bytes [] m xs (c ∷ cs) e = cc
mark_in_bytes (b ∷ bs) m xs [] e = cc
mark_in_bytes (b ∷ bs) m xs (c ∷ cs) e = mark_in_bytes bs m xs cs (let t : bytes bs ++ EndMark m ∷ xs ≡ bytes cs = cc in t)

abbrev pub SameStart : List ℕ → Mark → List Token → List ℕ → Mark → List Token → Type 0
SameStart bs m xs cs n ys = (bs ≡ cs) × (m ≡ n) × (xs ≡ ys)

pub same_start : (bs : List ℕ) (m : Mark) (xs : List Token) (cs : List ℕ) (n : Mark) (ys : List Token) →
    bytes bs ++ EndMark m ∷ xs ≡ bytes cs ++ EndMark n ∷ ys → SameStart bs m xs cs n ys
same_start [] m xs [] n ys e = (refl, (cc), (cc))
same_start [] m xs (c ∷ cs) n ys e = absurd (cc)
same_start (b ∷ bs) m xs [] n ys e = absurd (cc)
same_start (b ∷ bs) m xs (c ∷ cs) n ys e =
    let bc : b ≡ c = cc in
    let t : bytes bs ++ EndMark m ∷ xs ≡ bytes cs ++ EndMark n ∷ ys = cc in
    let s = same_start bs m xs cs n ys t in
    (ap₂ (λ x y. x ∷ y) bc s.0, s.1, s.2)

pub first_packet : (body : List ℕ) (m : Mark) (xs : List Token) (ps : List Packet) (rest : List ℕ) →
    Spells (bytes body ++ EndMark m ∷ xs) ps rest → FirstPacket body m xs ps rest
first_packet body m xs [] rest e = absurd (mark_in_bytes body m xs rest e)
first_packet body m xs (p ∷ ps) rest e =
    let tail : List Token = spellings ps ++ bytes rest in
    let again : (bytes p.body ++ EndMark p.mark ∷ []) ++ spellings ps ++ bytes rest ≡ bytes p.body ++ EndMark p.mark ∷ tail =
    append_assoc (spelling p) (spellings ps) (bytes rest) ∙ append_assoc (bytes p.body) (EndMark p.mark ∷ []) tail in
    let s = same_start body m xs p.body p.mark tail (e ∙ again) in
    record { others = ps; is = λ i. record { body = sym s.0 i; mark = sym s.1 i } ∷ ps; spells = s.2 }
