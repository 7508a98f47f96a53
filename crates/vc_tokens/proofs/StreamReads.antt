-- Streams read into packets, a token or a feed at a time.
use Rattle.std.proofs.Common.{◌≡◌, ℕ, ◌+◌, ◌≤◌, ◌<◌, List, [], ◌∷◌, ◌++◌, length, suc, take, drop, get_or, refl, sym, ap, ap₂, ◌∙◌, subst, arith, append-nil, append_assoc, length-append, take-append-drop, drop-cons}
use Rattle.std.specs.List.{AllByRecursion}
use Rattle.std.proofs.lemmas.List.{take_more, map-append}
use Rattle.vc_packets.specs.declared.mark.Mark.{Mark}
use Rattle.vc_packets.specs.declared.packet.Packet.{Packet}
use Rattle.vc_tokens.specs.declared.token.Token.{Token as CodeToken}
use Rattle.vc_tokens.specs.declared.token.Token.TheVariants as code
use Rattle.vc_tokens.specs.Assembly.{Assembly}
use Rattle.vc_tokens.specs.declared.refused.Why.{Why}
use Rattle.vc_tokens.specs.Decoding.{IsBreak, Breaks, ReadsOn}
use Rattle.vc_tokens.specs.Laws.{Feeds, stream}
use Rattle.vc_tokens.specs.CodeTokens.{token, tokens}
use Rattle.vc_tokens.specs.Tokens.{Token, Byte, EndMark, bytes, spelling, spellings, Spells, Whole}
use Rattle.vc_tokens.proofs.Spellings.{bytes-append, spellings-append, byte_spelled, mark_spelled, mark_in_bytes, first_packet}

all-append : {X : Type 0} (P : X → Type 0) (xs ys : List X) → AllByRecursion P xs → AllByRecursion P ys → AllByRecursion P (xs ++ ys)
all-append P [] ys a b = b
all-append P (x ∷ xs) ys a b = (a.0, all-append P xs ys a.1 b)

pub whole_start : (limit : ℕ) (rest : List ℕ) → length rest ≤ limit → Whole limit (bytes rest ++ []) [] rest
whole_start limit rest short = record { spells = append-nil (bytes rest); bodies = tt; rest_fits = short }

-- a byte more
pub whole_byte : (limit : ℕ) (ps : List Packet) (rest : List ℕ) (b : ℕ) → length rest < limit → ReadsOn limit ps rest (Byte b) ps (rest ++ b ∷ [])
whole_byte limit ps rest b room = λ ts w. record {
  spells = byte_spelled ts ps rest b w.spells;
  bodies = w.bodies;
  rest_fits = (let k = length-append rest (b ∷ []) in omega arith);
}

-- a mark more
pub whole_mark : (limit : ℕ) (ps : List Packet) (rest : List ℕ) (m : Mark) → ReadsOn limit ps rest (EndMark m) (ps ++ record { body = rest; mark = m } ∷ []) []
whole_mark limit ps rest m = λ ts w. record {
  spells = mark_spelled ts ps rest m w.spells;
  bodies = all-append (λ (p : Packet). length p.body ≤ limit) ps (record { body = rest; mark = m } ∷ []) w.bodies (w.rest_fits, tt);
  rest_fits = omega arith;
}

pub tokens-take : (ts : List CodeToken) (i : ℕ) (d : CodeToken) → i < length ts → tokens (take (i + 1) ts) ≡ tokens (take i ts) ++ token (get_or ts i d) ∷ []
tokens-take ts i d within = ap tokens (take_more ts i d within) ∙ map-append token (take i ts) (get_or ts i d ∷ [])

-- the byte at this place is encoded
pub byte_encoded : (spelled more : List CodeToken) (body : List ℕ) (i : ℕ) → i < length body → tokens spelled ≡ bytes (take i body) →
    more ≡ spelled ++ code.Byte (get_or body i 0) ∷ [] → tokens more ≡ bytes (take (i + 1) body)
byte_encoded spelled more body i within so_far is =
    let b = get_or body i 0 in
    ap tokens is ∙ map-append token spelled (code.Byte b ∷ []) ∙ ap (λ k. k ++ Byte b ∷ []) so_far
    ∙ sym (bytes-append (take i body) (b ∷ [])) ∙ ap bytes (sym (take_more body i 0 within))

-- a packet has ended
pub packet_read : (limit : ℕ) (ps more : List Packet) (old new : Assembly) (m : Mark) (t : Token) → t ≡ EndMark m →
    (more ≡ ps ++ record { body = old.passed; mark = m } ∷ []) × (new ≡ record old { passed = [] }) → ReadsOn limit ps old.passed t more new.passed
packet_read limit ps more old new m t is ended = rw (is, ended.0, ended.1) (whole_mark limit ps old.passed m)

-- the token at this place is read
pub token_read : (limit : ℕ) (start : List Token) (next : List CodeToken) (i : ℕ) (d : CodeToken) (ps qs : List Packet) (rest new : List ℕ) → i < length next →
    Whole limit (start ++ tokens (take i next)) ps rest → ReadsOn limit ps rest (token (get_or next i d)) qs new →
    Whole limit (start ++ tokens (take (i + 1) next)) qs new
token_read limit start next i d ps qs rest new within w on =
    let P : List Token → Type 0 = λ ts. Whole limit ts qs new in
    subst P (append_assoc start (tokens (take i next)) (token (get_or next i d) ∷ []) ∙ ap (λ k. start ++ k) (sym (tokens-take next i d within)))
    (on (start ++ tokens (take i next)) w)

split_at : (next : List CodeToken) (i : ℕ) (d : CodeToken) → i < length next → tokens next ≡ tokens (take i next) ++ token (get_or next i d) ∷ tokens (drop (suc i) next)
split_at next i d within =
    ap tokens (sym (take-append-drop i next)) ∙ map-append token (take i next) (drop i next) ∙ ap (λ k. tokens (take i next) ++ tokens k) (drop-cons next i d within)

-- the token at this place breaks the spelling
pub token_breaks : (limit : ℕ) (start : List Token) (next : List CodeToken) (i : ℕ) (d : CodeToken) (ps : List Packet) (rest : List ℕ) (why : Why) → i < length next →
    Whole limit (start ++ tokens (take i next)) ps rest → IsBreak limit rest (token (get_or next i d)) why → Breaks limit (start ++ tokens next) ps why
token_breaks limit start next i d ps rest why within w broken = record {
  good = start ++ tokens (take i next);
  bad = token (get_or next i d);
  later = tokens (drop (suc i) next);
  rest = rest;
  is = ap (λ k. start ++ k) (split_at next i d within) ∙ sym (append_assoc start (tokens (take i next)) (token (get_or next i d) ∷ tokens (drop (suc i) next)));
  whole = w;
  breaks = broken;
}

-- what is read of a front, and of what stands behind it
pub whole_join : (limit : ℕ) (ts us : List Token) (ps qs : List Packet) (between rest : List ℕ) → Whole limit ts ps between → Whole limit (bytes between ++ us) qs rest →
    Whole limit (ts ++ us) (ps ++ qs) rest
whole_join limit ts us ps qs between rest a b = record {
  spells = ap (λ k. k ++ us) a.spells ∙ append_assoc (spellings ps) (bytes between) us ∙ ap (λ k. spellings ps ++ k) b.spells
      ∙ sym (append_assoc (spellings ps) (spellings qs) (bytes rest)) ∙ ap (λ k. k ++ bytes rest) (sym (spellings-append ps qs));
  bodies = all-append (λ (p : Packet). length p.body ≤ limit) ps qs a.bodies b.bodies;
  rest_fits = b.rest_fits;
}

feeds_whole : (limit : ℕ) (rest : List ℕ) (feeds : List (List Token)) (packets : List Packet) (left : List ℕ) → length rest ≤ limit →
    Feeds limit rest feeds packets left → Whole limit (bytes rest ++ stream feeds) packets left
feeds_whole limit rest [] packets left short h =
    rw (h.0, h.1) (whole_start limit rest short)
feeds_whole limit rest (ts ∷ feeds) packets left short h =
    let now = h.0 in
    let later = h.1 in
    let between = h.2 in
    let first = h.3 in
    let others = feeds_whole limit between feeds later left first.rest_fits h.4 in
    let P : List Token → Type 0 = λ k. Whole limit k packets left in
    subst P (append_assoc (bytes rest) ts (stream feeds))
    (rw (h.5) (whole_join limit (bytes rest ++ ts) (stream feeds) now later between left first others))

-- feeds give the packets of the stream
pub cut_anyhow : (limit : ℕ) (feeds : List (List Token)) (packets : List Packet) (left : List ℕ) → Feeds limit [] feeds packets left → Whole limit (stream feeds) packets left
cut_anyhow limit feeds packets left h = feeds_whole limit [] feeds packets left (omega arith) h

bytes_same : (xs ys : List ℕ) → bytes xs ≡ bytes ys → xs ≡ ys
bytes_same [] [] e = refl
bytes_same [] (y ∷ ys) e = absurd cc
bytes_same (x ∷ xs) [] e = absurd cc
bytes_same (x ∷ xs) (y ∷ ys) e = let first : x ≡ y = cc in let t : bytes xs ≡ bytes ys = cc in ap₂ (λ z zs. z ∷ zs) first (bytes_same xs ys t)

-- a stream is read in one way
pub read_once : (ts : List Token) (ps qs : List Packet) (rest other : List ℕ) → Spells ts ps rest → Spells ts qs other → (ps ≡ qs) × (rest ≡ other)
read_once ts [] [] rest other e f = (refl, bytes_same rest other (sym e ∙ f))
read_once ts [] (q ∷ qs) rest other e f =
    absurd (mark_in_bytes q.body q.mark (spellings qs ++ bytes other) rest
    (sym (append_assoc (bytes q.body) (EndMark q.mark ∷ []) (spellings qs ++ bytes other)) ∙ sym (append_assoc (spelling q) (spellings qs) (bytes other)) ∙ sym f ∙ e))
read_once ts (p ∷ ps) qs rest other e f =
    let again = append_assoc (spelling p) (spellings ps) (bytes rest) ∙ append_assoc (bytes p.body) (EndMark p.mark ∷ []) (spellings ps ++ bytes rest) in
    let first = first_packet p.body p.mark (spellings ps ++ bytes rest) qs other (sym again ∙ sym e ∙ f) in
    let others = read_once (spellings ps ++ bytes rest) ps first.others rest other refl first.spells in
    (ap (λ k. p ∷ k) others.0 ∙ sym first.is, others.1)
