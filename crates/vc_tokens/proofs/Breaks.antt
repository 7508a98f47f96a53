-- A stream is read, or it breaks the spelling at one place.
use Rattle.std.proofs.Common.{◌≡◌, ◌⊎◌, ℕ, ◌<◌, ◌≤◌, List, [], ◌∷◌, ◌++◌, length, refl, sym, ap, ◌∙◌, subst, arith, append-nil, append_assoc, inl, inr}
use Rattle.std.proofs.lemmas.Bool.{cases_lt}
use Rattle.std.specs.List.{AllByRecursion}
use Rattle.vc_packets.specs.declared.mark.Mark.{Mark}
use Rattle.vc_packets.specs.declared.packet.Packet.{Packet}
use Rattle.vc_tokens.specs.declared.refused.Why.{Why}
use Rattle.vc_tokens.specs.declared.refused.Why.TheVariants.{TooLong, StrayFct, Memory}
use Rattle.vc_tokens.specs.Decoding.{IsBreak, Breaks}
use Rattle.vc_tokens.specs.Laws.{Feeds, stream, IsWhole, IsBroken}
use Rattle.vc_tokens.specs.Tokens.{Token, Byte, Fct, EndMark, bytes, spelling, spellings, Whole}
use Rattle.vc_tokens.proofs.Spellings.{first_packet}
use Rattle.vc_tokens.proofs.StreamReads.{read_once, whole_start, whole_byte, whole_mark, whole_join, cut_anyhow}

-- what stands behind the front of a stream that is read
record Behind (limit : ℕ) (rest : List ℕ) (us : List Token) (left : List ℕ) : Type 0 where
  packets : List Packet
  whole : Whole limit (bytes rest ++ us) packets left

-- a stream's spelling, its first packet apart
first_apart : (p : Packet) (ts us : List Token) → (spelling p ++ ts) ++ us ≡ bytes p.body ++ EndMark p.mark ∷ (ts ++ us)
first_apart p ts us = append_assoc (spelling p) ts us ∙ append_assoc (bytes p.body) (EndMark p.mark ∷ []) (ts ++ us)

behind : (limit : ℕ) (ps : List Packet) (rest : List ℕ) (us : List Token) (qs : List Packet) (left : List ℕ) →
    Whole limit ((spellings ps ++ bytes rest) ++ us) qs left → Behind limit rest us left
behind limit [] rest us qs left w = record { packets = qs; whole = w }
behind limit (p ∷ ps) rest us qs left w =
    let xs : List Token = (spellings ps ++ bytes rest) ++ us in
    let again : (spellings (p ∷ ps) ++ bytes rest) ++ us ≡ bytes p.body ++ EndMark p.mark ∷ xs =
    ap (λ k. k ++ us) (append_assoc (spelling p) (spellings ps) (bytes rest)) ∙ first_apart p (spellings ps ++ bytes rest) us in
    let first = first_packet p.body p.mark xs qs left (sym again ∙ w.spells) in
    let P : List Packet → Type 0 = λ ks. AllByRecursion (λ k. length k.body ≤ limit) ks in
    let bodies = subst P first.is w.bodies in
    behind limit ps rest us first.others left (record { spells = first.spells; bodies = bodies.1; rest_fits = w.rest_fits })

-- what stands behind bytes in a stream that is read: nothing more, or a mark
data Tail : Type 0 where
  over : Tail
  marked : (m : Mark) (xs : List Token) → Tail

abbrev tail_of : Tail → List Token
tail_of over = []
tail_of (marked m xs) = EndMark m ∷ xs

no_fct : (rest bs : List ℕ) (more : List Token) (t : Tail) → bytes rest ++ Fct ∷ more ≡ bytes bs ++ tail_of t → ⊥
no_fct [] [] more over e = cc
no_fct [] [] more (marked m xs) e = cc
no_fct [] (c ∷ cs) more t e = cc
no_fct (r ∷ rs) [] more over e = cc
no_fct (r ∷ rs) [] more (marked m xs) e = cc
no_fct (r ∷ rs) (c ∷ cs) more t e = no_fct rs cs more t (let k : bytes rs ++ Fct ∷ more ≡ bytes cs ++ tail_of t = cc in k)

byte_within : (rest bs : List ℕ) (b : ℕ) (more : List Token) (t : Tail) → bytes rest ++ Byte b ∷ more ≡ bytes bs ++ tail_of t → length rest < length bs
byte_within [] [] b more over e = absurd cc
byte_within [] [] b more (marked m xs) e = absurd cc
byte_within [] (c ∷ cs) b more t e = omega arith
byte_within (r ∷ rs) [] b more over e = absurd cc
byte_within (r ∷ rs) [] b more (marked m xs) e = absurd cc
byte_within (r ∷ rs) (c ∷ cs) b more t e =
    let k = byte_within rs cs b more t (let k : bytes rs ++ Byte b ∷ more ≡ bytes cs ++ tail_of t = cc in k) in omega arith

-- no token that breaks the spelling stands in a stream that is read
unbroken : (limit : ℕ) (rest : List ℕ) (bad : Token) (more : List Token) (why : Why) (qs : List Packet) (left : List ℕ) →
    Whole limit (bytes rest ++ bad ∷ more) qs left → IsBreak limit rest bad why → ⊥
unbroken limit rest (EndMark m) more why qs left w h = absurd h
unbroken limit rest (Byte b) more StrayFct qs left w h = absurd h
unbroken limit rest (Byte b) more Memory qs left w h = absurd h
unbroken limit rest (Byte b) more TooLong [] left w h =
    let k = byte_within rest left b more over (w.spells ∙ sym (append-nil (bytes left))) in let f = w.rest_fits in omega arith
unbroken limit rest (Byte b) more TooLong (q ∷ qs) left w h =
    let k = byte_within rest q.body b more (marked q.mark (spellings qs ++ bytes left)) (w.spells ∙ first_apart q (spellings qs) (bytes left)) in
    let f = w.bodies.0 in omega arith
unbroken limit rest Fct more TooLong qs left w h = absurd h
unbroken limit rest Fct more Memory qs left w h = absurd h
unbroken limit rest Fct more StrayFct [] left w h = no_fct rest left more over (w.spells ∙ sym (append-nil (bytes left)))
unbroken limit rest Fct more StrayFct (q ∷ qs) left w h =
    no_fct rest q.body more (marked q.mark (spellings qs ++ bytes left)) (w.spells ∙ first_apart q (spellings qs) (bytes left))

-- a stream that is read doesn't go on past a break
not_past : (limit : ℕ) (good : List Token) (bad : Token) (more : List Token) (before qs : List Packet) (rest left : List ℕ) (why : Why) →
    Whole limit good before rest → IsBreak limit rest bad why → Whole limit (good ++ bad ∷ more) qs left → ⊥
not_past limit good bad more before qs rest left why a h w =
    let P : List Token → Type 0 = λ ts. Whole limit (ts ++ bad ∷ more) qs left in
    let b = behind limit before rest (bad ∷ more) qs left (subst P a.spells w) in
    unbroken limit rest bad more why b.packets left b.whole h

pub read_unbroken : (limit : ℕ) (ts : List Token) (ps before : List Packet) (rest : List ℕ) (why : Why) → Whole limit ts ps rest → Breaks limit ts before why → ⊥
read_unbroken limit ts ps before rest why w b =
    let P : List Token → Type 0 = λ k. Whole limit k ps rest in
    not_past limit b.good b.bad b.later before ps b.rest rest why b.whole b.breaks (subst P b.is w)

-- how two fronts of one list stand to one another
data Meeting (good : List Token) (bad : Token) (other : List Token) (bad2 : Token) : Type 0 where
  same : good ≡ other → bad ≡ bad2 → Meeting good bad other bad2
  shorter : (more : List Token) → other ≡ good ++ bad ∷ more → Meeting good bad other bad2
  longer : (more : List Token) → good ≡ other ++ bad2 ∷ more → Meeting good bad other bad2

onward : (g : Token) (good : List Token) (bad : Token) (other : List Token) (bad2 : Token) → Meeting good bad other bad2 → Meeting (g ∷ good) bad (g ∷ other) bad2
onward g good bad other bad2 (same e f) = same (ap (λ k. g ∷ k) e) f
onward g good bad other bad2 (shorter more e) = shorter more (ap (λ k. g ∷ k) e)
onward g good bad other bad2 (longer more e) = longer more (ap (λ k. g ∷ k) e)

meet : (good : List Token) (bad : Token) (later other : List Token) (bad2 : Token) (later2 : List Token) → good ++ bad ∷ later ≡ other ++ bad2 ∷ later2 →
    Meeting good bad other bad2
meet [] bad later [] bad2 later2 e = same refl (cc)
meet [] bad later (h ∷ hs) bad2 later2 e = shorter hs (let k : h ≡ bad = cc in ap (λ x. x ∷ hs) k)
meet (g ∷ gs) bad later [] bad2 later2 e = longer gs (let k : g ≡ bad2 = cc in ap (λ x. x ∷ gs) k)
meet (g ∷ gs) bad later (h ∷ hs) bad2 later2 e =
    let first : g ≡ h = cc in
    let rest : gs ++ bad ∷ later ≡ hs ++ bad2 ∷ later2 = cc in
    let P : Token → Type 0 = λ x. Meeting (g ∷ gs) bad (x ∷ hs) bad2 in
    subst P first (onward g gs bad hs bad2 (meet gs bad later hs bad2 later2 rest))

why_same : (limit : ℕ) (rest : List ℕ) (bad : Token) (why other : Why) → IsBreak limit rest bad why → IsBreak limit rest bad other → why ≡ other
why_same limit rest (EndMark m) why other h k = absurd h
why_same limit rest (Byte b) StrayFct other h k = absurd h
why_same limit rest (Byte b) Memory other h k = absurd h
why_same limit rest (Byte b) TooLong StrayFct h k = absurd k
why_same limit rest (Byte b) TooLong Memory h k = absurd k
why_same limit rest (Byte b) TooLong TooLong h k = refl
why_same limit rest Fct TooLong other h k = absurd h
why_same limit rest Fct Memory other h k = absurd h
why_same limit rest Fct StrayFct TooLong h k = absurd k
why_same limit rest Fct StrayFct Memory h k = absurd k
why_same limit rest Fct StrayFct StrayFct h k = refl

broken_by : (limit : ℕ) (ts : List Token) (ps qs : List Packet) (why other : Why) (a : Breaks limit ts ps why) (b : Breaks limit ts qs other) →
    Meeting a.good a.bad b.good b.bad → (ps ≡ qs) × (why ≡ other)
broken_by limit ts ps qs why other a b (same good bad) =
    let read = read_once a.good ps qs a.rest b.rest a.whole.spells (good ∙ b.whole.spells) in
    let P : Token → Type 0 = λ k. IsBreak limit b.rest k other in
    let Q : List ℕ → Type 0 = λ k. IsBreak limit k a.bad other in
    (read.0, why_same limit a.rest a.bad why other a.breaks (subst Q (sym read.1) (subst P (sym bad) b.breaks)))
broken_by limit ts ps qs why other a b (shorter more e) =
    let P : List Token → Type 0 = λ k. Whole limit k qs b.rest in
    absurd (not_past limit a.good a.bad more ps qs a.rest b.rest why a.whole a.breaks (subst P e b.whole))
broken_by limit ts ps qs why other a b (longer more e) =
    let P : List Token → Type 0 = λ k. Whole limit k ps a.rest in
    absurd (not_past limit b.good b.bad more qs ps b.rest a.rest other b.whole b.breaks (subst P e a.whole))

pub broken_once : (limit : ℕ) (ts : List Token) (ps qs : List Packet) (why other : Why) → Breaks limit ts ps why → Breaks limit ts qs other → (ps ≡ qs) × (why ≡ other)
broken_once limit ts ps qs why other a b = broken_by limit ts ps qs why other a b (meet a.good a.bad a.later b.good b.bad b.later (sym a.is ∙ b.is))

-- what stands behind a front that is read goes on to be read, or breaks
read_on : (limit : ℕ) (front : List Token) (ps : List Packet) (rest : List ℕ) (ts : List Token) → Whole limit front ps rest → IsWhole limit (front ++ ts) ⊎ IsBroken limit (front ++ ts)
read_on limit front ps rest [] w = inl (subst (IsWhole limit) (sym (append-nil front)) (ps, rest, w))
read_on limit front ps rest (Fct ∷ ts) w = inr (ps, StrayFct, record { good = front; bad = Fct; later = ts; rest = rest; is = refl; whole = w; breaks = tt })
read_on limit front ps rest (EndMark m ∷ ts) w =
    subst (λ k. IsWhole limit k ⊎ IsBroken limit k) (append_assoc front (EndMark m ∷ []) ts)
    (read_on limit (front ++ EndMark m ∷ []) (ps ++ record { body = rest; mark = m } ∷ []) [] ts (whole_mark limit ps rest m front w))
read_on limit front ps rest (Byte b ∷ ts) w = elim (cases_lt (length rest) limit) [
  | inl room ↦ subst (λ k. IsWhole limit k ⊎ IsBroken limit k) (append_assoc front (Byte b ∷ []) ts)
      (read_on limit (front ++ Byte b ∷ []) ps (rest ++ b ∷ []) ts (whole_byte limit ps rest b room front w))
  | inr full ↦ inr (ps, TooLong, record { good = front; bad = Byte b; later = ts; rest = rest; is = refl; whole = w; breaks = (let fits = w.rest_fits in omega (arith, full, fits)) })
]

pub read_or_broken : (limit : ℕ) (ts : List Token) → IsWhole limit ts ⊎ IsBroken limit ts
read_or_broken limit ts = read_on limit [] [] [] ts (whole_start limit [] (omega arith))

-- where a token of two lists stands: in the first, or in the second
data Side (xs ts good : List Token) (bad : Token) (later : List Token) : Type 0 where
  inside : (more : List Token) → xs ≡ good ++ bad ∷ more → Side xs ts good bad later
  beyond : (gs : List Token) → good ≡ xs ++ gs → ts ≡ gs ++ bad ∷ later → Side xs ts good bad later

side-next : (x : Token) (xs ts good : List Token) (bad : Token) (later : List Token) → Side xs ts good bad later → Side (x ∷ xs) ts (x ∷ good) bad later
side-next x xs ts good bad later (inside more e) = inside more (ap (λ k. x ∷ k) e)
side-next x xs ts good bad later (beyond gs e f) = beyond gs (ap (λ k. x ∷ k) e) f

side : (xs ts good : List Token) (bad : Token) (later : List Token) → xs ++ ts ≡ good ++ bad ∷ later → Side xs ts good bad later
side [] ts good bad later e = beyond good refl e
side (x ∷ xs) ts [] bad later e = inside xs (let k : x ≡ bad = cc in ap (λ k. k ∷ xs) k)
side (x ∷ xs) ts (g ∷ gs) bad later e =
    let first : x ≡ g = cc in
    let rest : xs ++ ts ≡ gs ++ bad ∷ later = cc in
    subst (λ k. Side (x ∷ xs) ts (k ∷ gs) bad later) first (side-next x xs ts gs bad later (side xs ts gs bad later rest))

-- a break of the last feed is one of the stream: what was left before it does not break
cut_at : (limit : ℕ) (front ts : List Token) (packets before : List Packet) (left : List ℕ) (why : Why) → Whole limit front packets left →
    (b : Breaks limit (bytes left ++ ts) before why) → Side (bytes left) ts b.good b.bad b.later → Breaks limit (front ++ ts) (packets ++ before) why
cut_at limit front ts packets before left why w b (inside more e) =
    let read : Whole limit (bytes left) [] left = record { spells = refl; bodies = tt; rest_fits = w.rest_fits } in
    let broken : Breaks limit (bytes left) before why =
    record { good = b.good; bad = b.bad; later = more; rest = b.rest; is = e; whole = b.whole; breaks = b.breaks } in
    absurd (read_unbroken limit (bytes left) [] before left why read broken)
cut_at limit front ts packets before left why w b (beyond gs e f) =
    let P : List Token → Type 0 = λ k. Whole limit k before b.rest in
    record {
      good = front ++ gs;
      bad = b.bad;
      later = b.later;
      rest = b.rest;
      is = ap (λ k. front ++ k) f ∙ sym (append_assoc front gs (b.bad ∷ b.later));
      whole = whole_join limit front gs packets before left b.rest w (subst P e b.whole);
      breaks = b.breaks;
    }

pub cut_broken : (limit : ℕ) (feeds : List (List Token)) (ts : List Token) (packets before : List Packet) (left : List ℕ) (why : Why) →
    Feeds limit [] feeds packets left → Breaks limit (bytes left ++ ts) before why → Breaks limit (stream feeds ++ ts) (packets ++ before) why
cut_broken limit feeds ts packets before left why f b =
    cut_at limit (stream feeds) ts packets before left why (cut_anyhow limit feeds packets left f) b (side (bytes left) ts b.good b.bad b.later b.is)
