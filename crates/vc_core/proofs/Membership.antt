-- Whether one of a list is such; and what is read from more tokens.
use Rattle.std.proofs.Common.{◌≡◌, ◌⊎◌, ◌↔◌, append_assoc, ℕ, zero, suc, ◌+◌, ◌*◌, ◌≤◌, ◌<◌, ◌==◌, Bool, true, false, IsTrue, List, [], ◌∷◌, ◌++◌, length, min, take, slice_get, Some, None, Result, Ok, Err, IsOk, OnOk, refl, sym, ap, ◌∙◌, subst, inl, inr, arith, if◌then◌else◌}
use Rattle.std.specs.List.{Contains}
use Rattle.std.proofs.lemmas.List.{map-append, take-append-le, take_all, length-take, length-append}
use Rattle.std.proofs.lemmas.List.Elements.{Contains-append_left, Contains-append_right}
use Rattle.std.proofs.Math.Nat.{min-eq_left, min-le_right}
use Rattle.std.proofs.lemmas.Bool.{cases_lt}
use Rattle.vc_packets.specs.declared.mark.Mark.{Mark}
use Rattle.vc_packets.specs.declared.packet.Packet.{Packet}
use Rattle.vc_tokens.specs.Tokens.{Token, Byte, Fct, EndMark}
use Rattle.vc_tokens.specs.CodeTokens.{token, tokens}
use Rattle.vc_tokens.specs.declared.token.Token.{Token as Code}
use Rattle.vc_machine.specs.Places.{OnWire, IsOf}
use Rattle.vc_machine.specs.PacketsOfTokens.{read}
use Rattle.vc_network.specs.Plan.{body_limit, net_of}
use Rattle.vc_plan.specs.declared.plan.Plan.{Plan}
use Rattle.vc_accepted.specs.NetworkOf.{network_of}
use Rattle.vc_process.proofs.Lists.{at_front, behind}
use Rattle.vc_core.specs.Private.Targets.{Has, IsOwned, HasRead, left}
use Rattle.vc_core.specs.declared.reader.Reader.{Reader}
use Rattle.vc_actor.proofs.Turns.{clash}

pub has_at : {X : Type 0} (B : X → Type 0) (xs : List X) (i : ℕ) (x : X) → slice_get xs i ≡ Some x → B x → Has B xs
has_at B [] i x e b = absurd (cc)
has_at B (y ∷ ys) zero x e b = let same : y ≡ x = cc in inl (subst B (sym same) b)
has_at B (y ∷ ys) (suc i) x e b = inr (has_at B ys i x e b)

pub has_none : {X : Type 0} (B : X → Type 0) (xs : List X) → ((i : ℕ) (x : X) → slice_get xs i ≡ Some x → B x → ⊥) → Has B xs → ⊥
has_none B [] none h = h
has_none B (y ∷ ys) none (inl b) = none 0 y refl b
has_none B (y ∷ ys) none (inr h) = has_none B ys (λ i x e b. none (suc i) x e b) h

pub has_left : {X : Type 0} (B : X → Type 0) (xs ys : List X) → Has B xs → Has B (xs ++ ys)
has_left B [] ys h = absurd h
has_left B (x ∷ xs) ys (inl b) = inl b
has_left B (x ∷ xs) ys (inr h) = inr (has_left B xs ys h)

pub has_right : {X : Type 0} (B : X → Type 0) (xs ys : List X) → Has B ys → Has B (xs ++ ys)
has_right B [] ys h = h
has_right B (x ∷ xs) ys h = inr (has_right B xs ys h)

pub has_either : {X : Type 0} (B : X → Type 0) (xs ys : List X) → Has B (xs ++ ys) → Has B xs ⊎ Has B ys
has_either B [] ys h = inr h
has_either B (x ∷ xs) ys (inl b) = inl (inl b)
has_either B (x ∷ xs) ys (inr h) = elim (has_either B xs ys h) [ inl a ↦ inl (inr a) | inr b ↦ inr b ]

-- what is read from more tokens is read, and left, behind what was left
pub read_more : (got : List ℕ) (ts us : List Token) → read got (ts ++ us) ≡ read got ts ++ read (left got ts) us
read_more got [] us = refl
read_more got (Byte b ∷ ts) us = read_more (got ++ b ∷ []) ts us
read_more got (EndMark m ∷ ts) us = ap (λ ps. record { body = got; mark = m } ∷ ps) (read_more [] ts us)
read_more got (Fct ∷ ts) us = read_more got ts us

pub left_more : (got : List ℕ) (ts us : List Token) → left got (ts ++ us) ≡ left (left got ts) us
left_more got [] us = refl
left_more got (Byte b ∷ ts) us = left_more (got ++ b ∷ []) ts us
left_more got (EndMark m ∷ ts) us = left_more [] ts us
left_more got (Fct ∷ ts) us = left_more got ts us

-- a test of the two parts of a list, of which the second is tested where the first fails
pub in_first : {X : Type 0} (B : X → Type 0) (xs ys : List X) (t : Bool) → t ≡ true → IsTrue t ↔ Has B xs → IsTrue t ↔ Has B (xs ++ ys)
in_first B xs ys t is_true first = ((λ h. has_left B xs ys (first.0 h)), (λ has. is_true))

pub in_second : {X : Type 0} (B : X → Type 0) (xs ys : List X) (t u : Bool) → t ≡ false → IsTrue t ↔ Has B xs → IsTrue u ↔ Has B ys → IsTrue u ↔ Has B (xs ++ ys)
in_second B xs ys t u is_false first second = (
  (λ h. has_right B xs ys (second.0 h)),
  (λ has. elim (has_either B xs ys has) [ inl a ↦ absurd (clash t is_false (first.1 a)) | inr b ↦ second.1 b ]),
)

-- a place in a list has one of its members
pub contains_at : {X : Type 0} (xs : List X) (i : ℕ) (x : X) → slice_get xs i ≡ Some x → Contains xs x
contains_at [] i x e = absurd (cc)
contains_at (y ∷ ys) zero x e = let same : y ≡ x = cc in subst (Contains (y ∷ ys)) same (at_front y ys)
contains_at (y ∷ ys) (suc i) x e = behind y ys x (contains_at ys i x e)

-- what holds of a success
pub of_ok : {X E A : Type 0} (r : Result X E) → IsOk r → OnOk r A → A
of_ok (Ok x) t h = h
of_ok (Err e) t h = absurd (cc)

-- what is kept of the bytes that come
pub kept_more : (got items : List ℕ) (b : ℕ) → items ≡ take 45 got → length items < 45 → items ++ b ∷ [] ≡ take 45 (got ++ b ∷ [])
kept_more got items b is few =
    let long = ap length is ∙ length-take 45 got in
    let short : length got < 45 = below (length got) (length items) long few in
    let count = length-append got (b ∷ []) in
    ap (λ z. z ++ b ∷ []) (is ∙ take_all 45 got (omega arith)) ∙ sym (take_all 45 (got ++ b ∷ []) (omega arith))
  where
    below : (n m : ℕ) → m ≡ min 45 n → m < 45 → n < 45
    below n m e h = elim (cases_lt n 45) [ inl k ↦ k | inr k ↦ absurd (let m_is = e ∙ min-eq_left (let a : 45 ≤ n = omega arith in a) in omega arith) ]

pub kept_same : (got items : List ℕ) (b : ℕ) → items ≡ take 45 got → 45 ≤ length items → items ≡ take 45 (got ++ b ∷ [])
kept_same got items b is many =
    let long = ap length is ∙ length-take 45 got in
    is ∙ sym (take-append-le 45 got (b ∷ []) (above (length got) (length items) long many))
  where
    above : (n m : ℕ) → m ≡ min 45 n → 45 ≤ m → 45 ≤ n
    above n m e h = elim (cases_lt n 45) [ inl k ↦ absurd (let less = min-le_right 45 n in omega arith) | inr k ↦ k ]

-- a packet of a network is kept whole
pub limit_small : (p : Plan) → body_limit (network_of p) ≤ 44
limit_small p = by_version (p.version == 1)
  where
    by_version : (b : Bool) → 2 * (if b then 4 else 6) + 32 ≤ 44
    by_version true = omega arith
    by_version false = omega arith

pub kept_whole : (p : Plan) (w : ℕ) (got : List ℕ) (m : Mark) → IsOwned (network_of p) (OnWire w, record { body = got; mark = m }) → take 45 got ≡ got
kept_whole p w got m owned =
    let small = limit_small p in
    let short : length got ≤ body_limit (network_of p) = owned.short in
    take_all 45 got (omega arith)

-- one packet more has been read
pub last_read : (p : Plan) (c w : ℕ) (ps : List Packet) (got : List ℕ) (m : Mark) (before last : Bool) → before ≡ false →
    (((q : Packet) → Contains ps q → IsOwned (network_of p) (OnWire w, q)) → IsTrue before ↔ Has (λ q. IsOf (net_of (network_of p)) w None q c) ps) →
    (IsOwned (network_of p) (OnWire w, record { body = take 45 got; mark = m }) → IsTrue last ↔ IsOf (net_of (network_of p)) w None (record { body = take 45 got; mark = m }) c) →
    ((q : Packet) → Contains (ps ++ record { body = got; mark = m } ∷ []) q → IsOwned (network_of p) (OnWire w, q)) →
    IsTrue last ↔ Has (λ q. IsOf (net_of (network_of p)) w None q c) (ps ++ record { body = got; mark = m } ∷ [])
last_read p c w ps got m before last is_false old new all =
    let q : Packet = record { body = got; mark = m } in
    let Its : Packet → Type 0 = λ q. IsOf (net_of (network_of p)) w None q c in
    let owned = all q (Contains-append_right ps (q ∷ []) q (at_front q [])) in
    let whole = kept_whole p w got m owned in
    let told : IsTrue last ↔ Its q = subst (λ z. IsOwned (network_of p) (OnWire w, record { body = z; mark = m }) → IsTrue last ↔ Its (record { body = z; mark = m })) whole new owned in
    in_second Its ps (q ∷ []) before last is_false (old (λ k h. all k (Contains-append_left ps (q ∷ []) k h))) ((λ t. inl (told.0 t)), (λ has. elim has [ inl b ↦ told.1 b | inr n ↦ absurd n ]))

pub read_already : (p : Plan) (c w : ℕ) (ps : List Packet) (q : Packet) (before : Bool) → before ≡ true →
    (((k : Packet) → Contains ps k → IsOwned (network_of p) (OnWire w, k)) → IsTrue before ↔ Has (λ k. IsOf (net_of (network_of p)) w None k c) ps) →
    ((k : Packet) → Contains (ps ++ q ∷ []) k → IsOwned (network_of p) (OnWire w, k)) → IsTrue true ↔ Has (λ q. IsOf (net_of (network_of p)) w None q c) (ps ++ q ∷ [])
read_already p c w ps q before is_true old all =
    ((λ t. has_left (λ q. IsOf (net_of (network_of p)) w None q c) ps (q ∷ []) ((old (λ k h. all k (Contains-append_left ps (q ∷ []) k h))).0 is_true)), (λ has. refl))

-- more tokens have been read
pub through_more : (p : Plan) (c w : ℕ) (ps : List Packet) (got : List ℕ) (ts us : List Token) (r : Reader) →
    HasRead p c w ((ps ++ read got ts) ++ read (left got ts) us) (left (left got ts) us) r → HasRead p c w (ps ++ read got (ts ++ us)) (left got (ts ++ us)) r
through_more p c w ps got ts us r h =
    let packets : (ps ++ read got ts) ++ read (left got ts) us ≡ ps ++ read got (ts ++ us) = append_assoc ps (read got ts) (read (left got ts) us) ∙ ap (λ qs. ps ++ qs) (sym (read_more got ts us)) in
    subst (λ bs. HasRead p c w (ps ++ read got (ts ++ us)) bs r) (sym (left_more got ts us)) (subst (λ qs. HasRead p c w qs (left (left got ts) us) r) packets h)

-- tokens in two parts have been read
pub through_both : (p : Plan) (c w : ℕ) (ps : List Packet) (got : List ℕ) (first second : List Code) (line : List Token) (r : Reader) → tokens (first ++ second) ≡ line →
    HasRead p c w ((ps ++ read got (tokens first)) ++ read (left got (tokens first)) (tokens second)) (left (left got (tokens first)) (tokens second)) r → HasRead p c w (ps ++ read got line) (left got line) r
through_both p c w ps got first second line r is h =
    subst (λ ts. HasRead p c w (ps ++ read got ts) (left got ts) r) (sym (map-append token first second) ∙ is) (through_more p c w ps got (tokens first) (tokens second) r h)
