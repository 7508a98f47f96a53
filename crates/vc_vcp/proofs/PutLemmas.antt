-- A put of the next byte of the front packet, or of its mark.
use Rattle.std.proofs.Common.{◌≡◌, ◌≢◌, ℕ, zero, suc, ◌+◌, ◌-◌, ◌<◌, ◌≤◌, List, [], ◌∷◌, ◌++◌, length, take, drop, refl, sym, ap, ◌∙◌, subst, arith, get_or, slice_get, ◌==◌, Bool, true, false, IsTrue, ◌↔◌, Option, Some, None}
use Rattle.std.specs.Bool.{OnTrue}
use Rattle.std.proofs.lemmas.Bool.{ne_eqb}
use mathlib.Core.Bool.{not}
use Rattle.std.proofs.Math.Seq.{take-suc, drop-cons}
use Rattle.std.proofs.lemmas.List.{take-append-drop}
use Rattle.std.proofs.lemmas.Option.{slice_get_within, get_or_from_slice_get}
use Rattle.vc_packets.specs.declared.packet.Packet.{Packet}
use Rattle.vc_tokens.specs.Tokens.{Token, Byte, EndMark}
use Rattle.vc_credit.specs.Ends.{puts_byte, puts_mark}
use Rattle.vc_vcp.specs.LinkOut.{Sending, sent_of, IsWithinFront}
use Rattle.vc_vcp.specs.Private.LinkOut.{queue_after, PutsFront, CanPutFront}

-- the bytes before the n-th, that byte, and those behind it
split_at : (body : List ℕ) (n b : ℕ) → slice_get body n ≡ Some b → body ≡ take n body ++ b ∷ drop (suc n) body
split_at body n b e =
    let less = slice_get_within body n b e in
    let is = get_or_from_slice_get body n b 0 e in
    sym (take-append-drop n body) ∙ ap (λ k. take n body ++ k) (drop-cons body n 0 less ∙ ap (λ k. k ∷ drop (suc n) body) is)

one_more : (body : List ℕ) (n b : ℕ) → slice_get body n ≡ Some b → take (n + 1) body ≡ take n body ++ b ∷ []
one_more body n b e =
    let less = slice_get_within body n b e in
    let is = get_or_from_slice_get body n b 0 e in
    let k : n + 1 ≡ suc n = omega arith in
    ap (λ m. take m body) k ∙ take-suc body n 0 less ∙ ap (λ z. take n body ++ z ∷ []) is

abbrev pub sending : List Packet → ℕ → ℕ → Sending
sending q n c = record { queue = q; sender = record { sent = sent_of q n; credit = c } }

pub byte_put : (q : List Packet) (n c d b : ℕ) (p : Packet) → q ≢ [] → 0 < c → p ≡ get_or q 0 p → slice_get p.body n ≡ Some b → d ≡ c - 1 → PutsFront (sending q n c) (Byte b) (sending q (n + 1) d)
byte_put [] n c d b p some has is e less = absurd (some refl)
byte_put (x ∷ q) n c d b p some has is e less =
    let f : slice_get x.body n ≡ Some b = subst (λ z. slice_get z.body n ≡ Some b) is e in
    record {
      packet = x;
      rest = q;
      front = refl;
      puts = puts_byte b (drop (suc n) x.body) has (split_at x.body n b f) refl (λ i. record { sent = one_more x.body n b f i; credit = less i });
      queue = refl;
    }

all_taken : (body : List ℕ) (n : ℕ) → slice_get body n ≡ None → n ≤ length body → take n body ≡ body
all_taken [] zero e h = refl
all_taken [] (suc n) e h = absurd (omega arith)
all_taken (b ∷ body) zero e h = absurd (cc)
all_taken (b ∷ body) (suc n) e h = ap (λ k. b ∷ k) (all_taken body n e (omega arith))

pub mark_put : (q r : List Packet) (n c d : ℕ) (p : Packet) (k : Token) → q ≢ [] → 0 < c → p ≡ get_or q 0 p → slice_get p.body n ≡ None → IsWithinFront q n → d ≡ c - 1 → r ≡ drop 1 q → k ≡ EndMark p.mark →
    PutsFront (sending q n c) k (record { queue = r; sender = record { sent = []; credit = d } })
mark_put [] r n c d p k some has is e within less rest mark = absurd (some refl)
mark_put (x ∷ q) r n c d p k some has is e within less rest mark =
    let f : slice_get x.body n ≡ None = subst (λ z. slice_get z.body n ≡ None) is e in
    let m : k ≡ EndMark x.mark = mark ∙ ap (λ z. EndMark z.mark) is in
    record {
      packet = x;
      rest = q;
      front = refl;
      puts = puts_mark x.mark has (sym (all_taken x.body n f within)) refl m (λ i. record { sent = []; credit = less i });
      queue = rest ∙ sym (ap (queue_after q x) m);
    }

-- the same of what shows these
pub byte_at : (s : Sending) (q : List Packet) (n c d b : ℕ) (p : Packet) → s ≡ sending q n c → s.queue ≢ [] → 0 < s.sender.credit → p ≡ get_or q 0 p → slice_get p.body n ≡ Some b → d ≡ c - 1 →
    PutsFront s (Byte b) (sending q (n + 1) d)
byte_at s q n c d b p shows some has is e less =
    subst (λ z. PutsFront z (Byte b) (sending q (n + 1) d)) (sym shows)
    (byte_put q n c d b p (λ h. some (ap (λ z. z.queue) shows ∙ h)) (subst (λ z. 0 < z.sender.credit) shows has) is e less)

pub mark_at : (s : Sending) (q : List Packet) (n c d : ℕ) (p : Packet) (k : Token) → s ≡ sending q n c → s.queue ≢ [] → 0 < s.sender.credit → p ≡ get_or q 0 p → slice_get p.body n ≡ None → IsWithinFront q n → d ≡ c - 1 →
    k ≡ EndMark p.mark → PutsFront s k (record { queue = drop 1 q; sender = record { sent = []; credit = d } })
mark_at s q n c d p k shows some has is e within less mark =
    subst (λ z. PutsFront z k (record { queue = drop 1 q; sender = record { sent = []; credit = d } })) (sym shows)
    (mark_put q (drop 1 q) n c d p k (λ h. some (ap (λ z. z.queue) shows ∙ h)) (subst (λ z. 0 < z.sender.credit) shows has) is e within less refl mark)

-- some token can be put where a packet waits under credit
put_by : (p : Packet) (q : List Packet) (n c : ℕ) (o : Option ℕ) → 0 < c → n ≤ length p.body → slice_get p.body n ≡ o → CanPutFront (sending (p ∷ q) n c)
put_by p q n c (Some b) has within e = (Byte b, sending (p ∷ q) (n + 1) (c - 1), byte_put (p ∷ q) n c (c - 1) b p (λ none. absurd (cc)) has refl e refl)
put_by p q n c None has within e =
    let new : Sending = record { queue = q; sender = record { sent = []; credit = c - 1 } } in
    (EndMark p.mark, new, mark_put (p ∷ q) q n c (c - 1) p (EndMark p.mark) (λ none. absurd (cc)) has refl e within refl refl refl)

can_put_front : (q : List Packet) (n c : ℕ) → q ≢ [] → 0 < c → IsWithinFront q n → CanPutFront (sending q n c)
can_put_front [] n c some has within = absurd (some refl)
can_put_front (p ∷ q) n c some has within = put_by p q n c (slice_get p.body n) has within refl

pub can_put_where : (s : Sending) (q : List Packet) (n c : ℕ) (b : Bool) → s ≡ sending q n c → 0 < c → IsWithinFront q n → (IsTrue b ↔ (q ≡ [])) → OnTrue (not b) (CanPutFront s)
can_put_where s q n c true shows has within empty = tt
can_put_where s q n c false shows has within empty = subst CanPutFront (sym shows) (can_put_front q n c (λ none. (let f : false ≡ true = empty.1 none in absurd (cc))) has within)

pub empty_iff : {X : Type 0} (b : Bool) (xs : List X) → b ≡ (length xs == 0) → IsTrue b ↔ (xs ≡ [])
empty_iff b [] e = (λ t. refl, λ none. e)
empty_iff b (x ∷ xs) e =
    (λ t. (let f = ne_eqb (length (x ∷ xs)) 0 (λ z. absurd (omega arith)) in absurd (cc)), λ none. absurd (cc))
