-- One channel's halves, through its phases.
use Rattle.std.proofs.Common.{◌≡◌, ℕ, suc, ◌≤◌, Bool, true, false, List, [], ◌∷◌, ◌++◌, length, refl, sym, ap, subst, ◌∙◌, arith, Option, Some, None, nat_eq, nat_le, if◌then◌else◌, append_assoc, append-nil, eq-eqb, ne_eqb, le-leb, length-append}
use Rattle.std.proofs.lemmas.Bool.{cond-true, cond-false}
use Rattle.vc_packets.specs.declared.packet.Packet.{Packet}
use Rattle.vc_packets.specs.Pieces.{joined, IsCut, Pieces}
use Rattle.vc_packets.specs.declared.kind.Kind.{Kind}
use Rattle.vc_packets.specs.declared.kind.Kind.TheVariants.{Ack, Piece, Malformed}
use Rattle.vc_packets.specs.Kind.{kind}
use Rattle.vc_packets.specs.Spellings.{mark_before, piece_packet}
use Rattle.vc_machine.specs.Paths.{Channel}
use Rattle.vc_machine.specs.Machine.{ChanState, store}
use Rattle.vc_machine.proofs.Labels.{Phase, Calm, Coming, Waiting, Returning, IsCalm, IsGoing, IsBack, LeftAfter, PhaseFits}

abbrev pub last_of : List (List ℕ) → Bool
last_of [] = true
last_of (d ∷ ds) = false

pub kind_of_piece : (now : List ℕ) (later : List (List ℕ)) → IsCut (now ∷ later) → kind now (mark_before later) ≡ Piece (last_of later)
kind_of_piece now [] cut = cond-true {A = Kind} (nat_le (length now) 32) (Piece true) Malformed (le-leb (length now) 32 cut)
kind_of_piece now (d ∷ ds) cut =
    let e : length now ≡ 0 → ⊥ = (let h = cut.0 in λ z. omega arith) in
    cond-false {A = Kind} (nat_eq (length now) 0) Ack (if nat_eq (length now) 32 then Piece false else Malformed) (ne_eqb (length now) 0 e)
    ∙ cond-true {A = Kind} (nat_eq (length now) 32) (Piece false) Malformed (eq-eqb (length now) 32 cut.0)

pub at_most_one : (ch : Channel) (f : Phase) (x : ChanState) (n : ℕ) → PhaseFits ch f x n → n ≤ 1
at_most_one ch Calm x n h = let e = h.0 in omega arith
at_most_one ch q x n h = let e = h.0 in omega arith

pub calm_when_idle : (ch : Channel) (f : Phase) (x : ChanState) (n : ℕ) → PhaseFits ch f x n → x.unacked ≡ [] → (n ≡ 0) × (x.held ≡ None) × IsCalm x
calm_when_idle ch Calm x n h e = h
calm_when_idle ch Coming x n h e = let u = h.2.unacked in absurd (cc)
calm_when_idle ch Waiting x n h e = let u = h.3.unacked in absurd (cc)
calm_when_idle ch Returning x n h e = let u = h.2.unacked in absurd (cc)

pub waiting_when_held : (ch : Channel) (f : Phase) (x : ChanState) (n : ℕ) (p : Packet) → PhaseFits ch f x n → x.held ≡ Some p →
    (n ≡ 0) × (p ≡ piece_packet (ch.to.block ∷ []) x.unacked) × IsGoing x
waiting_when_held ch Waiting x n p h e = (h.0, (let u = h.1 in cc), h.3)
waiting_when_held ch q x n p h e = let u = h.1 in absurd (cc)

pub calm_at : (x : ChanState) (w t : Bool) (p : Option Packet) → IsCalm x → IsCalm (record x { wants = w; stopped = t; held = p })
calm_at x w t p h = record { unacked = h.unacked; stored = h.stored; same = h.same; count = h.count }

pub going_at : (x : ChanState) (w t : Bool) (p : Option Packet) → IsGoing x → IsGoing (record x { wants = w; stopped = t; held = p })
going_at x w t p h = record { message = h.message; now = h.now; later = h.later; unacked = h.unacked; cut = h.cut; whole = h.whole; offered = h.offered; count = h.count }

left_at : (x : ChanState) (w t : Bool) (p : Option Packet) (later : List (List ℕ)) → LeftAfter x later → LeftAfter (record x { wants = w; stopped = t; held = p }) later
left_at x w t p [] h = h
left_at x w t p (d ∷ ds) h = h

pub back_at : (x : ChanState) (w t : Bool) (p : Option Packet) → IsBack x → IsBack (record x { wants = w; stopped = t; held = p })
back_at x w t p h = record { now = h.now; later = h.later; unacked = h.unacked; left = left_at x w t p h.later h.left }

-- offering a message
pub offered_going : (x : ChanState) (m now : List ℕ) (later : List (List ℕ)) → IsCalm x → Pieces m (now ∷ later) →
    IsGoing (record x { unacked = now ∷ later; offered = x.offered ++ m ∷ [] })
offered_going x m now later h pieces =
    record {
      message = m;
      now = now;
      later = later;
      unacked = refl;
      cut = pieces.cut;
      whole = ap (λ k. k ++ joined (now ∷ later)) h.stored ∙ pieces.whole;
      offered = ap (λ k. k ++ m ∷ []) (sym h.same);
      count = h.count;
    }

-- storing a piece
store_left : (x : ChanState) (now : List ℕ) (later : List (List ℕ)) (m : List ℕ) → IsCut (now ∷ later) → x.stored ++ joined (now ∷ later) ≡ m →
    x.offered ≡ x.taken ++ m ∷ [] → x.finished ≡ length x.taken → LeftAfter (store x now (last_of later)) later
store_left x now [] m cut whole offered count =
    let e : x.stored ++ now ≡ m = ap (λ k. x.stored ++ k) (sym (append-nil now)) ∙ whole in
    (refl, ap (λ k. x.taken ++ k ∷ []) e ∙ sym offered, (let k = length-append x.taken ((x.stored ++ now) ∷ []) in omega arith))
store_left x now (d ∷ ds) m cut whole offered count =
    (m, cut.1, append_assoc x.stored now (joined (d ∷ ds)) ∙ whole, offered, count)

pub store_unacked : (x : ChanState) (now : List ℕ) (last : Bool) → (store x now last).unacked ≡ x.unacked
store_unacked x now true = refl
store_unacked x now false = refl

pub store_held : (x : ChanState) (now : List ℕ) (last : Bool) → (store x now last).held ≡ None
store_held x now true = refl
store_held x now false = refl

pub store_open : (x : ChanState) (now : List ℕ) (last : Bool) → x.stopped ≡ false → (store x now last).wants ≡ true → (store x now last).stopped ≡ false
store_open x now true h e = h
store_open x now false h e = h

pub store_back : (x : ChanState) (now : List ℕ) (later : List (List ℕ)) (h : IsGoing x) → x.unacked ≡ now ∷ later → IsBack (store x now (last_of later))
store_back x now later h e =
    let same_now : h.now ≡ now = (let u = h.unacked in cc) in
    let same_later : h.later ≡ later = (let u = h.unacked in cc) in
    record {
      now = now;
      later = later;
      unacked = store_unacked x now (last_of later) ∙ e;
      left = store_left x now later h.message
          (subst (λ k. IsCut (k ∷ later)) same_now (subst (λ k. IsCut (h.now ∷ k)) same_later h.cut))
          (ap (λ k. x.stored ++ joined k) (sym e ∙ h.unacked) ∙ h.whole)
          h.offered h.count;
    }

-- an acknowledge
pub advanced_calm : (x : ChanState) → LeftAfter x [] → IsCalm (record x { unacked = []; finished = suc x.finished })
advanced_calm x h = record { unacked = refl; stored = h.0; same = h.1; count = sym h.2 }

pub advanced_going : (x : ChanState) (d : List ℕ) (later : List (List ℕ)) → LeftAfter x (d ∷ later) → IsGoing (record x { unacked = d ∷ later })
advanced_going x d later h = record { message = h.0; now = d; later = later; unacked = refl; cut = h.1; whole = h.2; offered = h.3; count = h.4 }
