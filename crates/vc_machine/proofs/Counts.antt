-- How many packets belong to a channel.
use Rattle.std.proofs.Common.{◌≡◌, ℕ, suc, ◌+◌, inl, inr, Bool, List, [], ◌∷◌, ◌++◌, refl, sym, ap, subst, ◌∙◌, arith, Option, Some, None, le_refl}
use Rattle.vc_packets.specs.declared.packet.Packet.{Packet}
use Rattle.vc_packets.specs.declared.mark.Mark.{Mark}
use Rattle.vc_packets.specs.Headers.{spelled}
use Rattle.vc_packets.specs.declared.kind.Kind.TheVariants.{Ack, Piece}
use Rattle.vc_packets.specs.Kind.{kind}
use Rattle.vc_machine.specs.Paths.{Carries, Channel, Net, Delivers, IsAccepted}
use Rattle.vc_switch.specs.Forward.{behind}
use Rattle.vc_machine.specs.Machine.{ChanState}
use Rattle.vc_machine.specs.Places.{IsOf, Number}
use Rattle.vc_machine.proofs.Basics.{header_rest_same}
use Rattle.vc_machine.proofs.Labels.{Phase, Calm, Coming, Waiting, Returning, Label, On, IsGoing, PhaseFits, goal_end}
use Rattle.vc_machine.proofs.Cover.{load_of, tag_of, body_is, mark_is}
use Rattle.vc_machine.proofs.Halves.{last_of, kind_of_piece}
use Rattle.vc_machine.proofs.Unique.{fuel_to, same_end}

pub number_plus : {X : Type 0} (B : X → Type 0) (xs ys : List X) (m n : ℕ) → Number B xs m → Number B ys n → Number B (xs ++ ys) (m + n)
number_plus B [] ys m n a b = let e : n ≡ m + n = omega arith in subst (Number B ys) e b
number_plus B (x ∷ xs) ys m n (inl a) b = inl (a.0, (a.1.0 + n, (let e = a.1.1 in omega arith), number_plus B xs ys a.1.0 n a.1.2 b))
number_plus B (x ∷ xs) ys m n (inr a) b = inr (a.0, number_plus B xs ys m n a.1 b)

-- the channel's phase, where it has a packet on the ways
pub data Going (x : ChanState) (f : Phase) : Type 0 where
  coming : f ≡ Coming → IsGoing x → Going x f
  returning : f ≡ Returning → Going x f

pub going : (ch : Channel) (f : Phase) (x : ChanState) (n : ℕ) → PhaseFits ch f x n → (n ≡ 0 → ⊥) → Going x f
going ch Calm x n h more = absurd (more h.0)
going ch Waiting x n h more = absurd (more h.0)
going ch Coming x n h more = coming refl h.2
going ch Returning x n h more = returning refl

-- what the labelled packet carries
kind_coming : (x : ChanState) (f : Phase) → f ≡ Coming → IsGoing x → (last : Bool) × (kind (load_of f x.unacked) (tag_of f x.unacked) ≡ Piece last)
kind_coming x f e g = (
  last_of g.later,
  ap (λ k. kind (load_of k x.unacked) (tag_of k x.unacked)) e ∙ ap (λ k. kind (load_of Coming k) (tag_of Coming k)) g.unacked ∙ kind_of_piece g.now g.later g.cut,
)

kind_returning : (x : ChanState) (f : Phase) → f ≡ Returning → kind (load_of f x.unacked) (tag_of f x.unacked) ≡ Ack
kind_returning x f e = ap (λ k. kind (load_of k x.unacked) (tag_of k x.unacked)) e

pub is_of_own : (net : Net) (ph : ℕ → Phase) (chans : ℕ → ChanState) (w : ℕ) (v : Option ℕ) (l : Label) (p : Packet) → On net ph chans w v l p → Going (chans l.chan) (ph l.chan) →
    IsOf net w v p l.chan
is_of_own net ph chans w v l p on (coming e g) =
    let f = ph l.chan in
    let cs = (chans l.chan).unacked in
    let k = kind_coming (chans l.chan) f e g in
    inl (
      load_of f cs,
      k.0,
      record {
        stack = l.stack;
        body = body_is f cs (behind v l.stack) p on.is;
        delivers = fuel_to net 32 on.fuel w l.stack (net.chan l.chan).to on.small (subst (λ j. Delivers net on.fuel w l.stack (goal_end j (net.chan l.chan))) e on.delivers);
      },
      ap (kind (load_of f cs)) (mark_is f cs (behind v l.stack) p on.is) ∙ k.1,
    )
is_of_own net ph chans w v l p on (returning e) =
    let f = ph l.chan in
    let cs = (chans l.chan).unacked in
    inr (
      load_of f cs,
      record {
        stack = l.stack;
        body = body_is f cs (behind v l.stack) p on.is;
        delivers = fuel_to net 32 on.fuel w l.stack (net.chan l.chan).from on.small (subst (λ j. Delivers net on.fuel w l.stack (goal_end j (net.chan l.chan))) e on.delivers);
      },
      ap (kind (load_of f cs)) (mark_is f cs (behind v l.stack) p on.is) ∙ kind_returning (chans l.chan) f e,
    )

-- what stands behind the same kind of front
pub front_same : (i : Option ℕ) (v u : Option ℕ) (s t r q : List ℕ) → spelled (behind v s) ++ r ≡ spelled (behind u t) ++ q → (v ≡ None → u ≡ None) × (u ≡ None → v ≡ None) → spelled s ++ r ≡ spelled t ++ q
front_same i None None s t r q e both = e
front_same i (Some a) (Some b) s t r q e both = header_rest_same a b (spelled s ++ r) (spelled t ++ q) e
front_same i None (Some b) s t r q e both = let h : Some b ≡ None = both.0 refl in absurd (cc)
front_same i (Some a) None s t r q e both = let h : Some a ≡ None = both.1 refl in absurd (cc)

pub piece_ack : (load : List ℕ) (m : Mark) (last : Bool) → kind load m ≡ Piece last → kind load m ≡ Ack → ⊥
piece_ack load m last a b = cc

pub is_of_one : (net : Net) (ph : ℕ → Phase) (chans : ℕ → ChanState) (w : ℕ) (v u : Option ℕ) (l : Label) (p : Packet) (c : ℕ) → IsAccepted net → Carries net c →
    (v ≡ None → u ≡ None) × (u ≡ None → v ≡ None) → On net ph chans w v l p → Going (chans l.chan) (ph l.chan) → IsOf net w u p c → l.chan ≡ c
is_of_one net ph chans w v u l p c acc real both on g (inl o) =
    let f = ph l.chan in
    let cs = (chans l.chan).unacked in
    let e = front_same None v u l.stack o.2.stack (load_of f cs) o.0 (sym (body_is f cs (behind v l.stack) p on.is) ∙ o.2.body) both in
    let same = same_end net acc (suc on.fuel) on.fuel 32 w l.stack o.2.stack (load_of f cs) o.0 (goal_end f (net.chan l.chan)) (net.chan c).to (le_refl (suc on.fuel)) on.delivers o.2.delivers e in
    let k : kind (load_of f cs) (tag_of f cs) ≡ Piece o.1 = ap (kind (load_of f cs)) (sym (mark_is f cs (behind v l.stack) p on.is)) ∙ ap (λ z. kind z p.mark) same.2 ∙ o.3 in
    elim g [
      | coming h going ↦ acc.one_in l.chan c on.real real
          (ap (λ j. (goal_end j (net.chan l.chan)).node) (sym h) ∙ same.0, ap (λ j. (goal_end j (net.chan l.chan)).block) (sym h) ∙ same.1)
      | returning h ↦ absurd (piece_ack (load_of f cs) (tag_of f cs) o.1 k (kind_returning (chans l.chan) f h))
    ]
is_of_one net ph chans w v u l p c acc real both on g (inr o) =
    let f = ph l.chan in
    let cs = (chans l.chan).unacked in
    let e = front_same None v u l.stack o.1.stack (load_of f cs) o.0 (sym (body_is f cs (behind v l.stack) p on.is) ∙ o.1.body) both in
    let same = same_end net acc (suc on.fuel) on.fuel 32 w l.stack o.1.stack (load_of f cs) o.0 (goal_end f (net.chan l.chan)) (net.chan c).from (le_refl (suc on.fuel)) on.delivers o.1.delivers e in
    let k : kind (load_of f cs) (tag_of f cs) ≡ Ack = ap (kind (load_of f cs)) (sym (mark_is f cs (behind v l.stack) p on.is)) ∙ ap (λ z. kind z p.mark) same.2 ∙ o.2 in
    elim g [
      | coming h going ↦ (let z = kind_coming (chans l.chan) f h going in absurd (piece_ack (load_of f cs) (tag_of f cs) z.0 z.1 k))
      | returning h ↦ acc.one_out l.chan c on.real real
          (ap (λ j. (goal_end j (net.chan l.chan)).node) (sym h) ∙ same.0, ap (λ j. (goal_end j (net.chan l.chan)).block) (sym h) ∙ same.1)
    ]
