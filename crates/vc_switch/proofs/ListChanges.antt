-- What a change of a switch's lists is to its steps.
use Rattle.std.proofs.Common.{◌≡◌, ℕ, List, [], refl, sym, ap, ◌∙◌, subst, slice_get, slice_set, Option, Some, None, inl, inr}
use Rattle.std.proofs.lemmas.Bool.{cases_eq}
use Rattle.std.proofs.lemmas.Option.{slice_get_within}
use mathlib.Core.Path.{fun_ext}
use Rattle.vc_packets.specs.Functions.{put, shown_or}
use Rattle.vc_credit.specs.Ends.{new_sender}
use Rattle.vc_switch.specs.Switch.{Switch, new_input, set_input}
use Rattle.vc_switch.specs.State.{State, output_of, bound_at, source_at, ArePaired}
use Rattle.vc_switch.specs.SwitchView.{seen, input_of, sent_of, sent_from, sender_of}
use Rattle.vc_switch.specs.declared.link_in.LinkIn.{LinkIn}
use Rattle.vc_switch.specs.declared.link_out.LinkOut.{LinkOut}
use Rattle.vc_switch.proofs.ListWrites.{put_is, place-set_same, place-set_other, by_place-set}

-- the lists behind the value, and the link's number in the code
pub told : (P : Switch → ℕ → Switch → Type 0) (o s : State) (k l : ℕ) (new : Switch) → o ≡ s → k ≡ l → P (seen o) k new → P (seen s) l new
told P o s k l new e same h = subst (λ z. P (seen z) l new) e (subst (λ j. P (seen o) j new) same h)

pub input_at : (s : State) (l : ℕ) (x : LinkIn) → slice_get s.inputs l ≡ Some x → (seen s).input l ≡ input_of x
input_at s l x here = ap (shown_or new_input input_of) here

pub output_at : (s : State) (j : ℕ) (p : LinkOut) → slice_get s.outputs j ≡ Some p → (seen s).output j ≡ sender_of s.inputs p
output_at s j p here = ap (shown_or new_sender (sender_of s.inputs)) here

bound_by : (o : Option LinkIn) → (shown_or new_input input_of o).bound ≡ shown_or None (λ x. output_of x.bound) o
bound_by None = refl
bound_by (Some x) = refl

-- the output to which an input is bound
pub bound_is : (s : State) (l : ℕ) → ((seen s).input l).bound ≡ bound_at s.inputs l
bound_is s l = bound_by (slice_get s.inputs l)

sent-kept : (xs : List LinkIn) (l : ℕ) (x y : LinkIn) (o : Option ℕ) → slice_get xs l ≡ Some x → sent_of y ≡ sent_of x → sent_from (slice_set xs l y) o ≡ sent_from xs o
sent-kept xs l x y None here same = refl
sent-kept xs l x y (Some k) here same = elim (cases_eq k l) [
  | inl q ↦ ap (λ k. shown_or [] sent_of (slice_get (slice_set xs l y) k)) q
      ∙ ap (shown_or [] sent_of) (place-set_same xs l y (slice_get_within xs l x here)) ∙ same
      ∙ sym (ap (shown_or [] sent_of) (ap (slice_get xs) q ∙ here))
  | inr ne ↦ ap (shown_or [] sent_of) (place-set_other xs l k y ne)
]

senders-kept : (xs : List LinkIn) (l : ℕ) (x y : LinkIn) → slice_get xs l ≡ Some x → sent_of y ≡ sent_of x → sender_of (slice_set xs l y) ≡ sender_of xs
senders-kept xs l x y here same = fun_ext (λ p. (λ i. record { sent = sent-kept xs l x y p.source here same i; credit = p.credit }))

-- one input is another, of which as much was put
pub seen-in : (s : State) (l n : ℕ) (x y : LinkIn) → slice_get s.inputs l ≡ Some x → sent_of y ≡ sent_of x →
    seen (record s { inputs = slice_set s.inputs l y; lost = n }) ≡ record (set_input (seen s) l (input_of y)) { lost = n }
seen-in s l n x y here same = λ i. record {
  input = by_place-set input_of new_input s.inputs l y (slice_get_within s.inputs l x here) i;
  output = (λ j. shown_or new_sender (senders-kept s.inputs l x y here same i) (slice_get s.outputs j));
  lost = n;
}

-- and so is one output
pub seen-two : (s : State) (l j : ℕ) (x y : LinkIn) (p q : LinkOut) → slice_get s.inputs l ≡ Some x → slice_get s.outputs j ≡ Some p → sent_of y ≡ sent_of x →
    seen (record s { inputs = slice_set s.inputs l y; outputs = slice_set s.outputs j q })
    ≡ record { input = put (seen s).input l (input_of y); output = put (seen s).output j (sender_of s.inputs q); lost = s.lost }
seen-two s l j x y p q here there same =
    let out = by_place-set (sender_of s.inputs) new_sender s.outputs j q (slice_get_within s.outputs j p there) in
    (λ i. record {
      input = by_place-set input_of new_input s.inputs l y (slice_get_within s.inputs l x here) i;
      output = (λ k. shown_or new_sender (senders-kept s.inputs l x y here same i) (slice_get (slice_set s.outputs j q) k));
      lost = s.lost;
    }) ∙ (λ i. record { input = put (seen s).input l (input_of y); output = out i; lost = s.lost })

sent-other : (xs : List LinkIn) (l : ℕ) (y : LinkIn) (o : Option ℕ) → (o ≡ Some l → ⊥) → sent_from (slice_set xs l y) o ≡ sent_from xs o
sent-other xs l y None ne = refl
sent-other xs l y (Some k) ne = ap (shown_or [] sent_of) (place-set_other xs l k y (λ q. ne (ap Some q)))

sender-other : (xs : List LinkIn) (l : ℕ) (y : LinkIn) (o : Option LinkOut) → (shown_or None (λ p. p.source) o ≡ Some l → ⊥) → shown_or new_sender (sender_of (slice_set xs l y)) o ≡ shown_or new_sender (sender_of xs) o
sender-other xs l y None ne = refl
sender-other xs l y (Some p) ne = λ i. record { sent = sent-other xs l y p.source ne i; credit = p.credit }

-- one input and the output to which it is bound are others
pub seen-bound : (s : State) (l j : ℕ) (x y : LinkIn) (p q : LinkOut) → ArePaired (bound_at s.inputs) (source_at s.outputs) → slice_get s.inputs l ≡ Some x → slice_get s.outputs j ≡ Some p → source_at s.outputs j ≡ Some l →
    seen (record s { inputs = slice_set s.inputs l y; outputs = slice_set s.outputs j q })
    ≡ record { input = put (seen s).input l (input_of y); output = put (seen s).output j (sender_of (slice_set s.inputs l y) q); lost = s.lost }
seen-bound s l j x y p q paired here there source =
    let ys = slice_set s.inputs l y in
    let out = put_is (seen s).output (λ k. shown_or new_sender (sender_of ys) (slice_get (slice_set s.outputs j q) k)) j (sender_of ys q)
    (ap (shown_or new_sender (sender_of ys)) (place-set_same s.outputs j q (slice_get_within s.outputs j p there)))
    (λ k ne. ap (shown_or new_sender (sender_of ys)) (place-set_other s.outputs j k q ne)
    ∙ sender-other s.inputs l y (slice_get s.outputs k)
    (λ e. (let z : Some k ≡ Some j = sym (paired.outs k l e) ∙ paired.outs j l source in let w : k ≡ j = cc in ne w))) in
    λ i. record { input = by_place-set input_of new_input s.inputs l y (slice_get_within s.inputs l x here) i; output = out i; lost = s.lost }
