-- Where a switch has a step.
use Rattle.std.proofs.Common.{◌≡◌, ◌≢◌, ◌<◌, ℕ, ◌+◌, Bool, IsTrue, ◌↔◌, List, [], ◌∷◌, ◌++◌, length, refl, sym, ap, ◌∙◌, subst, slice_get, get_or, Option, Some, None, ◌⊎◌, inl, inr}
use Rattle.std.proofs.lemmas.Bool.{cases_lt}
use Rattle.std.proofs.lemmas.Option.{slice_get_read}
use Rattle.std.specs.List.{AllByRecursion}
use Rattle.vc_packets.specs.Counters.{one_more}
use Rattle.vc_packets.specs.declared.mark.Mark.{Mark}
use Rattle.vc_tokens.specs.Tokens.{Token, Byte, Fct, EndMark}
use Rattle.vc_credit.specs.Ends.{Receiver, HasRoom}
use Rattle.vc_switch.specs.Forward.{SwitchPlan}
use Rattle.vc_switch.specs.Switch.{Switch, set_input, with_header, passing, Passes, passes_byte, drops_byte, passes_mark, loses, HasGroup}
use Rattle.vc_switch.specs.Able.{CanPass, CanGrant, IsFree}
use Rattle.vc_switch.specs.State.{State, IsSwitch, plan_of, limit_of}
use Rattle.vc_packets.specs.Functions.{shown_or}
use Rattle.vc_switch.specs.SwitchView.{seen, input_of}
use Rattle.vc_switch.specs.declared.link_in.LinkIn.{LinkIn}
use Rattle.vc_switch.specs.declared.link_out.LinkOut.{LinkOut}
use Rattle.vc_switch.proofs.Fronts.{either_group}
use Rattle.vc_switch.proofs.ListChanges.{input_at, bound_is}
use Rattle.vc_switch.proofs.Preservation.{link_in}

pub grant_iff : (s : State) (l : ℕ) (x : LinkIn) (b : Bool) → slice_get s.inputs l ≡ Some x → (IsTrue b ↔ HasRoom x.receiver) → IsTrue b ↔ CanGrant (seen s) l
grant_iff s l x b here is =
    let at = input_at s l x here in (
      λ t. (let r : Receiver = record ((seen s).input l).receiver { promised = ((seen s).input l).receiver.promised + 8 } in (
        set_input (seen s) l (record ((seen s).input l) { receiver = r }),
        record { receiver = r; grants = record { room = subst (λ z. HasRoom z.receiver) (sym at) (is.0 t); after = refl }; after = refl },
      )),
      λ can. is.1 (subst (λ z. HasRoom z.receiver) at can.1.grants.room),
    )

pub free_none : (s : State) (j : ℕ) (p : LinkOut) → IsSwitch s → slice_get s.outputs j ≡ Some p → p.source ≡ None → IsFree (seen s) j
free_none s j p w here none i e =
    let source : None ≡ Some i = sym none ∙ sym (ap (shown_or None (λ x. x.source)) here) ∙ w.paired.ins i j (sym (bound_is s i) ∙ e) in
    absurd (cc)

pub none_free : (s : State) (j : ℕ) (p : LinkOut) (o : Option ℕ) → IsSwitch s → slice_get s.outputs j ≡ Some p → IsFree (seen s) j → p.source ≡ o → p.source ≡ None
none_free s j p None w here free is = is
none_free s j p (Some i) w here free is =
    absurd (free i (bound_is s i ∙ w.paired.outs j i (ap (shown_or None (λ x. x.source)) here ∙ is)))

-- an output is free where it has no source
pub free_iff : (s : State) (j : ℕ) (p : LinkOut) (b : Bool) → IsSwitch s → slice_get s.outputs j ≡ Some p → (IsTrue b ↔ (p.source ≡ None)) → IsTrue b ↔ IsFree (seen s) j
free_iff s j p b w here is = (λ t. free_none s j p w here (is.0 t), λ free. is.1 (none_free s j p p.source w here free refl))

-- A token can pass where one waits and no packet is whole.

byte_can : (limit : ℕ) (plan : SwitchPlan) (s : Switch) (l b : ℕ) (rest : List Token) → (s.input l).mark ≡ None → (s.input l).receiver.buffer ≡ Byte b ∷ rest → CanPass limit plan s l
byte_can limit plan s l b rest going front = elim (cases_lt (length (with_header plan l (s.input l))) limit) [
  | inl room ↦ (set_input s l (passing (s.input l) rest (with_header plan l (s.input l) ++ b ∷ []) None), passes_byte b rest going front room refl)
  | inr full ↦ (record (set_input s l (passing (s.input l) rest (with_header plan l (s.input l)) None)) { lost = one_more s.lost }, drops_byte b rest going front full refl)
]

mark_by : (limit : ℕ) (plan : SwitchPlan) (s : Switch) (l : ℕ) (m : Mark) (rest : List Token) → (s.input l).mark ≡ None → (s.input l).receiver.buffer ≡ EndMark m ∷ rest → (HasGroup plan (with_header plan l (s.input l)) ⊎ (HasGroup plan (with_header plan l (s.input l)) → ⊥)) → CanPass limit plan s l
mark_by limit plan s l m rest going front (inl group) = (set_input s l (passing (s.input l) rest (with_header plan l (s.input l)) (Some m)), passes_mark m rest going front group refl)
mark_by limit plan s l m rest going front (inr none) = (record (set_input s l (passing (s.input l) rest [] None)) { lost = one_more s.lost }, loses m rest going front none refl)

can_by : (limit : ℕ) (plan : SwitchPlan) (s : Switch) (l : ℕ) (ks : List Token) → (s.input l).mark ≡ None → (s.input l).receiver.buffer ≡ ks → AllByRecursion (λ k. k ≢ Fct) ks → ks ≢ [] → CanPass limit plan s l
can_by limit plan s l [] going front all some = absurd (some refl)
can_by limit plan s l (Fct ∷ ks) going front all some = absurd (all.0 refl)
can_by limit plan s l (Byte b ∷ ks) going front all some = byte_can limit plan s l b ks going front
can_by limit plan s l (EndMark m ∷ ks) going front all some = mark_by limit plan s l m ks going front (either_group plan (with_header plan l (s.input l)))

pub waits_by : (limit : ℕ) (plan : SwitchPlan) (s new : Switch) (l : ℕ) → Passes limit plan s l new → ((s.input l).mark ≡ None) × ((s.input l).receiver.buffer ≢ [])
waits_by limit plan s new l (passes_byte b rest going front room after) = (going, λ e. (let q : Byte b ∷ rest ≡ [] = sym front ∙ e in absurd (cc)))
waits_by limit plan s new l (drops_byte b rest going front full after) = (going, λ e. (let q : Byte b ∷ rest ≡ [] = sym front ∙ e in absurd (cc)))
waits_by limit plan s new l (passes_mark m rest going front group after) = (going, λ e. (let q : EndMark m ∷ rest ≡ [] = sym front ∙ e in absurd (cc)))
waits_by limit plan s new l (loses m rest going front none after) = (going, λ e. (let q : EndMark m ∷ rest ≡ [] = sym front ∙ e in absurd (cc)))

pub pass_iff : (s : State) (l : ℕ) (x : LinkIn) (b : Bool) → IsSwitch s → slice_get s.inputs l ≡ Some x → (IsTrue b ↔ ((x.mark ≡ None) × (x.receiver.buffer ≢ []))) → IsTrue b ↔ CanPass (limit_of s.inputs) (plan_of s) (seen s) l
pass_iff s l x b w here is =
    let at = input_at s l x here in (
      λ t. (let waits = is.0 t in
          can_by (limit_of s.inputs) (plan_of s) (seen s) l x.receiver.buffer (ap (λ z. z.mark) at ∙ waits.0) (ap (λ z. z.receiver.buffer) at) (link_in s l x w here).no_fct waits.1),
      λ can. is.1 (let waits = waits_by (limit_of s.inputs) (plan_of s) (seen s) can.0 l can.1 in
          (sym (ap (λ z. z.mark) at) ∙ waits.0, λ e. waits.1 (ap (λ z. z.receiver.buffer) at ∙ e))),
    )

-- A token passes.

-- what indexing reads of the inputs is the input of this link
pub input_read : (o s : State) (k l : ℕ) (a : LinkIn) → o ≡ s → k ≡ l → length o.inputs ≡ 32 → l < 32 → a ≡ get_or o.inputs k a → (slice_get s.inputs l ≡ Some a) × ((seen s).input l ≡ input_of a)
input_read o s k l a shows same long less is =
    let read = slice_get_read o.inputs 32 k a (sym long) (subst (λ z. z < 32) (sym same) less) is in
    let here = subst (λ z. slice_get z.inputs l ≡ Some a) shows (subst (λ j. slice_get o.inputs j ≡ Some a) same read) in
    (here, input_at s l a here)
