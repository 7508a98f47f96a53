-- A packet leaves its queue whole.
use Rattle.std.proofs.Common.{◌≡◌, ℕ, ◌↔◌, [], refl, sym, ap, ◌∙◌, subst, slice_get, slice_set, Option, Some, None, IsSome, IfSome}
use Rattle.std.proofs.lemmas.Option.{slice_get_within}
use Rattle.vc_packets.specs.declared.packet.Packet.{Packet}
use Rattle.vc_packets.specs.Functions.{put, shown_or}
use Rattle.vc_credit.specs.Ends.{new_sender}
use Rattle.vc_vcp.specs.Able.{CanLeaveWhole}
use Rattle.vc_vcp.specs.LinkOut.{Sending}
use Rattle.vc_vcp.specs.Private.LinkOut.{FrontLeavesWhole, HasNoneWhole}
use Rattle.vc_vcp.specs.Links.{LeavesWhole}
use Rattle.vc_vcp.specs.VcpView.{seen, carrier_of, link_of}
use Rattle.vc_vcp.specs.State.{State}
use Rattle.vc_vcp.proofs.ListWrites.{put_back, set_back}
use Rattle.vc_vcp.proofs.ListChanges.{seen-out}

pub leaves_whole : (s : State) (l : ℕ) (x y : Sending) (p : Packet) → slice_get s.outs l ≡ Some x → FrontLeavesWhole x p y → LeavesWhole (seen s) l p (seen (record s { outs = slice_set s.outs l y }))
leaves_whole s l x y p here h =
    let r : (link_of s l).sender ≡ x.sender = ap (shown_or new_sender (λ x. x.sender)) here in
    let same : (link_of s l).sender ≡ y.sender = r ∙ sym (ap (λ z. z.sender) h.after) in
    let rest : y.queue ≡ h.rest = ap (λ z. z.queue) h.after in
    record {
      rest = h.rest;
      front = ap (shown_or [] (λ x. x.queue)) here ∙ h.front;
      whole = ap (λ z. z.sent) r ∙ h.whole;
      after = seen-out s l y (slice_get_within s.outs l x here)
          ∙ (λ i. record { carrier = record (carrier_of s) { queue = put (carrier_of s).queue l (rest i) }; link = put_back (link_of s) l (record (link_of s l) { sender = y.sender }) (λ j. record (link_of s l) { sender = same j }) i });
    }

leaves_none : (s : State) (l : ℕ) (x : Sending) → slice_get s.outs l ≡ Some x → HasNoneWhole x → CanLeaveWhole (seen s) l → ⊥
leaves_none s l x here none can =
    let h = can.leaves in
    none can.packet h.rest (sym (ap (shown_or [] (λ x. x.queue)) here) ∙ h.front) (sym (ap (λ z. z.sent) (ap (shown_or new_sender (λ x. x.sender)) here)) ∙ h.whole)

pub whole_iff : (s : State) (l : ℕ) (x y : Sending) (o : Option Packet) → slice_get s.outs l ≡ Some x → IfSome o (λ p. FrontLeavesWhole x p y) → (o ≡ None → HasNoneWhole x) → IsSome o ↔ CanLeaveWhole (seen s) l
whole_iff s l x y None here takes none = (λ t. absurd (cc), λ can. absurd (leaves_none s l x here (none refl) can))
whole_iff s l x y (Some p) here takes none = (λ t. record { packet = p; new = _; leaves = leaves_whole s l x y p here takes }, λ can. refl)

pub whole_if : (s : State) (l : ℕ) (x y : Sending) (o : Option Packet) → slice_get s.outs l ≡ Some x → IfSome o (λ p. FrontLeavesWhole x p y) → IfSome o (λ p. LeavesWhole (seen s) l p (seen (record s { outs = slice_set s.outs l y })))
whole_if s l x y None here takes = tt
whole_if s l x y (Some p) here takes = leaves_whole s l x y p here takes

pub same_outs : (s : State) (l : ℕ) (x y : Sending) → slice_get s.outs l ≡ Some x → y ≡ x → record s { outs = slice_set s.outs l y } ≡ s
same_outs s l x y here same = ap (λ z. record s { outs = z }) (set_back s.outs l x y here same)

pub told_can : (o s : State) (k l : ℕ) (p : Option Packet) → o ≡ s → k ≡ l → IsSome p ↔ CanLeaveWhole (seen o) k → IsSome p ↔ CanLeaveWhole (seen s) l
told_can o s k l p same along iff = subst (λ z. IsSome p ↔ CanLeaveWhole (seen z) l) same (subst (λ j. IsSome p ↔ CanLeaveWhole (seen o) j) along iff)
