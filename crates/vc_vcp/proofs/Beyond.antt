-- No step of a node is by a link that it does not have.
use Rattle.std.proofs.Common.{◌≡◌, ◌≢◌, ℕ, ◌<◌, ◌≤◌, false, true, Bool, IsTrue, ◌↔◌, List, [], ◌∷◌, length, refl, sym, ap, ◌∙◌, subst, slice_get, get_or, ltb, Some, None}
use Rattle.std.proofs.lemmas.Bool.{ltb-true, ltb-false}
use Rattle.std.proofs.lemmas.Option.{slice_get_within, slice_get_read, slice_get_past}
use Rattle.vc_credit.specs.Ends.{HasRoom, new_receiver}
use Rattle.vc_vcp.specs.Able.{CanPut, CanGrant, CanPass}
use Rattle.vc_packets.specs.Functions.{shown_or}
use Rattle.vc_vcp.specs.LinkIn.{Receiving}
use Rattle.vc_vcp.specs.VcpView.{seen, ends_of, carrier_of, link_of}
use Rattle.vc_vcp.specs.State.{State, IsWired, MayPut, MayGrant, limit_of}
use Rattle.vc_vcp.proofs.Arrivals.{waits_for}
use Rattle.vc_vcp.proofs.Enablement.{grant_iff}

-- what is sought by a number that may be past the end
pub got : {X : Type 0} (xs ys : List X) (j i : ℕ) (x : X) → ys ≡ xs → j ≡ i → true ≡ ltb j (length ys) → x ≡ get_or ys j x → slice_get xs i ≡ Some x
got xs ys j i x same along within is = subst (λ z. slice_get z i ≡ Some x) same (subst (λ k. slice_get ys k ≡ Some x) along (slice_get_read ys (length ys) j x refl (ltb-true j (length ys) (sym within)) is))

pub got_none : {X : Type 0} (xs ys : List X) (j i : ℕ) → ys ≡ xs → j ≡ i → false ≡ ltb j (length ys) → slice_get xs i ≡ None
got_none xs ys j i same along past = subst (λ z. slice_get z i ≡ None) same (subst (λ k. slice_get ys k ≡ None) along (slice_get_past ys j (ltb-false j (length ys) (sym past))))

-- Beyond its links a node has empty buffers and queues.

buffer_past : (s : State) (l : ℕ) → slice_get s.ins l ≡ None → (link_of s l).receiver.buffer ≡ []
buffer_past s l none = ap (λ o. (shown_or new_receiver (λ x. x.receiver) o).buffer) none

pub queue_past : (s : State) (l : ℕ) → slice_get s.outs l ≡ None → (carrier_of s).queue l ≡ []
queue_past s l none = ap (shown_or [] (λ x. x.queue)) none

pub out_past : (s : State) (l : ℕ) → length s.outs ≡ 4 → 4 ≤ l → slice_get s.outs l ≡ None
out_past s l long far = slice_get_past s.outs l (subst (λ n. n ≤ l) (sym long) far)

pub in_past : (s : State) (l : ℕ) → length s.ins ≡ 4 → 4 ≤ l → slice_get s.ins l ≡ None
in_past s l long far = slice_get_past s.ins l (subst (λ n. n ≤ l) (sym long) far)

pub no_waits : (s : State) (l : ℕ) → slice_get s.ins l ≡ None → IsTrue false ↔ ((link_of s l).receiver.buffer ≢ [])
no_waits s l none = (λ t. absurd (cc), λ some. absurd (some (buffer_past s l none)))

pub no_pass : (s : State) (l : ℕ) → slice_get s.ins l ≡ None → IsTrue false ↔ CanPass (limit_of s.ins) (ends_of s) (seen s) l
no_pass s l none = (λ t. absurd (cc), λ can. absurd (waits_for (seen s) l (limit_of s.ins) (ends_of s) can.taken can.new can.passes (buffer_past s l none)))

pub no_put : (s : State) (l : ℕ) → slice_get s.outs l ≡ None → IsTrue false ↔ CanPut (seen s) l
no_put s l none = (λ t. absurd (cc), λ can. (let e : [] ≡ can.sends.packet ∷ can.sends.rest = sym (queue_past s l none) ∙ can.sends.front in absurd (cc)))

pub no_may_put : (s : State) (l : ℕ) → slice_get s.outs l ≡ None → IsTrue false ↔ MayPut s l
no_may_put s l none = (λ t. absurd (cc), λ may. (let e : None ≡ Some may.out = sym none ∙ may.here in absurd (cc)))

pub no_may_grant : (s : State) (l : ℕ) → slice_get s.ins l ≡ None → IsTrue false ↔ MayGrant s l
no_may_grant s l none = (λ t. absurd (cc), λ may. (let e : None ≡ Some may.into = sym none ∙ may.here in absurd (cc)))

-- the links are four
pub grant_there : (s : State) (l : ℕ) (x : Receiving) (b : Bool) → IsWired s → slice_get s.ins l ≡ Some x → (IsTrue b ↔ HasRoom x.receiver) → IsTrue b ↔ ((l < 4) × CanGrant (seen s) l)
grant_there s l x b w here is =
    let can = grant_iff s l x b here is in
    (λ t. (subst (λ n. l < n) w.four_in (slice_get_within s.ins l x here), can.0 t), λ h. can.1 h.1)
