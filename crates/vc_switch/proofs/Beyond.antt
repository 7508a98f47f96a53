-- No step of a switch is by a link that it does not have.
use Rattle.std.proofs.Common.{◌≡◌, ℕ, ◌<◌, ◌≤◌, Bool, IsTrue, ◌↔◌, List, length, refl, sym, ap, ◌∙◌, subst, arith, slice_get, Option, Some, None}
use Rattle.std.proofs.lemmas.Option.{slice_get_past, slice_get_within}
use Rattle.vc_credit.specs.Ends.{HasRoom}
use Rattle.vc_switch.specs.Switch.{new_input}
use Rattle.vc_switch.specs.Able.{CanGrant, CanLeave, CanPass, IsFree}
use Rattle.vc_switch.specs.Front.{front_of}
use Rattle.vc_switch.specs.State.{State, IsSwitch, source_at, plan_of, limit_of}
use Rattle.vc_packets.specs.Functions.{shown_or}
use Rattle.vc_switch.specs.SwitchView.{seen, input_of}
use Rattle.vc_switch.specs.declared.link_in.LinkIn.{LinkIn}
use Rattle.vc_switch.specs.declared.link_out.LinkOut.{LinkOut}
use Rattle.vc_switch.proofs.Enablement.{free_iff, grant_iff, waits_by}
use Rattle.vc_switch.proofs.Fronts.{gone}
use Rattle.vc_switch.proofs.ListWrites.{some_at}
use Rattle.vc_switch.proofs.ListChanges.{bound_is}

pub is_link : {X : Type 0} (xs : List X) (l : ℕ) (x : X) → length xs ≡ 32 → slice_get xs l ≡ Some x → l < 32
is_link xs l x long here = subst (λ n. l < n) long (slice_get_within xs l x here)

pub no_link : {X : Type 0} (xs : List X) (l : ℕ) → length xs ≡ 32 → slice_get xs l ≡ None → l < 32 → ⊥
no_link xs l long none less =
    let some = some_at xs l (subst (λ n. l < n) (sym long) less) in
    let q : None ≡ Some some.0 = sym none ∙ some.1 in
    cc

-- nothing has come there
pub input_past : (s : State) (l : ℕ) → slice_get s.inputs l ≡ None → (seen s).input l ≡ new_input
input_past s l none = ap (shown_or new_input input_of) none

-- nothing passes there
pub none_passes : (s : State) (l : ℕ) → slice_get s.inputs l ≡ None → CanPass (limit_of s.inputs) (plan_of s) (seen s) l → ⊥
none_passes s l none can = (waits_by (limit_of s.inputs) (plan_of s) (seen s) can.0 l can.1).1 (ap (λ z. z.receiver.buffer) (input_past s l none))

-- nothing passes past the 32 links
pub no_pass : (s : State) (l : ℕ) → IsSwitch s → 32 ≤ l → CanPass (limit_of s.inputs) (plan_of s) (seen s) l → ⊥
no_pass s l w past can = none_passes s l (slice_get_past s.inputs l (let long = w.input_links in omega (arith, long, past))) can

-- no packet leaves from there
pub none_leaves : (s : State) (l j : ℕ) → slice_get s.inputs l ≡ None → CanLeave (plan_of s) (seen s) l j → ⊥
none_leaves s l j none can =
    let g = gone (plan_of s) ((seen s).input l).got j can.body can.leaves in
    let q : None ≡ Some g.front = sym (ap (λ z. front_of s.table z.got) (input_past s l none)) ∙ g.is in
    cc

-- no packet is bound to it
pub free_past : (s : State) (j : ℕ) → IsSwitch s → slice_get s.outputs j ≡ None → IsFree (seen s) j
free_past s j w none i e =
    let source : None ≡ Some i = sym (ap (shown_or None (λ x. x.source)) none) ∙ w.paired.ins i j (sym (bound_is s i) ∙ e) in
    cc

source_within : (outs : List LinkOut) (j l : ℕ) (o : Option LinkOut) → slice_get outs j ≡ o → shown_or None (λ x. x.source) o ≡ Some l → j < length outs
source_within outs j l None e is = absurd (cc)
source_within outs j l (Some p) e is = slice_get_within outs j p e

pub sourced_within : (s : State) (j l : ℕ) → IsSwitch s → source_at s.outputs j ≡ Some l → j < 32
sourced_within s j l w source = subst (λ n. j < n) w.output_links (source_within s.outputs j l (slice_get s.outputs j) refl source)

-- What a question about a link is answered.

pub grant_there : (s : State) (l : ℕ) (x : LinkIn) (b : Bool) → IsSwitch s → slice_get s.inputs l ≡ Some x → (IsTrue b ↔ HasRoom x.receiver) → IsTrue b ↔ ((l < 32) × CanGrant (seen s) l)
grant_there s l x b w here is =
    let room = grant_iff s l x b here is in
    (λ t. (is_link s.inputs l x w.input_links here, room.0 t), λ can. room.1 can.1)

pub free_there : (s : State) (j : ℕ) (p : LinkOut) (b : Bool) → IsSwitch s → slice_get s.outputs j ≡ Some p → (IsTrue b ↔ (p.source ≡ None)) → IsTrue b ↔ ((j < 32) × IsFree (seen s) j)
free_there s j p b w here is =
    let free = free_iff s j p b w here is in
    (λ t. (is_link s.outputs j p w.output_links here, free.0 t), λ h. free.1 h.1)
