-- A change of one input or one output keeps what a switch keeps.
use Rattle.std.proofs.Common.{◌≡◌, ℕ, zero, suc, ◌+◌, ◌≤◌, List, [], ◌∷◌, ◌++◌, length, take, drop, refl, sym, ap, ◌∙◌, subst, arith, slice_get, slice_set, Option, Some, None, length-append}
use Rattle.std.proofs.lemmas.List.{length-set, take-append-le, drop-append-le, length-drop}
use Rattle.std.proofs.lemmas.Option.{slice_get_within}
use Rattle.std.specs.List.{AllByRecursion}
use Rattle.vc_packets.specs.Functions.{put, shown_or}
use Rattle.vc_switch.specs.Forward.{SwitchPlan}
use Rattle.vc_switch.specs.Switch.{headed, BodyLeaves}
use Rattle.vc_switch.specs.State.{State, IsSwitch, IsLinkIn, IsUnderWay, MayBeBound, ArePaired, bound_at, source_at, output_of, limit_of, plan_of}
use Rattle.vc_switch.specs.SwitchView.{IsKept, sent_by}
use Rattle.vc_switch.specs.declared.link_in.LinkIn.{LinkIn}
use Rattle.vc_switch.specs.declared.link_in.Bound.{Bound}
use Rattle.vc_switch.specs.declared.link_out.LinkOut.{LinkOut}
use Rattle.vc_switch.proofs.Fronts.{gone, leaves_more}
use Rattle.vc_switch.proofs.ListWrites.{put_back, by_place-set, all-set, all-at}

limit_stays : (xs : List LinkIn) (l : ℕ) (x y : LinkIn) → slice_get xs l ≡ Some x → y.got.limit ≡ x.got.limit → limit_of (slice_set xs l y) ≡ limit_of xs
limit_stays [] l x y here same = refl
limit_stays (z ∷ xs) zero x y here same = let q : z ≡ x = cc in same ∙ sym (ap (λ z. z.got.limit) q)
limit_stays (z ∷ xs) (suc l) x y here same = refl

-- what an input is by the invariant
pub link_in : (s : State) (l : ℕ) (x : LinkIn) → IsSwitch s → slice_get s.inputs l ≡ Some x → IsLinkIn (plan_of s) (limit_of s.inputs) x
link_in s l x w here = all-at (IsLinkIn (plan_of s) (limit_of s.inputs)) s.inputs l x w.inputs here

pub kept : (s : State) (l n : ℕ) (x y : LinkIn) (outs : List LinkOut) → IsSwitch s → slice_get s.inputs l ≡ Some x → IsLinkIn (plan_of s) (limit_of s.inputs) y →
    IsKept s (record s { inputs = slice_set s.inputs l y; outputs = outs; lost = n })
kept s l n x y outs w here is = record { plan = refl; limit = limit_stays s.inputs l x y here (is.limit ∙ sym (link_in s l x w here).limit) }

-- an input has room for a header
pub room_at : (s : State) (l : ℕ) (x : LinkIn) → IsSwitch s → slice_get s.inputs l ≡ Some x → 2 ≤ x.got.limit
room_at s l x w here = subst (λ m. 2 ≤ m) (sym (link_in s l x w here).limit) w.room

-- with other outputs, of which the sources are paired with the inputs
pub switch_with : (s : State) (l n : ℕ) (x y : LinkIn) (outs : List LinkOut) → IsSwitch s → slice_get s.inputs l ≡ Some x → IsLinkIn (plan_of s) (limit_of s.inputs) y → length outs ≡ 32 → ArePaired (bound_at (slice_set s.inputs l y)) (source_at outs) →
    IsSwitch (record s { inputs = slice_set s.inputs l y; outputs = outs; lost = n })
switch_with s l n x y outs w here is count paired =
    let limit = limit_stays s.inputs l x y here (is.limit ∙ sym (link_in s l x w here).limit) in
    record {
      range_links = w.range_links;
      delete_links = w.delete_links;
      input_links = length-set s.inputs l y ∙ w.input_links;
      output_links = count;
      table = w.table;
      ranges = w.ranges;
      room = subst (λ m. 2 ≤ m) (sym limit) w.room;
      inputs = subst (λ m. AllByRecursion (IsLinkIn (plan_of s) m) (slice_set s.inputs l y)) (sym limit) (all-set (IsLinkIn (plan_of s) (limit_of s.inputs)) s.inputs l y w.inputs is);
      paired = paired;
    }

pub bound-set : (xs : List LinkIn) (l : ℕ) (x y : LinkIn) → slice_get xs l ≡ Some x → bound_at (slice_set xs l y) ≡ put (bound_at xs) l (output_of y.bound)
bound-set xs l x y here = by_place-set (λ x. output_of x.bound) None xs l y (slice_get_within xs l x here)

pub source-set : (ps : List LinkOut) (j : ℕ) (p q : LinkOut) → slice_get ps j ≡ Some p → source_at (slice_set ps j q) ≡ put (source_at ps) j q.source
source-set ps j p q here = by_place-set (λ x. x.source) None ps j q (slice_get_within ps j p here)

pub bound-kept : (xs : List LinkIn) (l : ℕ) (x y : LinkIn) → slice_get xs l ≡ Some x → output_of y.bound ≡ output_of x.bound → bound_at (slice_set xs l y) ≡ bound_at xs
bound-kept xs l x y here same = bound-set xs l x y here ∙ put_back (bound_at xs) l (output_of y.bound) (ap (shown_or None (λ x. output_of x.bound)) here ∙ sym same)

pub source-kept : (ps : List LinkOut) (j : ℕ) (p q : LinkOut) → slice_get ps j ≡ Some p → q.source ≡ p.source → source_at (slice_set ps j q) ≡ source_at ps
source-kept ps j p q here same = source-set ps j p q here ∙ put_back (source_at ps) j q.source (ap (shown_or None (λ x. x.source)) here ∙ sym same)

-- one input is another, bound as before
pub switch_in : (s : State) (l n : ℕ) (x y : LinkIn) → IsSwitch s → slice_get s.inputs l ≡ Some x → IsLinkIn (plan_of s) (limit_of s.inputs) y → output_of y.bound ≡ output_of x.bound →
    IsSwitch (record s { inputs = slice_set s.inputs l y; lost = n })
switch_in s l n x y w here is same =
    switch_with s l n x y s.outputs w here is w.output_links (subst (λ f. ArePaired f (source_at s.outputs)) (sym (bound-kept s.inputs l x y here same)) w.paired)

-- and so is one output
pub switch_two : (s : State) (l j n : ℕ) (x y : LinkIn) (p q : LinkOut) → IsSwitch s → slice_get s.inputs l ≡ Some x → IsLinkIn (plan_of s) (limit_of s.inputs) y → output_of y.bound ≡ output_of x.bound →
    slice_get s.outputs j ≡ Some p → q.source ≡ p.source → IsSwitch (record s { inputs = slice_set s.inputs l y; outputs = slice_set s.outputs j q; lost = n })
switch_two s l j n x y p q w here is same there source =
    switch_with s l n x y (slice_set s.outputs j q) w here is (length-set s.outputs j q ∙ w.output_links)
    (subst (λ f. ArePaired f (source_at (slice_set s.outputs j q))) (sym (bound-kept s.inputs l x y here same))
    (subst (ArePaired (bound_at s.inputs)) (sym (source-kept s.outputs j p q there source)) w.paired))

-- An input of which a token passes.

-- what is bound has a byte, and no header goes before it
pub begun : (plan : SwitchPlan) (got : List ℕ) (b : Bound) (v : Option ℕ) → IsUnderWay plan got b → headed v got ≡ got
begun plan [] b v h = let g = gone plan [] b.output (drop b.from []) h.leaves in let e = g.is in absurd (cc)
begun plan (g ∷ got) b v h = refl

under_way_more : (plan : SwitchPlan) (got more : List ℕ) (b : Bound) → IsUnderWay plan got b → IsUnderWay plan (got ++ more) b
under_way_more plan got more b h =
    let within = h.within in
    let from : b.from ≤ length got = omega arith in
    record {
      leaves = subst (λ d. BodyLeaves plan (got ++ more) b.output d) (sym (drop-append-le b.from got more from)) (leaves_more plan got b.output (drop b.from got) more h.leaves);
      within = (let n = length-append got more in omega (arith, n, within));
    }

sent_more : (got more : List ℕ) (b : Bound) → b.from + b.sent ≤ length got → take b.sent (drop b.from (got ++ more)) ≡ take b.sent (drop b.from got)
sent_more got more b within =
    let from : b.from ≤ length got = omega arith in
    let n = length-drop b.from got in
    ap (take b.sent) (drop-append-le b.from got more from) ∙ take-append-le b.sent (drop b.from got) more (omega (arith, n, within))

-- more of the packet has come
pub bound_more : (plan : SwitchPlan) (got more : List ℕ) (o : Option Bound) (v : Option ℕ) → MayBeBound plan got o → MayBeBound plan (headed v got ++ more) o
bound_more plan got more None v h = tt
bound_more plan got more (Some b) v h = subst (λ z. IsUnderWay plan (z ++ more) b) (sym (begun plan got b v h)) (under_way_more plan got more b h)

pub sent_stays : (plan : SwitchPlan) (got more : List ℕ) (o : Option Bound) (v : Option ℕ) → MayBeBound plan got o → sent_by (headed v got ++ more) o ≡ sent_by got o
sent_stays plan got more None v h = refl
sent_stays plan got more (Some b) v h = ap (λ z. sent_by (z ++ more) (Some b)) (begun plan got b v h) ∙ sent_more got more b h.within
