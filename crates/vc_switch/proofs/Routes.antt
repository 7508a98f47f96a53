-- How a packet is bound to an output, by what changes in a switch's lists.
use Rattle.std.proofs.Common.{◌≡◌, ℕ, ◌+◌, ◌<◌, ◌≤◌, Bool, true, false, IsTrue, ◌↔◌, List, [], ◌∷◌, length, drop, refl, sym, ap, ◌∙◌, subst, arith, slice_get, slice_set, if◌then◌else◌, Option, Some, None}
use Rattle.std.proofs.lemmas.List.{length-set}
use Rattle.vc_packets.specs.Functions.{put, shown_or}
use Rattle.vc_labels.specs.declared.row.Row.{Row}
use Rattle.vc_labels.specs.declared.action.Action.TheVariants.{Out}
use Rattle.vc_labels.specs.Interval.{action_for, holds}
use Rattle.vc_labels.specs.Lawful.{HasLinks, IsLawfulFrom, starts_at}
use Rattle.vc_switch.specs.Forward.{SwitchPlan}
use Rattle.vc_switch.specs.Waiting.{Wormhole}
use Rattle.vc_switch.specs.Switch.{Input, Switch, set_input, BodyLeaves, Routes}
use Rattle.vc_switch.specs.Able.{CanLeave, CanRoute, IsFree}
use Rattle.vc_switch.specs.declared.front.Front.{Front}
use Rattle.vc_switch.specs.Front.{front_of}
use Rattle.vc_switch.specs.Private.Front.{start_of, HasFront}
use Rattle.vc_switch.specs.State.{State, IsSwitch, IsLinkIn, IsUnderWay, ArePaired, bound_at, source_at, output_of, plan_of, limit_of}
use Rattle.vc_switch.specs.SwitchView.{seen, input_of, sent_by, sent_of, sender_of}
use Rattle.vc_switch.specs.declared.link_in.LinkIn.{LinkIn}
use Rattle.vc_switch.specs.declared.link_in.Bound.{Bound}
use Rattle.vc_switch.specs.declared.link_out.LinkOut.{LinkOut}
use Rattle.vc_switch.proofs.Fronts.{gone, leaves_by}
use Rattle.vc_switch.proofs.Pairs.{paired_bound}
use Rattle.vc_switch.proofs.ListWrites.{put_back}
use Rattle.vc_switch.proofs.ListChanges.{input_at, output_at, seen-two}
use Rattle.vc_switch.proofs.Preservation.{link_in, switch_with, bound-set, source-set}
use Rattle.vc_switch.proofs.Enablement.{none_free}

none_bound : (o : Option Bound) → output_of o ≡ None → o ≡ None
none_bound None e = refl
none_bound (Some b) e = absurd (cc)

pub unbound_at : (s : State) (l : ℕ) (x : LinkIn) → slice_get s.inputs l ≡ Some x → ((seen s).input l).bound ≡ None → x.bound ≡ None
unbound_at s l x here e = none_bound x.bound (sym (ap (λ z. z.bound) (input_at s l x here)) ∙ e)

-- The choices of an input.

pub choices_busy : (s : State) (l : ℕ) (x : LinkIn) → slice_get s.inputs l ≡ Some x → (x.bound ≡ None → ⊥) → (j : ℕ) → CanLeave (plan_of s) (seen s) l j → ⊥
choices_busy s l x here busy j can = busy (unbound_at s l x here can.unbound)

-- what leaves has this front
leaving : (s : State) (l j : ℕ) (x : LinkIn) (body : List ℕ) → slice_get s.inputs l ≡ Some x → BodyLeaves (plan_of s) ((seen s).input l).got j body → BodyLeaves (plan_of s) x.got.passed j body
leaving s l j x body here h = subst (λ z. BodyLeaves (plan_of s) z.got j body) (input_at s l x here) h

pub choices_none : (s : State) (l : ℕ) (x : LinkIn) → slice_get s.inputs l ≡ Some x → front_of s.table x.got.passed ≡ None → (j : ℕ) → CanLeave (plan_of s) (seen s) l j → ⊥
choices_none s l x here none j can =
    let g = gone (plan_of s) x.got.passed j can.body (leaving s l j x can.body here can.leaves) in
    let q : None ≡ Some g.front = sym none ∙ g.is in
    absurd (cc)

links_by : (start : ℕ) (row : Row) (rows : List Row) (h first last : ℕ) (b : Bool) → IsLawfulFrom start (row ∷ rows) → (if b then Some row.action else action_for rows h) ≡ Some (Out first last) →
    (IsLawfulFrom row.limit rows → action_for rows h ≡ Some (Out first last) → HasLinks (Out first last)) → HasLinks (Out first last)
links_by start row rows h first last true lawful is next = let a : row.action ≡ Out first last = cc in subst HasLinks a lawful.3
links_by start row rows h first last false lawful is next = next lawful.4 is

pub links : (start : ℕ) (rows : List Row) (h first last : ℕ) → IsLawfulFrom start rows → action_for rows h ≡ Some (Out first last) → HasLinks (Out first last)
links start [] h first last lawful is = absurd (cc)
links start (row ∷ rows) h first last lawful is = links_by start row rows h first last (holds row h) lawful is (λ w e. links row.limit rows h first last w e)

can_leave : (s : State) (l j : ℕ) (x : LinkIn) (f : Front) → slice_get s.inputs l ≡ Some x → x.bound ≡ None → HasFront s.table x.got.passed f → f.first ≤ j → j ≤ f.last → CanLeave (plan_of s) (seen s) l j
can_leave s l j x f here idle has low high =
    let body = drop (start_of ((plan_of s).deletes j) f) x.got.passed in
    record {
      body = body;
      unbound = ap (λ z. z.bound) (input_at s l x here) ∙ ap output_of idle;
      leaves = subst (λ z. BodyLeaves (plan_of s) z.got j body) (sym (input_at s l x here)) (leaves_by (plan_of s) x.got.passed f j has low high);
    }

in_group : (s : State) (l j : ℕ) (x : LinkIn) (f : Front) → slice_get s.inputs l ≡ Some x → front_of s.table x.got.passed ≡ Some f → CanLeave (plan_of s) (seen s) l j → (f.first ≤ j) × (j ≤ f.last)
in_group s l j x f here is can =
    let g = gone (plan_of s) x.got.passed j can.body (leaving s l j x can.body here can.leaves) in
    let q : Some g.front ≡ Some f = sym g.is ∙ is in
    let same : g.front ≡ f = cc in
    (subst (λ z. z.first ≤ j) same g.low, subst (λ z. j ≤ z.last) same g.high)

abbrev pub Choices : State → ℕ → Front → Type 0
Choices s l f = (f.first ≤ f.last) × (f.last < 32) × ((j : ℕ) → CanLeave (plan_of s) (seen s) l j ↔ ((f.first ≤ j) × (j ≤ f.last)))

pub choices_some : (s : State) (l : ℕ) (x : LinkIn) (f : Front) → IsSwitch s → slice_get s.inputs l ≡ Some x → x.bound ≡ None → front_of s.table x.got.passed ≡ Some f → HasFront s.table x.got.passed f → Choices s l f
choices_some s l x f w here idle is has =
    let group = links (starts_at s.table) s.table has.header f.first f.last w.table has.group in
    (group.0, (let most = group.1 in omega (arith, most)), λ j. (λ can. in_group s l j x f here is can, λ h. can_leave s l j x f here idle has h.0 h.1))

-- a body with a front may leave by the first link of the group
pub first_leaves : (s : State) (b : List ℕ) (f : Front) → IsSwitch s → HasFront s.table b f → BodyLeaves (plan_of s) b f.first (drop (start_of ((plan_of s).deletes f.first) f) b)
first_leaves s b f w has = leaves_by (plan_of s) b f f.first has (omega arith) (links (starts_at s.table) s.table has.header f.first f.last w.table has.group).0

pub start_within : (deletes : Bool) (f : Front) (b : List ℕ) → f.at + 2 ≤ length b → start_of deletes f ≤ length b
start_within true f b long = long
start_within false f b long = omega arith

-- The outputs of a group that are free.

pub can_route : (plan : SwitchPlan) (s : Switch) (l j : ℕ) → CanLeave plan s l j → IsFree s j → CanRoute plan s l j
can_route plan s l j can free = (set_input s l (record (s.input l) { bound = Some j }), record { body = can.body; unbound = can.unbound; group = can.leaves; may_go = tt; free = free; after = refl })

pub route_leaves : (plan : SwitchPlan) (s : Switch) (l j : ℕ) → CanRoute plan s l j → CanLeave plan s l j
route_leaves plan s l j can = record { body = can.1.body; unbound = can.1.unbound; leaves = can.1.group }

pub in_group_free : (plan : SwitchPlan) (s : Switch) (l j first last : ℕ) (b : Bool) → (IsTrue b ↔ ((j < 32) × IsFree s j)) → last < 32 → ((j : ℕ) → CanLeave plan s l j ↔ ((first ≤ j) × (j ≤ last))) → (first ≤ j) × (j ≤ last) → IsTrue b ↔ CanRoute plan s l j
in_group_free plan s l j first last b free few group within =
    let high = within.1 in
    (λ t. can_route plan s l j ((group j).1 within) (free.0 t).1, λ can. free.1 (omega arith, can.1.free))

pub out_of_group : (plan : SwitchPlan) (s : Switch) (l j first last : ℕ) (b : Bool) → ((j : ℕ) → CanLeave plan s l j ↔ ((first ≤ j) × (j ≤ last))) → (IsTrue b ↔ ((first ≤ j) × (j ≤ last))) → b ≡ false → IsTrue b ↔ CanRoute plan s l j
out_of_group plan s l j first last b group within is =
    (λ t. (let h : b ≡ true = t in absurd (cc)), λ can. within.1 ((group j).0 (route_leaves plan s l j can)))

pub no_group : (plan : SwitchPlan) (s : Switch) (l j : ℕ) → ((j : ℕ) → CanLeave plan s l j → ⊥) → IsTrue false ↔ CanRoute plan s l j
no_group plan s l j none = (λ t. absurd (cc), λ can. absurd (none j (route_leaves plan s l j can)))

-- A packet is bound.

-- a front has one place
pub under_way : (s : State) (l j : ℕ) (x : LinkIn) (f : Front) (d : Bool) → slice_get s.inputs l ≡ Some x → front_of s.table x.got.passed ≡ Some f → (plan_of s).deletes j ≡ d → f.at + 2 ≤ length x.got.passed → CanRoute (plan_of s) (seen s) l j →
    IsUnderWay (plan_of s) x.got.passed (record { output = j; from = start_of d f; sent = 0 })
under_way s l j x f d here is deletes within can =
    let r = can.1 in
    let h = leaving s l j x r.body here r.group in
    let g = gone (plan_of s) x.got.passed j r.body h in
    let q : Some g.front ≡ Some f = sym g.is ∙ is in
    let same : g.front ≡ f = cc in
    record {
      leaves = subst (BodyLeaves (plan_of s) x.got.passed j) (g.left ∙ (λ i. drop (start_of (deletes i) (same i)) x.got.passed)) h;
      within = within_by d f x.got.passed within;
    }
  where
    within_by : (d : Bool) (f : Front) (got : List ℕ) → f.at + 2 ≤ length got → start_of d f + 0 ≤ length got
    within_by true f got h = omega (arith, h)
    within_by false f got h = omega (arith, h)

pub link_bound : (s : State) (l : ℕ) (x y : LinkIn) (b : Bound) → IsSwitch s → slice_get s.inputs l ≡ Some x → IsUnderWay (plan_of s) x.got.passed b → y ≡ record x { bound = Some b } → IsLinkIn (plan_of s) (limit_of s.inputs) y
link_bound s l x y b w here way is =
    let was = link_in s l x w here in
    subst (IsLinkIn (plan_of s) (limit_of s.inputs)) (sym is) (record { no_fct = was.no_fct; limit = was.limit; bound = way })

idle_source : (s : State) (j : ℕ) (p : LinkOut) → IsSwitch s → slice_get s.outputs j ≡ Some p → IsFree (seen s) j → p.source ≡ None
idle_source s j p w there free = none_free s j p p.source w there free refl

pub switch_routed : (s : State) (l j from : ℕ) (x y : LinkIn) (p q : LinkOut) → IsSwitch s → slice_get s.inputs l ≡ Some x → slice_get s.outputs j ≡ Some p → CanRoute (plan_of s) (seen s) l j →
    IsUnderWay (plan_of s) x.got.passed (record { output = j; from = from; sent = 0 }) → y ≡ record x { bound = Some (record { output = j; from = from; sent = 0 }) } → q ≡ record p { source = Some l } →
    IsSwitch (record s { inputs = slice_set s.inputs l y; outputs = slice_set s.outputs j q })
switch_routed s l j from x y p q w here there can way is source =
    let b : Bound = record { output = j; from = from; sent = 0 } in
    let idle : bound_at s.inputs l ≡ None = ap (shown_or None (λ z. output_of z.bound)) here ∙ ap output_of (unbound_at s l x here can.1.unbound) in
    let free : source_at s.outputs j ≡ None = ap (shown_or None (λ z. z.source)) there ∙ idle_source s j p w there can.1.free in
    let bounds = bound-set s.inputs l x y here ∙ ap (λ z. put (bound_at s.inputs) l (output_of z.bound)) is in
    let sources = source-set s.outputs j p q there ∙ ap (λ z. put (source_at s.outputs) j z.source) source in
    switch_with s l s.lost x y (slice_set s.outputs j q) w here (link_bound s l x y b w here way is) (length-set s.outputs j q ∙ w.output_links)
    (subst (λ f. ArePaired f (source_at (slice_set s.outputs j q))) (sym bounds)
    (subst (ArePaired (put (bound_at s.inputs) l (Some j))) (sym sources) (paired_bound (bound_at s.inputs) (source_at s.outputs) l j w.paired idle free)))

pub routes : (s : State) (l j from : ℕ) (x y : LinkIn) (p q : LinkOut) → IsSwitch s → slice_get s.inputs l ≡ Some x → slice_get s.outputs j ≡ Some p → CanRoute (plan_of s) (seen s) l j →
    y ≡ record x { bound = Some (record { output = j; from = from; sent = 0 }) } → q ≡ record p { source = Some l } →
    Routes (plan_of s) Wormhole (seen s) l j (seen (record s { inputs = slice_set s.inputs l y; outputs = slice_set s.outputs j q }))
routes s l j from x y p q w here there can is source =
    let r = can.1 in
    let idle = unbound_at s l x here r.unbound in
    let free = idle_source s j p w there r.free in
    let nothing : sent_of x ≡ [] = ap (sent_by x.got.passed) idle in
    let same : sent_of y ≡ sent_of x = ap sent_of is ∙ sym nothing in
    let i : input_of y ≡ record ((seen s).input l) { bound = Some j } = ap input_of is ∙ ap (λ (z : Input). record z { bound = Some j }) (sym (input_at s l x here)) in
    let from_l : shown_or [] sent_of (slice_get s.inputs l) ≡ [] = ap (shown_or [] sent_of) here ∙ nothing in
    let o : sender_of s.inputs q ≡ (seen s).output j =
    ap (sender_of s.inputs) source ∙ (λ t. record { sent = from_l t; credit = p.credit })
    ∙ sym (output_at s j p there ∙ ap (λ z. sender_of s.inputs (record p { source = z })) free) in
    record {
      body = r.body;
      unbound = r.unbound;
      group = r.group;
      may_go = tt;
      free = r.free;
      after = seen-two s l j x y p q here there same
          ∙ (λ t. record { input = put (seen s).input l (i t); output = put_back (seen s).output j (sender_of s.inputs q) (sym o) t; lost = s.lost });
    }
