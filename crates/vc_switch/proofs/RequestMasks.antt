-- What the packets at a switch's inputs ask for after a step, and which of them can be bound.
use Rattle.std.proofs.Common.{◌≡◌, ◌≢◌, ◌↔◌, ◌+◌, ◌-◌, ◌*◌, ◌%◌, ◌<◌, ◌≤◌, ◌^◌, ℕ, List, [], ◌∷◌, ◌++◌, append-nil, length, get_or, replicate, refl, sym, ap, ◌∙◌, subst, arith, Option, Some, None, inl, inr}
use Rattle.std.proofs.lemmas.Bool.{cases_eq, cases_lt}
use Rattle.std.proofs.lemmas.List.{get_or-replicate, length-replicate}
use Rattle.std.proofs.lemmas.Nat.{pow_below}
use Rattle.std.proofs.lemmas.Nat.Bits.{bit_at-zero, bit_at_mask_above, bit_at_mask_below, bit_at_mask_inside}
use Rattle.std.proofs.Math.ListN.{get_or-eq_default}
use Rattle.std.proofs.Math.Nat.{mod-eq_of_lt}
use Rattle.std.specs.Int.{bit_at}
use Rattle.vc_packets.specs.Functions.{put}
use Rattle.vc_packets.specs.declared.mark.Mark.{Mark}
use Rattle.vc_tokens.specs.Tokens.{Token, EndMark}
use Rattle.vc_switch.specs.Able.{CanLeave, CanRoute, IsNextRoute, NoneCanRoute, IsFree}
use Rattle.vc_switch.specs.Private.Requests.{AreAsking, AreRequested, AreRouted, HasMore, IsKnown}
use Rattle.vc_switch.specs.Forward.{SwitchPlan}
use Rattle.vc_switch.specs.Masks.{IsLowest}
use Rattle.vc_switch.specs.Private.Ready.{IsReady, Tells, Waits}
use Rattle.vc_switch.specs.SwitchView.{seen, IsKept}
use Rattle.vc_switch.specs.State.{State, plan_of, limit_of}
use Rattle.vc_switch.specs.Switch.{Switch, new_switch, BodyLeaves, HasGroup, headed, Comes, Passes, passes_byte, drops_byte, passes_mark, loses, Routes, Sends, SendsFct}
use Rattle.vc_switch.specs.Waiting.{Wormhole}
use Rattle.vc_switch.specs.declared.ready_switch.Ready.{Ready}
use Rattle.vc_switch.proofs.Fronts.{leaves_before, leaves_group, leaves_more}
use Rattle.vc_switch.proofs.Masks.{bit_within, is_zero, not_both, some_bit}
use Rattle.vc_switch.proofs.ListWrites.{put-same, put-other}
use Rattle.vc_switch.proofs.Readiness.{SameBut, OneElse, came_got, leaving_waits, passes_else, told_more}
use Rattle.vc_switch.proofs.Routes.{can_route, route_leaves}

-- The links of a group, as bits.

pub group_bits : (first last n l : ℕ) → n ≡ 2 ^ (last + 1) - 2 ^ first → (bit_at n l ≡ 1) ↔ ((first ≤ l) × (l ≤ last))
group_bits first last n l is = (
  λ e. (let one = sym (ap (λ m. bit_at m l) is) ∙ e in (
    elim (cases_lt l first) [
      | inl low ↦ absurd (not_both (bit_at_mask_below first (last + 1) l low) one)
      | inr from ↦ from
    ],
    elim (cases_lt last l) [
      | inl past ↦ absurd (not_both (bit_at_mask_above first (last + 1) l (omega (arith, past))) one)
      | inr to ↦ to
    ],
  )),
  λ within. ap (λ m. bit_at m l) is ∙ bit_at_mask_inside first (last + 1) l within.0 (let high = within.1 in omega (arith, high)),
)

pub small_pow : (k : ℕ) → k < 64 → 1 * 2 ^ k % 18446744073709551616 ≡ 2 ^ k
small_pow k less =
    let below : 2 ^ k < 2 ^ 64 = pow_below k 64 less in
    let one : 1 * 2 ^ k ≡ 2 ^ k = omega arith in
    ap (λ n. n % 18446744073709551616) one ∙ mod-eq_of_lt below

pub none_asked : (n k : ℕ) (requests : List ℕ) → requests ≡ replicate n 0 → get_or requests k 0 ≡ 0
none_asked n k requests is = elim (cases_lt k n) [
  | inl less ↦ ap (λ z. get_or z k 0) is ∙ get_or-replicate n k 0 0 less
  | inr past ↦ get_or-eq_default requests 0 (let e : length requests ≡ n = ap length is ∙ length-replicate n 0 in omega (arith, e, past))
]

-- what asks for none has no bit
pub no_bit : (m o : ℕ) → m ≡ 0 → bit_at m o ≡ 1 → ⊥
no_bit m o none one = not_both (ap (λ z. bit_at z o) none ∙ bit_at-zero o) one

-- no input asks for any output
pub none_asking : (requests : List ℕ) → requests ≡ replicate 32 0 → AreAsking requests 0
none_asking requests is = record {
  count = ap length is ∙ length-replicate {A = ℕ} 32 0;
  told = λ l less. (λ one. absurd (no_bit 0 l refl one), λ some. absurd (some (none_asked 32 l requests is)));
}

-- What is asked after a step.

-- a packet may leave that could leave before
leave_as : (s t : State) (l o : ℕ) → plan_of t ≡ plan_of s → ((seen t).input l).got ≡ ((seen s).input l).got → ((seen t).input l).bound ≡ ((seen s).input l).bound → CanLeave (plan_of s) (seen s) l o → CanLeave (plan_of t) (seen t) l o
leave_as s t l o plan got bound can = record {
  body = can.body;
  unbound = bound ∙ can.unbound;
  leaves = subst (λ p. BodyLeaves p ((seen t).input l).got o can.body) (sym plan) (subst (λ b. BodyLeaves (plan_of s) b o can.body) (sym got) can.leaves);
}

leave_same : (s t : State) (m l o : ℕ) → plan_of t ≡ plan_of s → ((seen t).input l).got ≡ ((seen s).input l).got → ((seen t).input l).bound ≡ ((seen s).input l).bound → (bit_at m o ≡ 1) ↔ CanLeave (plan_of s) (seen s) l o → (bit_at m o ≡ 1) ↔ CanLeave (plan_of t) (seen t) l o
leave_same s t m l o plan got bound was = (λ e. leave_as s t l o plan got bound (was.0 e), λ can. was.1 (leave_as t s l o (sym plan) (sym got) (sym bound) can))

-- each packet is as it was, and bound as it was
abbrev pub SamePackets : Switch → Switch → Type 0
SamePackets s t = (l : ℕ) → ((t.input l).got ≡ (s.input l).got) × ((t.input l).bound ≡ (s.input l).bound)

pub asked_same : (s t : State) (requests : List ℕ) → IsKept s t → SamePackets (seen s) (seen t) → AreRequested s requests → AreRequested t requests
asked_same s t requests kept same was = record { few = was.few; leave = λ l less o. leave_same s t (get_or requests l 0) l o kept.plan (same l).0 (same l).1 (was.leave l less o) }

-- one input is another, and this was told of what it asks for
pub asked_else : (s t : State) (link : ℕ) (requests new : List ℕ) → IsKept s t → SameBut (seen s) link (seen t) → AreRequested s requests → ((k : ℕ) → k ≢ link → get_or new k 0 ≡ get_or requests k 0) →
    get_or new link 0 < 2 ^ 32 → ((o : ℕ) → link < 32 → (bit_at (get_or new link 0) o ≡ 1) ↔ CanLeave (plan_of t) (seen t) link o) → AreRequested t new
asked_else s t link requests new kept others was same few here = record {
  few = λ l less. elim (cases_eq l link) [
    | inl e ↦ subst (λ z. get_or new z 0 < 2 ^ 32) (sym e) few
    | inr ne ↦ subst (λ m. m < 2 ^ 32) (sym (same l ne)) (was.few l less)
  ];
  leave = λ l less o. elim (cases_eq l link) [
    | inl e ↦ subst (λ z. (bit_at (get_or new z 0) o ≡ 1) ↔ CanLeave (plan_of t) (seen t) z o) (sym e) (here o (subst (λ z. z < 32) e less))
    | inr ne ↦ subst (λ m. (bit_at m o ≡ 1) ↔ CanLeave (plan_of t) (seen t) l o) (sym (same l ne))
        (leave_same s t (get_or requests l 0) l o kept.plan (ap (λ x. x.got) (others l ne)) (ap (λ x. x.bound) (others l ne)) (was.leave l less o))
  ];
}

-- A token passed.

not_headed : (v : Option ℕ) (got : List ℕ) → got ≢ [] → headed v got ≡ got
not_headed v [] some = absurd (some refl)
not_headed v (b ∷ bs) some = refl

-- a packet that may leave has bytes
leaving_some : (plan : SwitchPlan) (s : Switch) (l o : ℕ) → CanLeave plan s l o → (s.input l).got ≢ []
leaving_some plan s l o can none = let long = (leaving_waits plan s l o can).1 in let e : length (s.input l).got ≡ 0 = ap length none in absurd (omega (arith, long, e))

-- a packet that may leave is not lost, and what was there of it stays in front
grows : (limit : ℕ) (plan : SwitchPlan) (s : Switch) (l o : ℕ) (t : Switch) → CanLeave plan s l o → Passes limit plan s l t → (more : List ℕ) × ((t.input l).got ≡ (s.input l).got ++ more)
grows limit plan s l o t can (passes_byte b rest going front room is) =
    (b ∷ [], ap (λ z. (z.input l).got) is ∙ ap (λ x. x.got) (put-same s.input l _) ∙ ap (λ z. z ++ b ∷ []) (not_headed _ (s.input l).got (leaving_some plan s l o can)))
grows limit plan s l o t can (drops_byte b rest going front full is) =
    ([], ap (λ z. (z.input l).got) is ∙ ap (λ x. x.got) (put-same s.input l _) ∙ not_headed _ (s.input l).got (leaving_some plan s l o can) ∙ sym (append-nil (s.input l).got))
grows limit plan s l o t can (passes_mark m rest going front group is) =
    ([], ap (λ z. (z.input l).got) is ∙ ap (λ x. x.got) (put-same s.input l _) ∙ not_headed _ (s.input l).got (leaving_some plan s l o can) ∙ sym (append-nil (s.input l).got))
grows limit plan s l o t can (loses m rest going front none is) =
    absurd (none (subst (HasGroup plan) (sym (not_headed _ (s.input l).got (leaving_some plan s l o can))) (leaves_group plan (s.input l).got o can.body can.leaves)))

-- a packet that may leave may do so by the same outputs
leave_grown : (s t : State) (l one o : ℕ) → IsKept s t → Passes (limit_of s.inputs) (plan_of s) (seen s) l (seen t) → CanLeave (plan_of s) (seen s) l one → CanLeave (plan_of s) (seen s) l o ↔ CanLeave (plan_of t) (seen t) l o
leave_grown s t l one o kept passes can =
    let bound = (passes_else (limit_of s.inputs) (plan_of s) (seen s) l (seen t) passes).bound in
    let g = grows (limit_of s.inputs) (plan_of s) (seen s) l one (seen t) can passes in (
      λ c. record {
        body = c.body ++ g.0;
        unbound = bound ∙ c.unbound;
        leaves = subst (λ p. BodyLeaves p ((seen t).input l).got o (c.body ++ g.0)) (sym kept.plan)
            (subst (λ b. BodyLeaves (plan_of s) b o (c.body ++ g.0)) (sym g.1) (leaves_more (plan_of s) ((seen s).input l).got o c.body g.0 c.leaves));
      },
      λ c. (let longer = subst (λ b. BodyLeaves (plan_of s) b o c.body) g.1 (subst (λ p. BodyLeaves p ((seen t).input l).got o c.body) kept.plan c.leaves) in
          let before = leaves_before (plan_of s) ((seen s).input l).got g.0 one o can.body c.body can.leaves longer in
          record { body = before.0; unbound = can.unbound; leaves = before.1 }),
    )

-- what was known of its packet is known still
pub asked_still : (s t : State) (link : ℕ) (requests : List ℕ) → IsKept s t → Passes (limit_of s.inputs) (plan_of s) (seen s) link (seen t) → AreRequested s requests → link < 32 → get_or requests link 0 ≢ 0 → AreRequested t requests
asked_still s t link requests kept passes was less some =
    let one = some_bit (get_or requests link 0) (was.few link less) some in
    let can = (was.leave link less one.0).0 one.1 in
    asked_else s t link requests requests kept (passes_else (limit_of s.inputs) (plan_of s) (seen s) link (seen t) passes).others was (λ k ne. refl) (was.few link less)
    (λ o less. (let grown = leave_grown s t link one.0 o kept passes can in
    (λ e. grown.0 ((was.leave link less o).0 e), λ c. (was.leave link less o).1 (grown.1 c))))

-- nothing was known of its packet, and now it has none, or one that is bound
pub asked_idle : (s t : State) (link : ℕ) (requests : List ℕ) → IsKept s t → Passes (limit_of s.inputs) (plan_of s) (seen s) link (seen t) → AreRequested s requests → link < 32 → get_or requests link 0 ≡ 0 → (Waits ((seen t).input link) → ⊥) → AreRequested t requests
asked_idle s t link requests kept passes was less none idle =
    asked_else s t link requests requests kept (passes_else (limit_of s.inputs) (plan_of s) (seen s) link (seen t) passes).others was (λ k ne. refl) (was.few link less)
    (λ o less. (λ e. absurd (no_bit _ o none e), λ can. absurd (idle (leaving_waits (plan_of t) (seen t) link o can))))

-- an input was told of what it asks for
pub routed_told : (requests new : List ℕ) (busy link routes next : ℕ) → AreRouted requests busy routes → ((k : ℕ) → k ≢ link → get_or new k 0 ≡ get_or requests k 0) → Tells (HasMore (get_or new link 0) busy) link routes next → AreRouted new busy next
routed_told requests new busy link routes next was same tells =
    told_more (λ l. HasMore (get_or requests l 0) busy) (λ l. HasMore (get_or new l 0) busy) link routes next was tells (λ l ne. subst (λ m. HasMore m busy) (sym (same l ne))) (λ l ne. subst (λ m. HasMore m busy) (same l ne))

-- Which packets can be bound.

-- an output is free where it is not busy
bind_iff : (s : State) (r : Ready) (requests : List ℕ) (l o : ℕ) → IsReady s r → AreRequested s requests → l < 32 → ((bit_at (get_or requests l 0) o ≡ 1) × (bit_at r.puts o ≡ 0)) ↔ CanRoute (plan_of s) (seen s) l o
bind_iff s r requests l o ready are less = (
  λ h. (let few = bit_within (get_or requests l 0) o (are.few l less) h.0 in
      let free : IsFree (seen s) o = λ i e. not_both h.1 ((ready.puts o few).1 (λ f. f i e)) in
      can_route (plan_of s) (seen s) l o ((are.leave l less o).0 h.0) free),
  λ can. (let asked = (are.leave l less o).1 (route_leaves (plan_of s) (seen s) l o can) in
      let few = bit_within (get_or requests l 0) o (are.few l less) asked in
      (asked, is_zero r.puts o (λ e. (ready.puts o few).0 e can.1.free))),
)

pub route_iff : (s : State) (r : Ready) (requests : List ℕ) (routes l : ℕ) → IsKnown s r requests routes → l < 32 → (bit_at routes l ≡ 1) ↔ ((o : ℕ) × CanRoute (plan_of s) (seen s) l o)
route_iff s r requests routes l known less = (
  λ e. (let more = (known.routed l less).0 e in (more.0, (bind_iff s r requests l more.0 known.masks known.asked less).0 (more.1, more.2))),
  λ can. (let both = (bind_iff s r requests l can.0 known.masks known.asked less).1 can.1 in (known.routed l less).1 (can.0, both.0, both.1)),
)

abbrev pub NoRoute : State → Type 0
NoRoute s = NoneCanRoute (plan_of s) (seen s)

-- where no input has its bit
pub no_route : (s : State) (r : Ready) (requests : List ℕ) (routes : ℕ) → IsKnown s r requests routes → ((l : ℕ) → bit_at routes l ≡ 0) → NoRoute s
no_route s r requests routes known none i o few can = not_both (none i) ((route_iff s r requests routes i known few).1 (o, can))

-- an input that has its bit asks for an output that is not busy
pub no_output : (s : State) (r : Ready) (requests : List ℕ) (routes input asked left : ℕ) → IsKnown s r requests routes → input < 32 → bit_at routes input ≡ 1 → asked ≡ get_or requests input 0 → ((o : ℕ) → (bit_at left o ≡ 1) ↔ ((bit_at asked o ≡ 1) × (bit_at r.puts o ≡ 0))) → ((o : ℕ) → bit_at left o ≡ 0) → ⊥
no_output s r requests routes input asked left known few has is left_is none =
    let more = (known.routed input few).0 has in
    not_both (none more.0) ((left_is more.0).1 (ap (λ m. bit_at m more.0) is ∙ more.1, more.2))

abbrev pub NextRoute : State → ℕ → ℕ → Type 0
NextRoute s input output = (input < 32) × (output < 32) × IsNextRoute (plan_of s) (seen s) input output

-- the least input that has its bit, and the least output that it asks for and that is not busy
pub least_route : (s : State) (r : Ready) (requests : List ℕ) (routes input output asked left : ℕ) → IsKnown s r requests routes → (input < 32) × IsLowest routes input → asked ≡ get_or requests input 0 →
    ((o : ℕ) → (bit_at left o ≡ 1) ↔ ((bit_at asked o ≡ 1) × (bit_at r.puts o ≡ 0))) → (output < 32) × IsLowest left output → NextRoute s input output
least_route s r requests routes input output asked left known at is left_is out =
    let few = at.0 in
    let bind : (o : ℕ) → ((bit_at (get_or requests input 0) o ≡ 1) × (bit_at r.puts o ≡ 0)) ↔ CanRoute (plan_of s) (seen s) input o = λ o. bind_iff s r requests input o known.masks known.asked few in
    let both = (left_is output).0 out.1.0 in (
      few,
      out.0,
      record {
        can = (bind output).0 (sym (ap (λ m. bit_at m output) is) ∙ both.0, both.1);
        least = λ l o low can. (let below : l < 32 = omega (arith, few, low) in not_both (at.1.1 l low) ((route_iff s r requests routes l known below).1 (o, can)));
        first = λ o low can. (let has = (bind o).1 can in not_both (out.1.1 o low) ((left_is o).1 (ap (λ m. bit_at m o) is ∙ has.0, has.1)));
      },
    )

-- Which packets a step leaves as they are.

same_one : (s t : Switch) (link : ℕ) → SameBut s link t → (t.input link).got ≡ (s.input link).got → (t.input link).bound ≡ (s.input link).bound → SamePackets s t
same_one s t link others got bound = λ l. elim (cases_eq l link) [
  | inl e ↦ subst (λ z. ((t.input z).got ≡ (s.input z).got) × ((t.input z).bound ≡ (s.input z).bound)) (sym e) (got, bound)
  | inr ne ↦ (ap (λ x. x.got) (others l ne), ap (λ x. x.bound) (others l ne))
]

pub came_same : (s : Switch) (link word : ℕ) (k : Token) (t : Switch) → Comes s link word k t → OneElse s link t → SamePackets s t
came_same s link word k t h one = same_one s t link one.others (came_got s link word k t h) one.bound

pub granted_same : (s : Switch) (link : ℕ) (t : Switch) → SendsFct s link t → OneElse s link t → SamePackets s t
granted_same s link t h one = same_one s t link one.others (ap (λ z. (z.input link).got) h.after ∙ ap (λ x. x.got) (put-same s.input link _)) one.bound

pub sent_same : (s t : Switch) → t.input ≡ s.input → SamePackets s t
sent_same s t e = λ l. (ap (λ f. (f l).got) e, ap (λ f. (f l).bound) e)

-- a packet was bound to an output: it asks for none
pub asked_routed : (s t : State) (link output : ℕ) (requests new : List ℕ) → IsKept s t → Routes (plan_of s) Wormhole (seen s) link output (seen t) → AreRequested s requests → get_or new link 0 ≡ 0 → ((k : ℕ) → k ≢ link → get_or new k 0 ≡ get_or requests k 0) → AreRequested t new
asked_routed s t link output requests new kept routes was it others =
    let is = ap (λ z. z.input) routes.after in
    let here : ((seen t).input link).bound ≡ Some output = ap (λ f. (f link).bound) is ∙ ap (λ x. x.bound) (put-same (seen s).input link _) in
    asked_else s t link requests new kept (λ l ne. ap (λ f. f l) is ∙ put-other (seen s).input link l _ ne) was others (omega (arith, it))
    (λ o less. (λ e. absurd (no_bit _ o it e), λ can. absurd (let e : None ≡ Some output = sym can.unbound ∙ here in cc)))

-- a packet is gone with its mark
pub asked_marked : (s t : State) (link output : ℕ) (m : Mark) (requests : List ℕ) → IsKept s t → Sends (plan_of s) Wormhole (seen s) output (EndMark m) (seen t) → ((seen s).input link).bound ≡ Some output → link < 32 → AreRequested s requests → AreRequested t requests
asked_marked s t link output m requests kept sends bound less was =
    let same : sends.link ≡ link = sym (sends.only link bound) in
    let is = ap (λ z. z.input) sends.after ∙ ap (λ j. put (seen s).input j (record ((seen s).input j) { got = []; mark = None; bound = None })) same in
    let empty : ((seen t).input link).got ≡ [] = ap (λ f. (f link).got) is ∙ ap (λ x. x.got) (put-same (seen s).input link _) in
    asked_else s t link requests requests kept (λ l ne. ap (λ f. f l) is ∙ put-other (seen s).input link l _ ne) was (λ k ne. refl) (was.few link less)
    (λ o less. (
      λ e. absurd (let q : None ≡ Some output = sym ((was.leave link less o).0 e).unbound ∙ bound in cc),
      λ can. absurd (leaving_some (plan_of t) (seen t) link o can empty),
    ))

-- What is asked as the switch begins.

pub asked_first : (s : State) (requests : List ℕ) → seen s ≡ new_switch → ((k : ℕ) → get_or requests k 0 ≡ 0) → AreRequested s requests
asked_first s requests e none = record {
  few = λ l less. (let zero = none l in omega (arith, zero));
  leave = λ l less o. (λ one. absurd (no_bit _ o (none l) one), λ can. absurd (leaving_some (plan_of s) (seen s) l o can (ap (λ z. (z.input l).got) e)));
}

pub routed_first : (requests : List ℕ) (busy : ℕ) → ((k : ℕ) → get_or requests k 0 ≡ 0) → AreRouted requests busy 0
routed_first requests busy none = λ l less. (λ one. absurd (no_bit 0 l refl one), λ more. absurd (no_bit _ more.0 (none l) more.1))
