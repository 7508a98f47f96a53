-- The steps of a switch, by what changes in its lists.
use Rattle.std.proofs.Common.{◌≡◌, ◌≢◌, ℕ, ◌+◌, ◌<◌, ◌≤◌, List, [], ◌∷◌, ◌++◌, length, drop, refl, sym, ap, ◌∙◌, subst, arith, slice_get, slice_set, append-nil, Option, Some, None, inl, inr}
use Rattle.std.specs.List.{AllByRecursion}
use Rattle.std.proofs.lemmas.Bool.{cases_lt}
use Rattle.vc_packets.specs.Counters.{one_more}
use Rattle.vc_packets.specs.Functions.{put, shown_or}
use Rattle.vc_tokens.specs.Tokens.{Token, Byte, Fct, EndMark}
use Rattle.vc_packets.specs.declared.mark.Mark.{Mark}
use Rattle.vc_credit.specs.Ends.{Receiver, Grants, credited, received, Passes as PassesOn}
use Rattle.vc_credit.specs.Laws.{NeedsPlace}
use Rattle.vc_switch.specs.Able.{EachTokenComes}
use Rattle.vc_switch.specs.Forward.{SwitchPlan, least_of}
use Rattle.vc_switch.specs.Switch.{Input, Switch, set_input, with_token, Comes, due, not_due, drawn, headed, with_header, passing, Passes, passes_byte, drops_byte, passes_mark, loses, BodyLeaves, HasGroup, SendsFct}
use Rattle.vc_switch.specs.Front.{front_of}
use Rattle.vc_switch.specs.Private.Front.{HasFront}
use Rattle.vc_switch.specs.State.{State, IsSwitch, IsLinkIn, IsRange, MayBeBound, interval_of, plan_of, limit_of}
use Rattle.vc_switch.specs.SwitchView.{seen, input_of, sent_of, sent_by, sender_of}
use Rattle.vc_switch.specs.declared.front.Front.{Front}
use Rattle.vc_switch.specs.declared.random_range.RandomRange.{RandomRange}
use Rattle.vc_switch.specs.declared.link_in.LinkIn.{LinkIn}
use Rattle.vc_switch.specs.declared.link_in.Bound.{Bound}
use Rattle.vc_switch.specs.declared.link_out.LinkOut.{LinkOut}
use Rattle.vc_switch.proofs.Fronts.{gone, group_of, grouped}
use Rattle.vc_switch.proofs.ListWrites.{put_back}
use Rattle.vc_switch.proofs.ListChanges.{input_at, output_at, seen-in, seen-two}
use Rattle.vc_switch.proofs.Preservation.{link_in, begun, bound_more, sent_stays}

pub each_comes : EachTokenComes
each_comes old l word Fct = elim (cases_lt 8 (old.output l).credit) [
  | inl high ↦ (record (set_input old l (record (old.input l) { word = word })) { lost = one_more old.lost }, not_due (λ low. omega arith) refl)
  | inr low ↦ (with_token old l word Fct, due low refl)
]
each_comes old l word (Byte b) = elim (cases_lt 0 (old.input l).receiver.promised) [
  | inl place ↦ (with_token old l word (Byte b), due place refl)
  | inr none ↦ (record (set_input old l (record (old.input l) { word = word })) { lost = one_more old.lost }, not_due (λ place. omega arith) refl)
]
each_comes old l word (EndMark m) = elim (cases_lt 0 (old.input l).receiver.promised) [
  | inl place ↦ (with_token old l word (EndMark m), due place refl)
  | inr none ↦ (record (set_input old l (record (old.input l) { word = word })) { lost = one_more old.lost }, not_due (λ place. omega arith) refl)
]

-- A token comes.

data_shown : (s : State) (l word : ℕ) (x y : LinkIn) (k : Token) → slice_get s.inputs l ≡ Some x → y ≡ record x { receiver = received x.receiver k; word = word } →
    seen (record s { inputs = slice_set s.inputs l y }) ≡ set_input (seen s) l (record ((seen s).input l) { receiver = received ((seen s).input l).receiver k; word = word })
data_shown s l word x y k here is =
    seen-in s l s.lost x y here (ap sent_of is)
    ∙ ap (set_input (seen s) l) (ap input_of is ∙ ap (λ (z : Input). record z { receiver = received z.receiver k; word = word }) (sym (input_at s l x here)))

pub data_due : (s : State) (l word : ℕ) (x y : LinkIn) (k : Token) → NeedsPlace k → slice_get s.inputs l ≡ Some x → 0 < x.receiver.promised → y ≡ record x { receiver = received x.receiver k; word = word } →
    Comes (seen s) l word k (seen (record s { inputs = slice_set s.inputs l y }))
data_due s l word x y Fct needs here place is = absurd (cc)
data_due s l word x y (Byte b) needs here place is =
    due (subst (λ z. 0 < z.receiver.promised) (sym (input_at s l x here)) place) (data_shown s l word x y (Byte b) here is)
data_due s l word x y (EndMark m) needs here place is =
    due (subst (λ z. 0 < z.receiver.promised) (sym (input_at s l x here)) place) (data_shown s l word x y (EndMark m) here is)

word_shown : (s : State) (l word : ℕ) (x y : LinkIn) → slice_get s.inputs l ≡ Some x → y ≡ record x { word = word } →
    seen (record s { inputs = slice_set s.inputs l y; lost = one_more s.lost }) ≡ record (set_input (seen s) l (record ((seen s).input l) { word = word })) { lost = one_more s.lost }
word_shown s l word x y here is =
    seen-in s l (one_more s.lost) x y here (ap sent_of is)
    ∙ ap (λ z. record (set_input (seen s) l z) { lost = one_more s.lost }) (ap input_of is ∙ ap (λ (z : Input). record z { word = word }) (sym (input_at s l x here)))

pub data_dropped : (s : State) (l word : ℕ) (x y : LinkIn) (k : Token) → NeedsPlace k → slice_get s.inputs l ≡ Some x → (0 < x.receiver.promised → ⊥) → y ≡ record x { word = word } →
    Comes (seen s) l word k (seen (record s { inputs = slice_set s.inputs l y; lost = one_more s.lost }))
data_dropped s l word x y Fct needs here full is = absurd (cc)
data_dropped s l word x y (Byte b) needs here full is =
    not_due (λ place. full (subst (λ z. 0 < z.receiver.promised) (input_at s l x here) place)) (word_shown s l word x y here is)
data_dropped s l word x y (EndMark m) needs here full is =
    not_due (λ place. full (subst (λ z. 0 < z.receiver.promised) (input_at s l x here) place)) (word_shown s l word x y here is)

pub fct_due : (s : State) (l word : ℕ) (x y : LinkIn) (p q : LinkOut) → slice_get s.inputs l ≡ Some x → slice_get s.outputs l ≡ Some p → y ≡ record x { word = word } → p.credit ≤ 8 → q ≡ record p { credit = p.credit + 8 } →
    Comes (seen s) l word Fct (seen (record s { inputs = slice_set s.inputs l y; outputs = slice_set s.outputs l q }))
fct_due s l word x y p q here there is low more =
    let i = ap input_of is ∙ ap (λ (z : Input). record z { word = word }) (sym (input_at s l x here)) in
    let o = ap (sender_of s.inputs) more ∙ ap credited (sym (output_at s l p there)) in
    due (subst (λ z. z.credit ≤ 8) (sym (output_at s l p there)) low)
    (seen-two s l l x y p q here there (ap sent_of is) ∙ (λ t. record { input = put (seen s).input l (i t); output = put (seen s).output l (o t); lost = s.lost }))

pub fct_dropped : (s : State) (l word : ℕ) (x y : LinkIn) (p q : LinkOut) → slice_get s.inputs l ≡ Some x → slice_get s.outputs l ≡ Some p → y ≡ record x { word = word } → (p.credit ≤ 8 → ⊥) → q ≡ p →
    Comes (seen s) l word Fct (seen (record s { inputs = slice_set s.inputs l y; outputs = slice_set s.outputs l q; lost = one_more s.lost }))
fct_dropped s l word x y p q here there is high same =
    let i = ap input_of is ∙ ap (λ (z : Input). record z { word = word }) (sym (input_at s l x here)) in
    let o = ap (sender_of s.inputs) same ∙ sym (output_at s l p there) in
    not_due (λ low. high (subst (λ z. z.credit ≤ 8) (output_at s l p there) low))
    (ap (λ (z : Switch). record z { lost = one_more s.lost }) (seen-two s l l x y p q here there (ap sent_of is))
    ∙ (λ t. record { input = put (seen s).input l (i t); output = put_back (seen s).output l (sender_of s.inputs q) (sym o) t; lost = one_more s.lost }))

-- a token that came is in the buffer, and is no FCT
all_more : (ks : List Token) (k : Token) → AllByRecursion (λ k. k ≢ Fct) ks → k ≢ Fct → AllByRecursion (λ k. k ≢ Fct) (ks ++ k ∷ [])
all_more [] k h n = (n, tt)
all_more (j ∷ ks) k h n = (h.0, all_more ks k h.1 n)

no_fct : (k : Token) → NeedsPlace k → k ≢ Fct
no_fct Fct needs e = absurd (cc)
no_fct (Byte b) needs e = cc
no_fct (EndMark m) needs e = cc

pub link_came : (plan : SwitchPlan) (most word : ℕ) (x y : LinkIn) (k : Token) → NeedsPlace k → IsLinkIn plan most x → y ≡ record x { receiver = received x.receiver k; word = word } → IsLinkIn plan most y
link_came plan most word x y k needs w is =
    subst (IsLinkIn plan most) (sym is) (record { no_fct = all_more x.receiver.buffer k w.no_fct (no_fct k needs); limit = w.limit; bound = w.bound })

pub link_word : (plan : SwitchPlan) (most word : ℕ) (x y : LinkIn) → IsLinkIn plan most x → y ≡ record x { word = word } → IsLinkIn plan most y
link_word plan most word x y w is = subst (IsLinkIn plan most) (sym is) (record { no_fct = w.no_fct; limit = w.limit; bound = w.bound })

-- An FCT goes out.

pub grants_fct : (s : State) (l : ℕ) (x y : LinkIn) → slice_get s.inputs l ≡ Some x → Grants x.receiver y.receiver → y ≡ record x { receiver = y.receiver } →
    SendsFct (seen s) l (seen (record s { inputs = slice_set s.inputs l y }))
grants_fct s l x y here grants is = record {
  receiver = y.receiver;
  grants = subst (λ z. Grants z.receiver y.receiver) (sym (input_at s l x here)) grants;
  after = seen-in s l s.lost x y here (ap sent_of is)
      ∙ ap (set_input (seen s) l) (ap input_of is ∙ ap (λ (z : Input). record z { receiver = y.receiver }) (sym (input_at s l x here)));
}

pub link_granted : (plan : SwitchPlan) (most : ℕ) (x y : LinkIn) → IsLinkIn plan most x → Grants x.receiver y.receiver → y ≡ record x { receiver = y.receiver } → IsLinkIn plan most y
link_granted plan most x y w grants is =
    subst (IsLinkIn plan most) (sym is) (record { no_fct = subst (λ r. AllByRecursion (λ k. k ≢ Fct) r.buffer) (sym grants.after) w.no_fct; limit = w.limit; bound = w.bound })

-- A token passes.

-- the header that a word draws at a link
pub header_at : (s : State) (l word : ℕ) (r : Option RandomRange) → slice_get s.ranges l ≡ Some r → drawn (interval_of r) word ≡ drawn ((plan_of s).random l) word
header_at s l word r here = ap (λ z. drawn z word) (sym (ap (shown_or None interval_of) here))

-- and it is the least
pub least_is : (r : Option RandomRange) → IsRange r → drawn (interval_of r) 0 ≡ least_of (interval_of r)
least_is None is = refl
least_is (Some r) is = ap Some (omega arith)

-- the bytes got with the header in front, as the steps say it
got_at : (s : State) (l : ℕ) (x : LinkIn) (v : Option ℕ) → slice_get s.inputs l ≡ Some x → v ≡ drawn ((plan_of s).random l) x.word → headed v x.got.passed ≡ with_header (plan_of s) l ((seen s).input l)
got_at s l x v here is = ap (λ z. headed z x.got.passed) is ∙ ap (with_header (plan_of s) l) (sym (input_at s l x here))

-- a receiver of which the front has passed
popped : (r n : Receiver) (k : Token) → PassesOn r k n → n ≡ record r { buffer = n.buffer }
popped r n k h = λ t. record { buffer = n.buffer; promised = h.promised t }

passing_is : (a : Input) (x y : LinkIn) (k : Token) (got : List ℕ) (m : Option Mark) → a ≡ input_of x → PassesOn x.receiver k y.receiver → input_of y ≡ record (input_of x) { receiver = y.receiver; got = got; mark = m } →
    input_of y ≡ passing a y.receiver.buffer got m
passing_is a x y k got m same h is =
    is ∙ (λ t. record (input_of x) { receiver = popped x.receiver y.receiver k h t; got = got; mark = m }) ∙ ap (λ z. passing z y.receiver.buffer got m) (sym same)

pub byte_passes : (s : State) (l b : ℕ) (v : Option ℕ) (x y : LinkIn) → IsSwitch s → slice_get s.inputs l ≡ Some x → v ≡ drawn ((plan_of s).random l) x.word → x.mark ≡ None → PassesOn x.receiver (Byte b) y.receiver →
    length (headed v x.got.passed) < x.got.limit → y ≡ record x { receiver = y.receiver; got = record x.got { passed = headed v x.got.passed ++ b ∷ [] } } →
    Passes (limit_of s.inputs) (plan_of s) (seen s) l (seen (record s { inputs = slice_set s.inputs l y }))
byte_passes s l b v x y w here drew going h room is =
    let at = input_at s l x here in
    let got = got_at s l x v here drew in
    let is_in = link_in s l x w here in
    let same = ap sent_of is ∙ sent_stays (plan_of s) x.got.passed (b ∷ []) x.bound v is_in.bound in
    passes_byte b y.receiver.buffer (ap (λ z. z.mark) at ∙ going) (ap (λ z. z.receiver.buffer) at ∙ h.front)
    (subst (λ z. length z < limit_of s.inputs) got (subst (λ m. length (headed v x.got.passed) < m) is_in.limit room))
    (seen-in s l s.lost x y here same
    ∙ ap (set_input (seen s) l) (passing_is ((seen s).input l) x y (Byte b) (with_header (plan_of s) l ((seen s).input l) ++ b ∷ []) None at h
    (ap input_of is ∙ (λ t. record (input_of x) { receiver = y.receiver; got = got t ++ b ∷ []; mark = going t }))))

-- no byte more
same_sent : (plan : SwitchPlan) (got : List ℕ) (o : Option Bound) (v : Option ℕ) → MayBeBound plan got o → sent_by (headed v got) o ≡ sent_by got o
same_sent plan got o v h = sym (ap (λ z. sent_by z o) (append-nil (headed v got))) ∙ sent_stays plan got [] o v h

same_bound : (plan : SwitchPlan) (got : List ℕ) (o : Option Bound) (v : Option ℕ) → MayBeBound plan got o → MayBeBound plan (headed v got) o
same_bound plan got o v h = subst (λ z. MayBeBound plan z o) (append-nil (headed v got)) (bound_more plan got [] o v h)

pub byte_drops : (s : State) (l b : ℕ) (v : Option ℕ) (x y : LinkIn) → IsSwitch s → slice_get s.inputs l ≡ Some x → v ≡ drawn ((plan_of s).random l) x.word → x.mark ≡ None → PassesOn x.receiver (Byte b) y.receiver →
    (length (headed v x.got.passed) < x.got.limit → ⊥) → y ≡ record x { receiver = y.receiver; got = record x.got { passed = headed v x.got.passed } } →
    Passes (limit_of s.inputs) (plan_of s) (seen s) l (seen (record s { inputs = slice_set s.inputs l y; lost = one_more s.lost }))
byte_drops s l b v x y w here drew going h full is =
    let at = input_at s l x here in
    let got = got_at s l x v here drew in
    let is_in = link_in s l x w here in
    let least : x.got.limit ≤ length (headed v x.got.passed) = omega (arith, full) in
    let same = ap sent_of is ∙ same_sent (plan_of s) x.got.passed x.bound v is_in.bound in
    drops_byte b y.receiver.buffer (ap (λ z. z.mark) at ∙ going) (ap (λ z. z.receiver.buffer) at ∙ h.front)
    (subst (λ z. limit_of s.inputs ≤ length z) got (subst (λ m. m ≤ length (headed v x.got.passed)) is_in.limit least))
    (seen-in s l (one_more s.lost) x y here same
    ∙ ap (λ z. record (set_input (seen s) l z) { lost = one_more s.lost }) (passing_is ((seen s).input l) x y (Byte b) (with_header (plan_of s) l ((seen s).input l)) None at h
    (ap input_of is ∙ (λ t. record (input_of x) { receiver = y.receiver; got = got t; mark = going t }))))

pub mark_passes : (s : State) (l : ℕ) (m : Mark) (f : Front) (v : Option ℕ) (x y : LinkIn) → IsSwitch s → slice_get s.inputs l ≡ Some x → v ≡ drawn ((plan_of s).random l) x.word → x.mark ≡ None → PassesOn x.receiver (EndMark m) y.receiver →
    HasFront s.table (headed v x.got.passed) f → y ≡ record x { receiver = y.receiver; got = record x.got { passed = headed v x.got.passed }; mark = Some m } →
    Passes (limit_of s.inputs) (plan_of s) (seen s) l (seen (record s { inputs = slice_set s.inputs l y }))
mark_passes s l m f v x y w here drew going h has is =
    let at = input_at s l x here in
    let got = got_at s l x v here drew in
    let same = ap sent_of is ∙ same_sent (plan_of s) x.got.passed x.bound v (link_in s l x w here).bound in
    passes_mark m y.receiver.buffer (ap (λ z. z.mark) at ∙ going) (ap (λ z. z.receiver.buffer) at ∙ h.front)
    (subst (HasGroup (plan_of s)) got (group_of (plan_of s) (headed v x.got.passed) f has))
    (seen-in s l s.lost x y here same
    ∙ ap (set_input (seen s) l) (passing_is ((seen s).input l) x y (EndMark m) (with_header (plan_of s) l ((seen s).input l)) (Some m) at h
    (ap input_of is ∙ (λ t. record (input_of x) { receiver = y.receiver; got = got t; mark = Some m }))))

-- a packet without a group is not bound
idle_by : (plan : SwitchPlan) (got : List ℕ) (o : Option Bound) (v : Option ℕ) → MayBeBound plan got o → front_of plan.table (headed v got) ≡ None → o ≡ None
idle_by plan got None v h none = refl
idle_by plan got (Some b) v h none =
    let g = gone plan (headed v got) b.output (drop b.from got) (subst (λ z. BodyLeaves plan z b.output (drop b.from got)) (sym (begun plan got b v h)) h.leaves) in
    let q : None ≡ Some g.front = sym none ∙ g.is in
    absurd (cc)

pub mark_loses : (s : State) (l : ℕ) (m : Mark) (v : Option ℕ) (x y : LinkIn) → IsSwitch s → slice_get s.inputs l ≡ Some x → v ≡ drawn ((plan_of s).random l) x.word → x.mark ≡ None → PassesOn x.receiver (EndMark m) y.receiver →
    front_of s.table (headed v x.got.passed) ≡ None → y ≡ record x { receiver = y.receiver; got = record x.got { passed = [] } } →
    Passes (limit_of s.inputs) (plan_of s) (seen s) l (seen (record s { inputs = slice_set s.inputs l y; lost = one_more s.lost }))
mark_loses s l m v x y w here drew going h none is =
    let at = input_at s l x here in
    let got = got_at s l x v here drew in
    let idle = idle_by (plan_of s) x.got.passed x.bound v (link_in s l x w here).bound none in
    let same : sent_of y ≡ sent_of x = ap sent_of is ∙ ap (sent_by []) idle ∙ sym (ap (sent_by x.got.passed) idle) in
    loses m y.receiver.buffer (ap (λ z. z.mark) at ∙ going) (ap (λ z. z.receiver.buffer) at ∙ h.front)
    (λ g. grouped (plan_of s) (headed v x.got.passed) (subst (HasGroup (plan_of s)) (sym got) g) none)
    (seen-in s l (one_more s.lost) x y here same
    ∙ ap (λ z. record (set_input (seen s) l z) { lost = one_more s.lost }) (passing_is ((seen s).input l) x y (EndMark m) [] None at h
    (ap input_of is ∙ (λ t. record (input_of x) { receiver = y.receiver; got = []; mark = going t }))))

-- what is left of the buffer has no FCT
rest_fct : (r n : Receiver) (k : Token) → AllByRecursion (λ k. k ≢ Fct) r.buffer → PassesOn r k n → AllByRecursion (λ k. k ≢ Fct) n.buffer
rest_fct r n k all h = (subst (AllByRecursion (λ k. k ≢ Fct)) h.front all).1

pub link_byte : (plan : SwitchPlan) (most b : ℕ) (v : Option ℕ) (x y : LinkIn) → IsLinkIn plan most x → PassesOn x.receiver (Byte b) y.receiver → y ≡ record x { receiver = y.receiver; got = record x.got { passed = headed v x.got.passed ++ b ∷ [] } } → IsLinkIn plan most y
link_byte plan most b v x y w h is =
    subst (IsLinkIn plan most) (sym is) (record { no_fct = rest_fct x.receiver y.receiver (Byte b) w.no_fct h; limit = w.limit; bound = bound_more plan x.got.passed (b ∷ []) x.bound v w.bound })

pub link_dropped : (plan : SwitchPlan) (most b : ℕ) (v : Option ℕ) (x y : LinkIn) → IsLinkIn plan most x → PassesOn x.receiver (Byte b) y.receiver → y ≡ record x { receiver = y.receiver; got = record x.got { passed = headed v x.got.passed } } → IsLinkIn plan most y
link_dropped plan most b v x y w h is =
    subst (IsLinkIn plan most) (sym is) (record { no_fct = rest_fct x.receiver y.receiver (Byte b) w.no_fct h; limit = w.limit; bound = same_bound plan x.got.passed x.bound v w.bound })

pub link_whole : (plan : SwitchPlan) (most : ℕ) (m : Mark) (v : Option ℕ) (x y : LinkIn) → IsLinkIn plan most x → PassesOn x.receiver (EndMark m) y.receiver → y ≡ record x { receiver = y.receiver; got = record x.got { passed = headed v x.got.passed }; mark = Some m } → IsLinkIn plan most y
link_whole plan most m v x y w h is =
    subst (IsLinkIn plan most) (sym is) (record { no_fct = rest_fct x.receiver y.receiver (EndMark m) w.no_fct h; limit = w.limit; bound = same_bound plan x.got.passed x.bound v w.bound })

pub link_lost : (plan : SwitchPlan) (most : ℕ) (m : Mark) (v : Option ℕ) (x y : LinkIn) → IsLinkIn plan most x → PassesOn x.receiver (EndMark m) y.receiver → front_of plan.table (headed v x.got.passed) ≡ None →
    y ≡ record x { receiver = y.receiver; got = record x.got { passed = [] } } → IsLinkIn plan most y
link_lost plan most m v x y w h none is =
    subst (IsLinkIn plan most) (sym is) (record { no_fct = rest_fct x.receiver y.receiver (EndMark m) w.no_fct h; limit = w.limit; bound = subst (MayBeBound plan []) (sym (idle_by plan x.got.passed x.bound v w.bound none)) tt })
