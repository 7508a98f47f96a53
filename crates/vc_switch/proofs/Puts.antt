-- How a packet's tokens leave, by what changes in a switch's lists.
use Rattle.std.proofs.Common.{◌≡◌, ℕ, zero, suc, ◌+◌, ◌-◌, ◌<◌, ◌≤◌, Bool, true, false, IsTrue, ◌↔◌, ◌||◌, List, [], ◌∷◌, ◌++◌, length, take, drop, refl, sym, ap, ◌∙◌, subst, arith, slice_get, slice_set, is_some, length-append, Option, Some, None}
use Rattle.std.proofs.Math.Seq.{take-suc, drop-cons}
use Rattle.std.proofs.lemmas.List.{length-set, length-drop, length-take-le, take-append-drop}
use Rattle.std.proofs.lemmas.Option.{slice_get_within, slice_get-get_or, get_or_from_slice_get}
use Rattle.vc_packets.specs.Functions.{put, shown_or}
use Rattle.vc_packets.specs.declared.mark.Mark.{Mark}
use Rattle.vc_tokens.specs.Tokens.{Token, Byte, EndMark}
use Rattle.vc_credit.specs.Ends.{Sender, Puts, puts_byte, puts_mark}
use Rattle.vc_switch.specs.Forward.{SwitchPlan}
use Rattle.vc_switch.specs.Waiting.{Wormhole}
use Rattle.vc_switch.specs.Switch.{Input, BodyLeaves, Sends}
use Rattle.vc_switch.specs.Able.{CanPut}
use Rattle.vc_switch.specs.Private.Front.{start_of}
use Rattle.vc_switch.specs.State.{State, IsSwitch, IsLinkIn, IsUnderWay, MayBeBound, ArePaired, bound_at, source_at, output_of, plan_of, limit_of}
use Rattle.vc_switch.specs.SwitchView.{seen, input_of, sent_by, sent_of, sent_from, sender_of}
use Rattle.vc_switch.specs.Private.SwitchView.{has_next, IsBoundTo}
use Rattle.vc_switch.specs.declared.link_in.LinkIn.{LinkIn}
use Rattle.vc_switch.specs.declared.link_in.Bound.{Bound}
use Rattle.vc_switch.specs.declared.link_out.LinkOut.{LinkOut}
use Rattle.vc_switch.proofs.Fronts.{gone}
use Rattle.vc_switch.proofs.Pairs.{paired_freed}
use Rattle.vc_switch.proofs.ListWrites.{put_back, place-set_same}
use Rattle.vc_switch.proofs.ListChanges.{input_at, output_at, bound_is, seen-bound}
use Rattle.vc_switch.proofs.Preservation.{link_in, switch_with, bound-set, source-set}

-- Lists.

get_drop : (n k : ℕ) (xs : List ℕ) → slice_get (drop n xs) k ≡ slice_get xs (n + k)
get_drop zero k xs = let e : k ≡ 0 + k = omega arith in ap (slice_get xs) e
get_drop (suc n) k [] = refl
get_drop (suc n) k (x ∷ xs) = let e : suc (n + k) ≡ suc n + k = omega arith in get_drop n k xs ∙ ap (slice_get (x ∷ xs)) e

-- the bytes before the n-th, that byte, and those behind it
split_at : (d : List ℕ) (n b : ℕ) → slice_get d n ≡ Some b → d ≡ take n d ++ b ∷ drop (suc n) d
split_at d n b e =
    let less = slice_get_within d n b e in
    let is = get_or_from_slice_get d n b 0 e in
    sym (take-append-drop n d) ∙ ap (λ k. take n d ++ k) (drop-cons d n 0 less ∙ ap (λ k. k ∷ drop (suc n) d) is)

one_more : (d : List ℕ) (n b : ℕ) → slice_get d n ≡ Some b → take (n + 1) d ≡ take n d ++ b ∷ []
one_more d n b e =
    let less = slice_get_within d n b e in
    let is = get_or_from_slice_get d n b 0 e in
    let k : n + 1 ≡ suc n = omega arith in
    ap (λ m. take m d) k ∙ take-suc d n 0 less ∙ ap (λ z. take n d ++ z ∷ []) is

all_taken : (d : List ℕ) (n : ℕ) → slice_get d n ≡ None → n ≤ length d → take n d ≡ d
all_taken [] zero e h = refl
all_taken [] (suc n) e h = absurd (omega arith)
all_taken (b ∷ d) zero e h = absurd (cc)
all_taken (b ∷ d) (suc n) e h = ap (λ k. b ∷ k) (all_taken d n e (omega arith))

-- A packet that is bound.

bound_within : (xs : List LinkIn) (l j : ℕ) (o : Option LinkIn) → slice_get xs l ≡ o → shown_or None (λ x. output_of x.bound) o ≡ Some j → l < length xs
bound_within xs l j None e is = absurd (cc)
bound_within xs l j (Some x) e is = slice_get_within xs l x e

pub source_of : (s : State) (j : ℕ) (p : LinkOut) (o : Option ℕ) → slice_get s.outputs j ≡ Some p → p.source ≡ o → source_at s.outputs j ≡ o
source_of s j p o there is = ap (shown_or None (λ z. z.source)) there ∙ is

pub source_within : (s : State) (j l : ℕ) → IsSwitch s → source_at s.outputs j ≡ Some l → l < length s.inputs
source_within s j l w source = bound_within s.inputs l j (slice_get s.inputs l) refl (w.paired.outs j l source)

pub output_is : (s : State) (j l : ℕ) (b : Bound) → IsSwitch s → IsBoundTo s j l b → b.output ≡ j
output_is s j l b w t =
    let q : Some b.output ≡ Some j = sym (ap (shown_or None (λ z. output_of z.bound)) t.here ∙ ap output_of t.bound) ∙ w.paired.outs j l t.source in
    cc

pub way_of : (s : State) (j l : ℕ) (b : Bound) → IsSwitch s → (t : IsBoundTo s j l b) → IsUnderWay (plan_of s) t.input.got.passed b
way_of s j l b w t = subst (MayBeBound (plan_of s) t.input.got.passed) t.bound (link_in s l t.input w t.here).bound

leaves_at : (s : State) (j l : ℕ) (b : Bound) → IsSwitch s → (t : IsBoundTo s j l b) → BodyLeaves (plan_of s) t.input.got.passed j (drop b.from t.input.got.passed)
leaves_at s j l b w t = subst (λ z. BodyLeaves (plan_of s) t.input.got.passed z (drop b.from t.input.got.passed)) (output_is s j l b w t) (way_of s j l b w t).leaves

-- a body leaves by a link in one way
left_same : (plan : SwitchPlan) (b : List ℕ) (j : ℕ) (d e : List ℕ) → BodyLeaves plan b j d → BodyLeaves plan b j e → d ≡ e
left_same plan b j d e h k =
    let g = gone plan b j d h in
    let i = gone plan b j e k in
    let q : Some g.front ≡ Some i.front = sym g.is ∙ i.is in
    let same : g.front ≡ i.front = cc in
    g.left ∙ ap (λ f. drop (start_of (plan.deletes j) f) b) same ∙ sym i.left

-- what was put of it
sent_is : (s : State) (j l : ℕ) (b : Bound) (p : LinkOut) → (t : IsBoundTo s j l b) → slice_get s.outputs j ≡ Some p → (seen s).output j ≡ record { sent = take b.sent (drop b.from t.input.got.passed); credit = p.credit }
sent_is s j l b p t there =
    let source : p.source ≡ Some l = sym (ap (shown_or None (λ z. z.source)) there) ∙ t.source in
    let sent : sent_from s.inputs p.source ≡ take b.sent (drop b.from t.input.got.passed) = ap (sent_from s.inputs) source ∙ ap (shown_or [] sent_of) t.here ∙ ap (sent_by t.input.got.passed) t.bound in
    output_at s j p there ∙ (λ i. record { sent = sent i; credit = p.credit })

-- A token that can be put is there.

byte_there : (x : LinkIn) (b : Bound) (c : ℕ) (more : List ℕ) → b.from + b.sent ≤ length x.got.passed → drop b.from x.got.passed ≡ take b.sent (drop b.from x.got.passed) ++ c ∷ more → has_next x b ≡ true
byte_there x b c more within is =
    let d = drop b.from x.got.passed in
    let n = length-drop b.from x.got.passed in
    let low : b.sent ≤ length d = omega (arith, n, within) in
    let k = length-take-le b.sent d low in
    let a = ap length is ∙ length-append (take b.sent d) (c ∷ more) in
    let less : b.from + b.sent < length x.got.passed = omega (arith, n, k, a, within) in
    ap (λ o. is_some o || is_some x.mark) (slice_get-get_or x.got.passed (b.from + b.sent) 0 less)

or_true : (b : Bool) → (b || true) ≡ true
or_true true = refl
or_true false = refl

mark_there : (x : LinkIn) (b : Bound) (m : Mark) → x.mark ≡ Some m → has_next x b ≡ true
mark_there x b m is = ap (λ o. is_some (slice_get x.got.passed (b.from + b.sent)) || is_some o) is ∙ or_true (is_some (slice_get x.got.passed (b.from + b.sent)))

there_by : (x : LinkIn) (b : Bound) (c : ℕ) (k : Token) (new : Sender) → b.from + b.sent ≤ length x.got.passed →
    Puts (record { sent = take b.sent (drop b.from x.got.passed); credit = c }) (drop b.from x.got.passed) x.mark k new → (0 < c) × (has_next x b ≡ true)
there_by x b c k new within (puts_byte e more credit is same after) = (credit, byte_there x b e more within is)
there_by x b c k new within (puts_mark m credit is mark same after) = (credit, mark_there x b m mark)

pub can_there : (s : State) (j l : ℕ) (b : Bound) (p : LinkOut) → IsSwitch s → (t : IsBoundTo s j l b) → slice_get s.outputs j ≡ Some p → CanPut (plan_of s) (seen s) j → (0 < p.credit) × (has_next t.input b ≡ true)
can_there s j l b p w t there can =
    let h = can.sends in
    let source : Some h.link ≡ Some l = sym (w.paired.ins h.link j (sym (bound_is s h.link) ∙ h.bound)) ∙ t.source in
    let same : h.link ≡ l = cc in
    let at : (seen s).input h.link ≡ input_of t.input = ap (seen s).input same ∙ input_at s l t.input t.here in
    let body = left_same (plan_of s) t.input.got.passed j h.body (drop b.from t.input.got.passed) (subst (λ z. BodyLeaves (plan_of s) z.got j h.body) at h.leaves) (leaves_at s j l b w t) in
    there_by t.input b p.credit can.token h.sender (way_of s j l b w t).within
    (subst (λ z. Puts z (drop b.from t.input.got.passed) t.input.mark can.token h.sender) (sent_is s j l b p t there)
    (subst (λ z. Puts ((seen s).output j) z t.input.mark can.token h.sender) body
    (subst (λ z. Puts ((seen s).output j) h.body z.mark can.token h.sender) at h.puts)))

pub nothing_next : (x : LinkIn) (b : Bound) → slice_get x.got.passed (b.from + b.sent) ≡ None → x.mark ≡ None → has_next x b ≡ false
nothing_next x b next mark = (λ i. is_some (next i) || is_some (mark i))

-- A byte goes out.

only_one : (s : State) (j l : ℕ) → IsSwitch s → source_at s.outputs j ≡ Some l → (i : ℕ) → ((seen s).input i).bound ≡ Some j → i ≡ l
only_one s j l w source i e = let q : Some i ≡ Some l = sym (w.paired.ins i j (sym (bound_is s i) ∙ e)) ∙ source in cc

pub sends_byte : (s : State) (j l c : ℕ) (b : Bound) (p q : LinkOut) (y : LinkIn) → IsSwitch s → (t : IsBoundTo s j l b) → slice_get s.outputs j ≡ Some p → 0 < p.credit → slice_get t.input.got.passed (b.from + b.sent) ≡ Some c →
    y ≡ record t.input { bound = Some (record b { sent = b.sent + 1 }) } → q ≡ record p { credit = p.credit - 1 } →
    Sends (plan_of s) Wormhole (seen s) j (Byte c) (seen (record s { inputs = slice_set s.inputs l y; outputs = slice_set s.outputs j q }))
sends_byte s j l c b p q y w t there credit next is less =
    let x = t.input in
    let d = drop b.from x.got.passed in
    let at = input_at s l x t.here in
    let e = get_drop b.from b.sent x.got.passed ∙ next in
    let new : Sender = record { sent = take (b.sent + 1) d; credit = p.credit - 1 } in
    let source : p.source ≡ Some l = sym (ap (shown_or None (λ z. z.source)) there) ∙ t.source in
    let ys = slice_set s.inputs l y in
    let sent : sent_from ys (Some l) ≡ take (b.sent + 1) d = ap (shown_or [] sent_of) (place-set_same s.inputs l y (slice_get_within s.inputs l x t.here)) ∙ ap sent_of is in
    let sender : sender_of ys q ≡ new = ap (sender_of ys) less ∙ (λ i. record { sent = sent_from ys (source i); credit = p.credit - 1 }) ∙ (λ i. record { sent = sent i; credit = p.credit - 1 }) in
    let stays : (seen s).input l ≡ input_of y = at ∙ (λ i. record (input_of x) { bound = output_of (t.bound i) }) ∙ sym (ap input_of is) in
    record {
      link = l;
      body = d;
      sender = new;
      bound = bound_is s l ∙ w.paired.outs j l t.source;
      only = only_one s j l w t.source;
      leaves = subst (λ z. BodyLeaves (plan_of s) z.got j d) (sym at) (leaves_at s j l b w t);
      may_go = tt;
      puts = subst (λ z. Puts z d ((seen s).input l).mark (Byte c) new) (sym (sent_is s j l b p t there))
          (puts_byte c (drop (suc b.sent) d) credit (split_at d b.sent c e) refl (λ i. record { sent = one_more d b.sent c e i; credit = p.credit - 1 }));
      after = seen-bound s l j x y p q w.paired t.here there t.source
          ∙ (λ i. record { input = put_back (seen s).input l (input_of y) stays i; output = put (seen s).output j (sender i); lost = s.lost });
    }

pub link_advanced : (s : State) (j l : ℕ) (b : Bound) (y : LinkIn) → IsSwitch s → (t : IsBoundTo s j l b) → b.from + b.sent < length t.input.got.passed → y ≡ record t.input { bound = Some (record b { sent = b.sent + 1 }) } → IsLinkIn (plan_of s) (limit_of s.inputs) y
link_advanced s j l b y w t less is =
    let was = link_in s l t.input w t.here in
    subst (IsLinkIn (plan_of s) (limit_of s.inputs)) (sym is) (record { no_fct = was.no_fct; limit = was.limit; bound = record { leaves = (way_of s j l b w t).leaves; within = omega (arith, less) } })

-- A mark goes out.

pub sends_mark : (s : State) (j l : ℕ) (m : Mark) (k : Token) (b : Bound) (p q : LinkOut) (y : LinkIn) → IsSwitch s → (t : IsBoundTo s j l b) → slice_get s.outputs j ≡ Some p → 0 < p.credit → slice_get t.input.got.passed (b.from + b.sent) ≡ None → t.input.mark ≡ Some m → k ≡ EndMark m →
    y ≡ record t.input { got = record t.input.got { passed = [] }; mark = None; bound = None } → q ≡ record { credit = p.credit - 1; source = None } →
    Sends (plan_of s) Wormhole (seen s) j k (seen (record s { inputs = slice_set s.inputs l y; outputs = slice_set s.outputs j q }))
sends_mark s j l m k b p q y w t there credit next mark told is less =
    let x = t.input in
    let d = drop b.from x.got.passed in
    let at = input_at s l x t.here in
    let e = get_drop b.from b.sent x.got.passed ∙ next in
    let within = (way_of s j l b w t).within in
    let n = length-drop b.from x.got.passed in
    let low : b.sent ≤ length d = omega (arith, n, within) in
    let new : Sender = record { sent = []; credit = p.credit - 1 } in
    let sender : sender_of (slice_set s.inputs l y) q ≡ new = ap (sender_of (slice_set s.inputs l y)) less in
    let gone_is : input_of y ≡ record ((seen s).input l) { got = []; mark = None; bound = None } = ap input_of is ∙ ap (λ (z : Input). record z { got = []; mark = None; bound = None }) (sym at) in
    subst (λ z. Sends (plan_of s) Wormhole (seen s) j z (seen (record s { inputs = slice_set s.inputs l y; outputs = slice_set s.outputs j q }))) (sym told) (record {
      link = l;
      body = d;
      sender = new;
      bound = bound_is s l ∙ w.paired.outs j l t.source;
      only = only_one s j l w t.source;
      leaves = subst (λ z. BodyLeaves (plan_of s) z.got j d) (sym at) (leaves_at s j l b w t);
      may_go = tt;
      puts = subst (λ z. Puts z d ((seen s).input l).mark (EndMark m) new) (sym (sent_is s j l b p t there))
          (puts_mark m credit (sym (all_taken d b.sent e low)) (ap (λ z. z.mark) at ∙ mark) refl refl);
      after = seen-bound s l j x y p q w.paired t.here there t.source
          ∙ (λ i. record { input = put (seen s).input l (gone_is i); output = put (seen s).output j (sender i); lost = s.lost });
    })

pub link_released : (s : State) (l : ℕ) (x y : LinkIn) → IsSwitch s → slice_get s.inputs l ≡ Some x → y ≡ record x { got = record x.got { passed = [] }; mark = None; bound = None } → IsLinkIn (plan_of s) (limit_of s.inputs) y
link_released s l x y w here is =
    let was = link_in s l x w here in
    subst (IsLinkIn (plan_of s) (limit_of s.inputs)) (sym is) (record { no_fct = was.no_fct; limit = was.limit; bound = tt })

pub switch_freed : (s : State) (j l : ℕ) (b : Bound) (p q : LinkOut) (y : LinkIn) → IsSwitch s → (t : IsBoundTo s j l b) → slice_get s.outputs j ≡ Some p →
    y ≡ record t.input { got = record t.input.got { passed = [] }; mark = None; bound = None } → q ≡ record { credit = p.credit - 1; source = None } →
    IsSwitch (record s { inputs = slice_set s.inputs l y; outputs = slice_set s.outputs j q })
switch_freed s j l b p q y w t there is less =
    let bounds = bound-set s.inputs l t.input y t.here ∙ ap (λ z. put (bound_at s.inputs) l (output_of z.bound)) is in
    let sources = source-set s.outputs j p q there ∙ ap (λ z. put (source_at s.outputs) j z.source) less in
    switch_with s l s.lost t.input y (slice_set s.outputs j q) w t.here (link_released s l t.input y w t.here is) (length-set s.outputs j q ∙ w.output_links)
    (subst (λ f. ArePaired f (source_at (slice_set s.outputs j q))) (sym bounds)
    (subst (ArePaired (put (bound_at s.inputs) l None)) (sym sources) (paired_freed (bound_at s.inputs) (source_at s.outputs) l j w.paired (w.paired.outs j l t.source))))

-- Some token can go out.

can_by : (s : State) (j l : ℕ) (b : Bound) (p : LinkOut) (o : Option ℕ) (m : Option Mark) → IsSwitch s → (t : IsBoundTo s j l b) → slice_get s.outputs j ≡ Some p → 0 < p.credit →
    slice_get t.input.got.passed (b.from + b.sent) ≡ o → t.input.mark ≡ m → (is_some o || is_some m) ≡ true → CanPut (plan_of s) (seen s) j
can_by s j l b p (Some c) m w t there credit next mark has = record { token = Byte c; new = _; sends = sends_byte s j l c b p (record p { credit = p.credit - 1 }) (record t.input { bound = Some (record b { sent = b.sent + 1 }) }) w t there credit next refl refl }
can_by s j l b p None (Some m) w t there credit next mark has = record { token = EndMark m; new = _; sends = sends_mark s j l m (EndMark m) b p (record { credit = p.credit - 1; source = None }) (record t.input { got = record t.input.got { passed = [] }; mark = None; bound = None }) w t there credit next mark refl refl refl }
can_by s j l b p None None w t there credit next mark has = absurd (cc)

pub can_put : (s : State) (j l : ℕ) (b : Bound) (p : LinkOut) → IsSwitch s → (t : IsBoundTo s j l b) → slice_get s.outputs j ≡ Some p → 0 < p.credit → has_next t.input b ≡ true → CanPut (plan_of s) (seen s) j
can_put s j l b p w t there credit has = can_by s j l b p (slice_get t.input.got.passed (b.from + b.sent)) t.input.mark w t there credit refl refl has

pub put_iff : (s : State) (j l : ℕ) (b : Bound) (x : LinkIn) (p : LinkOut) (r : Bool) → IsSwitch s → (t : IsBoundTo s j l b) → slice_get s.inputs l ≡ Some x → slice_get s.outputs j ≡ Some p → 0 < p.credit → r ≡ has_next x b → IsTrue r ↔ CanPut (plan_of s) (seen s) j
put_iff s j l b x p r w t here there credit is =
    let q : Some t.input ≡ Some x = sym t.here ∙ here in
    let same : t.input ≡ x = cc in
    let e : r ≡ has_next t.input b = is ∙ ap (λ z. has_next z b) (sym same) in
    (λ h. (let a : r ≡ true = h in can_put s j l b p w t there credit (sym e ∙ a)), λ can. (let a : r ≡ true = e ∙ (can_there s j l b p w t there can).1 in a))

pub no_credit : (s : State) (j l : ℕ) (b : Bound) (p : LinkOut) (r : Bool) → IsSwitch s → (t : IsBoundTo s j l b) → slice_get s.outputs j ≡ Some p → (IsTrue r ↔ (0 < p.credit)) → r ≡ false → IsTrue r ↔ CanPut (plan_of s) (seen s) j
no_credit s j l b p r w t there is none =
    (λ h. (let a : r ≡ true = h in absurd (cc)), λ can. is.1 (can_there s j l b p w t there can).0)
