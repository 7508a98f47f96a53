-- What a token that passes is to a node's steps.
use Rattle.std.proofs.Common.{◌≡◌, ◌≢◌, ℕ, zero, suc, ◌<◌, ◌≤◌, List, [], ◌∷◌, ◌++◌, length, refl, sym, ap, ◌∙◌, subst, arith, slice_get, slice_set, get_or, vec_len, Vec, Global, Some, None}
use Rattle.std.proofs.lemmas.Option.{slice_get_within, slice_get_read}
use Rattle.std.proofs.lemmas.List.{length-set}
use Rattle.std.specs.List.{AllByRecursion}
use Rattle.vc_packets.specs.Counters.{one_more}
use Rattle.vc_packets.specs.Functions.{put, shown_or}
use Rattle.vc_packets.specs.declared.mark.Mark.{Mark}
use Rattle.vc_tokens.specs.Tokens.{Token, Byte, Fct, EndMark}
use Rattle.vc_credit.specs.Ends.{Receiver, IsFront, new_receiver, Passes as PassesOn}
use Rattle.vc_credit.specs.Laws.{NeedsPlace}
use Rattle.vc_vcp.specs.LinkIn.{Receiving}
use Rattle.vc_vcp.specs.LinkOut.{Sending}
use Rattle.vc_vcp.specs.Links.{Link, Vcp, set_link, passing, Passes, passes_byte, drops_byte, passes_mark}
use Rattle.vc_vcp.specs.VcpView.{seen, ends_of, carrier_of, link_of, IsKept}
use Rattle.vc_vcp.specs.State.{State, IsWired, IsLinkIn, MayPut, MayGrant, limit_of}
use Rattle.vc_vcp.specs.Steps.{Taken, Arrives}
use Rattle.vc_vcp.proofs.ListWrites.{same_read}
use Rattle.vc_vcp.proofs.ListChanges.{seen-in}
use Rattle.vc_vcp.proofs.Preservation.{all-at, all-set}

-- the link's receiving end, by its place
pub receiver_at : (s : State) (l : ℕ) (x : Receiving) → slice_get s.ins l ≡ Some x → (link_of s l).receiver ≡ x.receiver
receiver_at s l x here = ap (shown_or new_receiver (λ x. x.receiver)) here

pub passed_at : (s : State) (l : ℕ) (x : Receiving) → slice_get s.ins l ≡ Some x → (link_of s l).passed ≡ x.passed
passed_at s l x here = ap (shown_or [] (λ x. x.passed)) here

-- a receiver of which the front has passed
popped : (a : Receiver) (r n : Receiver) (k : Token) → a ≡ r → PassesOn r k n → n ≡ record a { buffer = n.buffer }
popped a r n k same h = λ t. record { buffer = n.buffer; promised = (h.promised ∙ sym (ap (λ z. z.promised) same)) t }

passing_is : (a : Link) (r : Receiver) (y : Receiving) (k : Token) (passed : List ℕ) → a.receiver ≡ r → PassesOn r k y.receiver → y.passed ≡ passed → record a { receiver = y.receiver; passed = y.passed } ≡ passing a y.receiver.buffer passed
passing_is a r y k passed same h is = λ t. record a { receiver = popped a.receiver r y.receiver k same h t; passed = is t }

-- a byte joins the packet that is arriving
pub byte_passes : (s : State) (l b most : ℕ) (x y : Receiving) → slice_get s.ins l ≡ Some x → x.limit ≡ most → PassesOn x.receiver (Byte b) y.receiver → length x.passed < x.limit → y ≡ record x { receiver = y.receiver; passed = x.passed ++ b ∷ [] } →
    Passes most (ends_of s) (seen s) l None (seen (record s { ins = slice_set s.ins l y }))
byte_passes s l b most x y here limit h room after =
    let r = receiver_at s l x here in
    let p = passed_at s l x here in
    passes_byte b y.receiver.buffer (ap (λ z. z.buffer) r ∙ h.front) refl (subst (λ z. length z < most) (sym p) (subst (λ z. length x.passed < z) limit room))
    (seen-in s l y (slice_get_within s.ins l x here) ∙ ap (set_link (seen s) l) (passing_is (link_of s l) x.receiver y (Byte b) ((link_of s l).passed ++ b ∷ []) r h (ap (λ z. z.passed) after ∙ ap (λ z. z ++ b ∷ []) (sym p))))

-- a byte past the limit is dropped
pub byte_drops : (s : State) (l b most : ℕ) (x y : Receiving) → slice_get s.ins l ≡ Some x → x.limit ≡ most → PassesOn x.receiver (Byte b) y.receiver → (length x.passed < x.limit → ⊥) → y ≡ record x { receiver = y.receiver } →
    Passes most (ends_of s) (seen s) l None (seen (record s { ins = slice_set s.ins l y; strays = one_more s.strays }))
byte_drops s l b most x y here limit h full after =
    let r = receiver_at s l x here in
    let p = passed_at s l x here in
    let least : x.limit ≤ length x.passed = omega (arith, full) in
    drops_byte b y.receiver.buffer (ap (λ z. z.buffer) r ∙ h.front) refl (subst (λ z. most ≤ length z) (sym p) (subst (λ z. z ≤ length x.passed) limit least))
    (ap (λ (z : Vcp). record z { carrier = record (carrier_of s) { strays = one_more s.strays } })
    (seen-in s l y (slice_get_within s.ins l x here) ∙ ap (set_link (seen s) l) (passing_is (link_of s l) x.receiver y (Byte b) (link_of s l).passed r h (ap (λ z. z.passed) after ∙ sym p))))

-- the bytes that are read at a link
pub passed_read : (s t : State) (l : ℕ) (x : Receiving) (body : List ℕ) → t ≡ s → length t.ins ≡ 4 → l < 4 → x ≡ get_or t.ins l x → body ≡ x.passed → body ≡ (link_of s l).passed
passed_read s t l x body same four within read is =
    is ∙ sym (passed_at t l x (slice_get_read t.ins 4 l x (sym four) within read)) ∙ ap (λ z. (link_of z l).passed) same

-- with its mark the packet arrives
pub mark_passes : (s n : State) (l most : ℕ) (z y : Receiving) (m : Mark) (t : Taken) → Arrives (ends_of s) (carrier_of s) (record { body = (link_of s l).passed; mark = m }) t (carrier_of n) →
    link_of n ≡ link_of s → slice_get n.ins l ≡ Some z → PassesOn z.receiver (EndMark m) y.receiver → y ≡ record z { receiver = y.receiver; passed = [] } →
    Passes most (ends_of s) (seen s) l (Some t) (seen (record n { ins = slice_set n.ins l y }))
mark_passes s n l most z y m t arrives links there h after =
    let r : (link_of s l).receiver ≡ z.receiver = sym (ap (λ k. (k l).receiver) links) ∙ receiver_at n l z there in
    passes_mark m y.receiver.buffer t (carrier_of n) (ap (λ z. z.buffer) r ∙ h.front) refl arrives
    (seen-in n l y (slice_get_within n.ins l z there)
    ∙ (λ j. record { carrier = carrier_of n; link = put (links j) l (record (links j l) { receiver = y.receiver; passed = y.passed }) })
    ∙ (λ j. record { carrier = carrier_of n; link = put (link_of s) l (passing_is (link_of s l) z.receiver y (EndMark m) [] r h (ap (λ z. z.passed) after) j) }))

limit_stays : (xs : List Receiving) (l : ℕ) (x y : Receiving) → slice_get xs l ≡ Some x → y.limit ≡ x.limit → limit_of (slice_set xs l y) ≡ limit_of xs
limit_stays [] l x y here same = refl
limit_stays (z ∷ xs) zero x y here same = let q : z ≡ x = cc in same ∙ sym (ap (λ z. z.limit) q)
limit_stays (z ∷ xs) (suc l) x y here same = refl

pub kept_in : (s : State) (l n : ℕ) (x y : Receiving) → slice_get s.ins l ≡ Some x → y.limit ≡ x.limit → IsKept s (record s { ins = slice_set s.ins l y; strays = n })
kept_in s l n x y here same = record { ends = refl; limit = limit_stays s.ins l x y here same }

-- what is wired stays so where a link's receiving end changes, and no FCT waits there
pub wired_ins : (s : State) (l : ℕ) (x y : Receiving) → IsWired s → slice_get s.ins l ≡ Some x → AllByRecursion (λ k. k ≢ Fct) y.receiver.buffer → y.limit ≡ x.limit → IsWired (record s { ins = slice_set s.ins l y })
wired_ins s l x y w here no_fct same =
    let is : IsLinkIn (limit_of s.ins) y = record { no_fct = no_fct; limit = same ∙ (all-at (IsLinkIn (limit_of s.ins)) s.ins l x w.ins here).limit } in
    record {
      four_out = w.four_out;
      four_in = length-set s.ins l y ∙ w.four_in;
      outputs = w.outputs;
      inputs = w.inputs;
      names = w.names;
      ins = subst (λ m. AllByRecursion (IsLinkIn m) (slice_set s.ins l y)) (sym (limit_stays s.ins l x y here same)) (all-set (IsLinkIn (limit_of s.ins)) s.ins l y w.ins is);
    }

no_fcts : (s : State) (l : ℕ) (x : Receiving) → IsWired s → slice_get s.ins l ≡ Some x → AllByRecursion (λ k. k ≢ Fct) x.receiver.buffer
no_fcts s l x w here = (all-at (IsLinkIn (limit_of s.ins)) s.ins l x w.ins here).no_fct

-- where a token passes
pub wired_passing : (s : State) (l : ℕ) (x y : Receiving) (k : Token) → IsWired s → slice_get s.ins l ≡ Some x → PassesOn x.receiver k y.receiver → y.limit ≡ x.limit → IsWired (record s { ins = slice_set s.ins l y })
wired_passing s l x y k w here h same = wired_ins s l x y w here (subst (AllByRecursion (λ k. k ≢ Fct)) h.front (no_fcts s l x w here)).1 same

none_more : (ks : List Token) (k : Token) → AllByRecursion (λ j. j ≢ Fct) ks → k ≢ Fct → AllByRecursion (λ j. j ≢ Fct) (ks ++ k ∷ [])
none_more [] k all one = (one, tt)
none_more (j ∷ ks) k all one = (all.0, none_more ks k all.1 one)

placed : (k : Token) → NeedsPlace k → k ≢ Fct
placed Fct needs same = absurd (cc)
placed (Byte b) needs same = absurd (cc)
placed (EndMark m) needs same = absurd (cc)

-- what passes is the front
pub front_at : (s n : State) (l : ℕ) (z : Receiving) (k : Token) → link_of n ≡ link_of s → slice_get n.ins l ≡ Some z → IsFront (link_of s l).receiver k → IsFront z.receiver k
front_at s n l z k links there front = subst (λ r. IsFront r k) (sym (ap (λ f. (f l).receiver) links) ∙ receiver_at n l z there) front

-- a link's receiving end, read of the state that is seen
pub ins_read : (s t : State) (j l : ℕ) (x : Receiving) → t ≡ s → j ≡ l → length t.ins ≡ 4 → l < 4 → x ≡ get_or t.ins j x → slice_get s.ins l ≡ Some x
ins_read s t j l x same along four within read =
    subst (λ z. slice_get z.ins l ≡ Some x) same (subst (λ i. slice_get t.ins i ≡ Some x) along (slice_get_read t.ins 4 j x (sym four) (subst (λ i. i < 4) (sym along) within) read))

pub never_empty : (r : Receiver) (k : Token) → IsFront r k → r.buffer ≡ [] → ⊥
never_empty r k front none = let e : k ∷ front.0 ≡ [] = sym front.1 ∙ none in cc

pub mark_or_byte : (r : Receiver) (m : Mark) (b : ℕ) → IsFront r (EndMark m) → IsFront r (Byte b) → ⊥
mark_or_byte r m b mark byte = let e : EndMark m ∷ mark.0 ≡ Byte b ∷ byte.0 = sym mark.1 ∙ byte.1 in cc

-- a link's sending end, likewise
pub outs_read : (s t : State) (j l : ℕ) (x : Sending) → t ≡ s → j ≡ l → length t.outs ≡ 4 → l < 4 → x ≡ get_or t.outs j x → slice_get s.outs l ≡ Some x
outs_read s t j l x same along four within read =
    subst (λ z. slice_get z.outs l ≡ Some x) same (subst (λ i. slice_get t.outs i ≡ Some x) along (slice_get_read t.outs 4 j x (sym four) (subst (λ i. i < 4) (sym along) within) read))

-- a link's number is within the list of four ends
pub at_link : {X : Type 0} (v : Vec X Global) (j l : ℕ) → j ≡ l → l < 4 → length v.items ≡ 4 → j < vec_len v
at_link v j l along within four = subst (λ n. j < n) (sym (v.ok.0 ∙ four)) (subst (λ i. i < 4) (sym along) within)

pub at_place : {X : Type 0} (v : Vec X Global) (xs : List X) (i : ℕ) → xs ≡ v.items → i < length xs → i < vec_len v
at_place v xs i same within = subst (λ n. i < n) (sym v.ok.0) (subst (λ z. i < length z) same within)

-- what is read twice is one thing
pub same_there : {X : Type 0} (xs : List X) (i : ℕ) (x y : X) → length xs ≡ 4 → i < 4 → x ≡ get_or xs i x → y ≡ get_or xs i y → x ≡ y
same_there xs i x y four within a b = same_read xs i x y (slice_get_read xs 4 i x (sym four) within a) (slice_get_read xs 4 i y (sym four) within b)

-- the link by which a token may be put or granted, read of the state that is seen
pub less_put : (s t : State) (l : ℕ) (may : MayPut s l) → t ≡ s → length t.outs ≡ 4 → l < 4
less_put s t l may same four = subst (λ n. l < n) (subst (λ z. length z.outs ≡ 4) same four) (slice_get_within s.outs l may.out may.here)

pub put_there : (s t : State) (j l : ℕ) (x : Sending) (may : MayPut s l) → t ≡ s → j ≡ l → length t.outs ≡ 4 → x ≡ get_or t.outs j x → may.out ≡ x
put_there s t j l x may same along four read = same_read s.outs l may.out x may.here (outs_read s t j l x same along four (less_put s t l may same four) read)

pub less_grant : (s t : State) (l : ℕ) (may : MayGrant s l) → t ≡ s → length t.ins ≡ 4 → l < 4
less_grant s t l may same four = subst (λ n. l < n) (subst (λ z. length z.ins ≡ 4) same four) (slice_get_within s.ins l may.into may.here)

pub grant_there : (s t : State) (j l : ℕ) (x : Receiving) (may : MayGrant s l) → t ≡ s → j ≡ l → length t.ins ≡ 4 → x ≡ get_or t.ins j x → may.into ≡ x
grant_there s t j l x may same along four read = same_read s.ins l may.into x may.here (ins_read s t j l x same along four (less_grant s t l may same four) read)
