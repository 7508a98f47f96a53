-- What has been put of a packet begins a whole packet that fits its way, wherever that packet's mark still is.
use Rattle.std.proofs.Common.{◌≡◌, ℕ, ◌<◌, ◌⊎◌, inl, inr, List, [], ◌∷◌, ◌++◌, refl, sym, ap, ap₂, subst, ◌∙◌, Option, Some, None, append-nil, append_assoc}
use Rattle.vc_packets.specs.declared.mark.Mark.{Mark}
use Rattle.vc_packets.specs.declared.packet.Packet.{Packet}
use Rattle.vc_packets.specs.Headers.{spelled}
use Rattle.vc_machine.specs.Paths.{Port, AtNode, AtSwitch, Net}
use Rattle.vc_switch.specs.Forward.{behind}
use Rattle.vc_machine.specs.Machine.{BodyLeaves}
use Rattle.vc_tokens.specs.Tokens.{Token, Byte, EndMark, bytes, without_fcts}
use Rattle.vc_credit.specs.Ends.{Sender}
use Rattle.vc_machine.specs.Links.{Receiver, Tokens}
use Rattle.vc_switch.specs.Switch.{headed}
use Rattle.vc_machine.specs.View.{MayDraw}
use Rattle.vc_tokens.proofs.Spellings.{bytes-append, mark_in_bytes, same_start}
use Rattle.vc_machine.proofs.Update.{Changed, every}
use Rattle.vc_machine.proofs.Heads.{not_empty, no_header}

-- the body of the packet of which these bytes were passed; xs is what comes after them on the way, sent what was put of the packet being put
pub data Comes (sent : List ℕ) (xs : List Token) (full passed body : List ℕ) : Type 0 where
  all_there : (m : Mark) (ys : List Token) → bytes passed ++ xs ≡ bytes body ++ EndMark m ∷ ys → Comes sent xs full passed body
  in_part : bytes passed ++ xs ≡ bytes sent → (sent ≡ [] → ⊥) → body ≡ full → Comes sent xs full passed body

-- what an input has got, and is still to get, of its packet
pub data WholeGot (net : Net) (p : Port) (sent : List ℕ) (xs : List Token) (got : List ℕ) (mark : Option Mark) (full b : List ℕ) : Type 0 where
  marked : (m : Mark) → mark ≡ Some m → b ≡ got → WholeGot net p sent xs got mark full b
  coming : (drawn : Option ℕ) (passed body : List ℕ) → mark ≡ None → MayDraw net p drawn → (passed ≡ [] → ⊥) → got ≡ spelled (behind drawn []) ++ passed →
      b ≡ spelled (behind drawn []) ++ body → Comes sent xs full passed body → WholeGot net p sent xs got mark full b

abbrev pub WholeAt : Net → Tokens → (ℕ → List ℕ) → ℕ → List ℕ → Type 0
WholeAt net t full v b =
    WholeGot net (net.far v) (t.sender v).sent ((t.receiver v).buffer ++ without_fcts (t.wire v)) (t.receiver v).got (t.receiver v).mark (full v) b

-- the whole packet that is being put on way w
pub data From (net : Net) (t : Tokens) (full : ℕ → List ℕ) (w : ℕ) : Type 0 where
  queued : (n i : ℕ) (p : Packet) (rest : List Packet) → net.near w ≡ AtNode n i → (t.nodes.ways w).queue ≡ p ∷ rest → p.body ≡ full w → From net t full w
  bound : (n v link : ℕ) (b : List ℕ) → v < net.ways → net.far v ≡ AtSwitch n link → (t.receiver v).bound ≡ Some w → WholeAt net t full v b →
      BodyLeaves net n b w (full w) → From net t full w

pub record Sending (net : Net) (Fits : ℕ → List ℕ → Type 0) (t : Tokens) (full : ℕ → List ℕ) (w : ℕ) : Type 0 where
  pub more : List ℕ
  pub is : full w ≡ (t.sender w).sent ++ more
  pub fits : Fits w (full w)
  pub comes_from : From net t full w

pub record Ahead (net : Net) (Fits : ℕ → List ℕ → Type 0) (t : Tokens) : Type 0 where
  pub full : ℕ → List ℕ
  pub each : (w : ℕ) → ((t.sender w).sent ≡ []) ⊎ Sending net Fits t full w

-- where an input is bound to w, it stays so, and its packet is the same
abbrev pub KeepsBound : Net → Tokens → (ℕ → List ℕ) → Tokens → (ℕ → List ℕ) → ℕ → Type 0
KeepsBound net t full u full2 w =
    (v : ℕ) (b : List ℕ) → (t.receiver v).bound ≡ Some w → WholeAt net t full v b → ((u.receiver v).bound ≡ Some w) × WholeAt net u full2 v b

pub both_kept : (net : Net) (t u x : Tokens) (f g h : ℕ → List ℕ) (w : ℕ) → KeepsBound net t f u g w → KeepsBound net u g x h w → KeepsBound net t f x h w
both_kept net t u x f g h w k l v b is whole = let a = k v b is whole in l v b a.0 a.1

-- only one way is changed
pub bound_at : (net : Net) (t u : Tokens) (f g : ℕ → List ℕ) (w v : ℕ) (a : Sender) (ts : List Token) (r : Receiver) (x : List ℕ) →
    Changed v t.sender u.sender a → Changed v t.wire u.wire ts → Changed v t.receiver u.receiver r → Changed v f g x →
    ((b : List ℕ) → (t.receiver v).bound ≡ Some w → WholeAt net t f v b →
    (r.bound ≡ Some w) × WholeGot net (net.far v) a.sent (r.buffer ++ without_fcts ts) r.got r.mark x b) →
    KeepsBound net t f u g w
bound_at net t u f g w v a ts r x ca ct cr cx here =
    every (λ j a2 ts2 r2 x2 y2. (b : List ℕ) → (t.receiver j).bound ≡ Some w → WholeAt net t f j b →
    (r2.bound ≡ Some w) × WholeGot net (net.far j) a2.sent (r2.buffer ++ without_fcts ts2) r2.got r2.mark x2 b) v
    t.sender u.sender t.wire u.wire t.receiver u.receiver f g f g a ts r x x ca ct cr cx cx (λ j b h k. (h, k)) here

pub from_kept : (net : Net) (t u : Tokens) (f g : ℕ → List ℕ) (w : ℕ) → From net t f w → g w ≡ f w →
    ((p : Packet) (rest : List Packet) → (t.nodes.ways w).queue ≡ p ∷ rest → (more : List Packet) × ((u.nodes.ways w).queue ≡ p ∷ more)) →
    KeepsBound net t f u g w → From net u g w
from_kept net t u f g w (queued n i p rest near front is) same grown keeps = (let q = grown p rest front in queued n i p q.0 near q.1 (is ∙ sym same))
from_kept net t u f g w (bound n v link b real far is whole leaves) same grown keeps =
    (let k = keeps v b is whole in bound n v link b real far k.0 k.1 (subst (BodyLeaves net n b w) (sym same) leaves))

pub sending_kept : (net : Net) (Fits : ℕ → List ℕ → Type 0) (t u : Tokens) (f g : ℕ → List ℕ) (w : ℕ) → Sending net Fits t f w → (u.sender w).sent ≡ (t.sender w).sent → g w ≡ f w →
    ((p : Packet) (rest : List Packet) → (t.nodes.ways w).queue ≡ p ∷ rest → (more : List Packet) × ((u.nodes.ways w).queue ≡ p ∷ more)) →
    KeepsBound net t f u g w → Sending net Fits u g w
sending_kept net Fits t u f g w s sent same grown keeps =
    record {
      more = s.more;
      is = same ∙ s.is ∙ ap (λ k. k ++ s.more) (sym sent);
      fits = subst (Fits w) (sym same) s.fits;
      comes_from = from_kept net t u f g w s.comes_from same grown keeps;
    }

pub each_kept : (net : Net) (Fits : ℕ → List ℕ → Type 0) (t u : Tokens) (f g : ℕ → List ℕ) (w : ℕ) → ((t.sender w).sent ≡ []) ⊎ Sending net Fits t f w →
    (u.sender w).sent ≡ (t.sender w).sent → g w ≡ f w →
    ((p : Packet) (rest : List Packet) → (t.nodes.ways w).queue ≡ p ∷ rest → (more : List Packet) × ((u.nodes.ways w).queue ≡ p ∷ more)) →
    KeepsBound net t f u g w → ((u.sender w).sent ≡ []) ⊎ Sending net Fits u g w
each_kept net Fits t u f g w (inl none) sent same grown keeps = inl (sent ∙ none)
each_kept net Fits t u f g w (inr s) sent same grown keeps = inr (sending_kept net Fits t u f g w s sent same grown keeps)

-- lists of bytes

-- bytes before a mark are a part of the body
pub within_body : (passed : List ℕ) (xs : List Token) (body : List ℕ) (m : Mark) (ys : List Token) → bytes passed ++ xs ≡ bytes body ++ EndMark m ∷ ys → (x : List ℕ) × (body ≡ passed ++ x)
within_body [] xs body m ys e = (body, refl)
within_body (b ∷ passed) xs [] m ys e = absurd (cc)
within_body (b ∷ passed) xs (c ∷ body) m ys e =
    let bc : c ≡ b = cc in
    let t : bytes passed ++ xs ≡ bytes body ++ EndMark m ∷ ys = cc in
    let w = within_body passed xs body m ys t in
    (w.0, ap₂ (λ y z. y ∷ z) bc w.1)

-- bytes before nothing are none
pub no_bytes : (passed : List ℕ) (xs : List Token) → bytes passed ++ xs ≡ [] → passed ≡ []
no_bytes [] xs e = refl
no_bytes (b ∷ passed) xs e = absurd (cc)

pub within_bytes : (passed : List ℕ) (xs : List Token) (sent : List ℕ) → bytes passed ++ xs ≡ bytes sent → (x : List ℕ) × (sent ≡ passed ++ x)
within_bytes [] xs sent e = (sent, refl)
within_bytes (b ∷ passed) xs [] e = absurd (cc)
within_bytes (b ∷ passed) xs (c ∷ sent) e =
    let bc : c ≡ b = cc in
    let t : bytes passed ++ xs ≡ bytes sent = cc in
    let w = within_bytes passed xs sent t in
    (w.0, ap₂ (λ y z. y ∷ z) bc w.1)

-- the input's packet begins with what it has got
pub got_begins : (net : Net) (p : Port) (sent : List ℕ) (xs : List Token) (got : List ℕ) (mark : Option Mark) (full b : List ℕ) →
    ((sent ≡ [] → ⊥) → (more : List ℕ) × (full ≡ sent ++ more)) → WholeGot net p sent xs got mark full b → (x : List ℕ) × (b ≡ got ++ x)
got_begins net p sent xs got mark full b begins (marked m is e) = ([], e ∙ sym (append-nil got))
got_begins net p sent xs got mark full b begins (coming drawn passed body none may some e f (all_there m ys k)) =
    let w = within_body passed xs body m ys k in
    let h = spelled (behind drawn []) in
    (w.0, f ∙ ap (λ z. h ++ z) w.1 ∙ sym (append_assoc h passed w.0) ∙ ap (λ z. z ++ w.0) (sym e))
got_begins net p sent xs got mark full b begins (coming drawn passed body none may some e f (in_part k nonempty is)) =
    let w = within_bytes passed xs sent k in
    let m = begins nonempty in
    let h = spelled (behind drawn []) in (
      w.0 ++ m.0,
      f ∙ ap (λ z. h ++ z) (is ∙ m.1 ∙ ap (λ z. z ++ m.0) w.1 ∙ append_assoc passed w.0 m.0) ∙ sym (append_assoc h passed (w.0 ++ m.0)) ∙ ap (λ z. z ++ (w.0 ++ m.0)) (sym e),
    )

-- the steps, at the way that they change

header_passed : (drawn : Option ℕ) (passed : List ℕ) → (passed ≡ [] → ⊥) → spelled (behind drawn []) ++ passed ≡ [] → ⊥
header_passed drawn passed some e = some (no_header drawn passed (sym e))

headed_begun : (d : Option ℕ) (got : List ℕ) → (got ≡ [] → ⊥) → headed d got ≡ got
headed_begun d [] some = absurd (some refl)
headed_begun d (b ∷ bs) some = refl

comes_byte : (sent : List ℕ) (b : ℕ) (xs : List Token) (full passed body : List ℕ) → Comes sent (Byte b ∷ xs) full passed body → Comes sent xs full (passed ++ b ∷ []) body
comes_byte sent b xs full passed body (all_there m ys e) =
    all_there m ys (ap (λ k. k ++ xs) (bytes-append passed (b ∷ [])) ∙ append_assoc (bytes passed) (Byte b ∷ []) xs ∙ e)
comes_byte sent b xs full passed body (in_part e some is) =
    in_part (ap (λ k. k ++ xs) (bytes-append passed (b ∷ [])) ∙ append_assoc (bytes passed) (Byte b ∷ []) xs ∙ e) some is

-- a byte passes
pub whole_byte : (net : Net) (p : Port) (sent : List ℕ) (d : Option ℕ) (b : ℕ) (xs : List Token) (got : List ℕ) (mark : Option Mark) (full whole : List ℕ) → mark ≡ None →
    WholeGot net p sent (Byte b ∷ xs) got mark full whole → WholeGot net p sent xs (headed d got ++ b ∷ []) mark full whole
whole_byte net p sent d b xs got mark full whole none (marked m is e) = absurd (let f : None ≡ Some m = sym none ∙ is in cc)
whole_byte net p sent d b xs got mark full whole none (coming drawn passed body none2 may some e f c) =
    coming drawn (passed ++ b ∷ []) body none may (not_empty passed b)
    (ap (λ k. k ++ b ∷ []) (headed_begun d got (λ k. header_passed drawn passed some (sym e ∙ k)) ∙ e) ∙ append_assoc (spelled (behind drawn [])) passed (b ∷ []))
    f (comes_byte sent b xs full passed body c)

-- a mark passes
pub whole_mark : (net : Net) (p : Port) (sent : List ℕ) (d : Option ℕ) (m : Mark) (xs : List Token) (got : List ℕ) (mark : Option Mark) (full whole : List ℕ) (ys : List Token) → mark ≡ None →
    WholeGot net p sent (EndMark m ∷ xs) got mark full whole → WholeGot net p sent ys (headed d got) (Some m) full whole
whole_mark net p sent d m xs got mark full whole ys none (marked m2 is e) = absurd (let f : None ≡ Some m2 = sym none ∙ is in cc)
whole_mark net p sent d m xs got mark full whole ys none (coming drawn passed body none2 may some e f (in_part k nonempty is)) = absurd (mark_in_bytes passed m xs sent k)
whole_mark net p sent d m xs got mark full whole ys none (coming drawn passed body none2 may some e f (all_there m2 zs k)) =
    let s = same_start passed m xs body m2 zs k in
    marked m refl (f ∙ ap (λ z. spelled (behind drawn []) ++ z) (sym s.0) ∙ sym e ∙ sym (headed_begun d got (λ k. header_passed drawn passed some (sym e ∙ k))))

-- a byte is put
comes_put : (sent : List ℕ) (c : ℕ) (xs : List Token) (full full2 passed body : List ℕ) → ((sent ≡ [] → ⊥) → full2 ≡ full) → Comes sent xs full passed body →
    Comes (sent ++ c ∷ []) (xs ++ Byte c ∷ []) full2 passed body
comes_put sent c xs full full2 passed body same (all_there m ys e) =
    all_there m (ys ++ Byte c ∷ [])
    (sym (append_assoc (bytes passed) xs (Byte c ∷ [])) ∙ ap (λ k. k ++ Byte c ∷ []) e ∙ append_assoc (bytes body) (EndMark m ∷ ys) (Byte c ∷ []))
comes_put sent c xs full full2 passed body same (in_part e some is) =
    in_part (sym (append_assoc (bytes passed) xs (Byte c ∷ [])) ∙ ap (λ k. k ++ Byte c ∷ []) e ∙ sym (bytes-append sent (c ∷ []))) (not_empty sent c) (is ∙ sym (same some))

pub whole_put : (net : Net) (p : Port) (sent : List ℕ) (c : ℕ) (xs : List Token) (got : List ℕ) (mark : Option Mark) (full full2 whole : List ℕ) → ((sent ≡ [] → ⊥) → full2 ≡ full) →
    WholeGot net p sent xs got mark full whole → WholeGot net p (sent ++ c ∷ []) (xs ++ Byte c ∷ []) got mark full2 whole
whole_put net p sent c xs got mark full full2 whole same (marked m is e) = marked m is e
whole_put net p sent c xs got mark full full2 whole same (coming drawn passed body none may some e f k) =
    coming drawn passed body none may some e f (comes_put sent c xs full full2 passed body same k)

-- a mark is put
comes_closed : (sent : List ℕ) (m : Mark) (xs : List Token) (full passed body : List ℕ) → ((sent ≡ [] → ⊥) → full ≡ sent) → Comes sent xs full passed body →
    Comes [] (xs ++ EndMark m ∷ []) full passed body
comes_closed sent m xs full passed body same (all_there m2 ys e) =
    all_there m2 (ys ++ EndMark m ∷ [])
    (sym (append_assoc (bytes passed) xs (EndMark m ∷ [])) ∙ ap (λ k. k ++ EndMark m ∷ []) e ∙ append_assoc (bytes body) (EndMark m2 ∷ ys) (EndMark m ∷ []))
comes_closed sent m xs full passed body same (in_part e some is) =
    all_there m []
    (sym (append_assoc (bytes passed) xs (EndMark m ∷ [])) ∙ ap (λ k. k ++ EndMark m ∷ []) e ∙ ap (λ k. bytes k ++ EndMark m ∷ []) (sym (is ∙ same some)))

pub whole_closed : (net : Net) (p : Port) (sent : List ℕ) (m : Mark) (xs : List Token) (got : List ℕ) (mark : Option Mark) (full whole : List ℕ) → ((sent ≡ [] → ⊥) → full ≡ sent) →
    WholeGot net p sent xs got mark full whole → WholeGot net p [] (xs ++ EndMark m ∷ []) got mark full whole
whole_closed net p sent m xs got mark full whole same (marked m2 is e) = marked m2 is e
whole_closed net p sent m xs got mark full whole same (coming drawn passed body none may some e f k) =
    coming drawn passed body none may some e f (comes_closed sent m xs full passed body same k)
