-- What a change of a node's lists is to its steps.
use Rattle.std.proofs.Common.{◌≡◌, ℕ, List, [], ◌∷◌, refl, sym, ap, ◌∙◌, subst, slice_get, slice_set, length, ◌<◌, ◌≤◌, Option, Some}
use Rattle.std.proofs.lemmas.Option.{slice_get_within}
use Rattle.vc_packets.specs.Counters.{one_more}
use Rattle.vc_packets.specs.Functions.{put, shown_or}
use Rattle.vc_packets.specs.declared.packet.Packet.{Packet}
use Rattle.vc_tokens.specs.Tokens.{Token, Byte, Fct, EndMark}
use Rattle.vc_credit.specs.Ends.{Grants, Puts, credited, received, new_sender, new_receiver}
use Rattle.vc_credit.specs.Laws.{NeedsPlace}
use Rattle.vc_vcp.specs.Carrier.{Carrier}
use Rattle.vc_vcp.specs.LinkIn.{Receiving}
use Rattle.vc_vcp.specs.LinkOut.{Sending}
use Rattle.vc_vcp.specs.Private.LinkOut.{PutsFront, queue_after}
use Rattle.vc_vcp.specs.Links.{Link, Vcp, set_link, unqueued, SendsFct, Sends, Comes, due, not_due}
use Rattle.vc_vcp.specs.State.{State}
use Rattle.vc_vcp.specs.VcpView.{seen, link_of, carrier_of}
use Rattle.vc_vcp.proofs.ListWrites.{put_is, put_back, place-set_same, place-set_other, by_place-set}

-- one link's sending end is another
pub link-out : (s : State) (l : ℕ) (y : Sending) → l < length s.outs → link_of (record s { outs = slice_set s.outs l y }) ≡ put (link_of s) l (record (link_of s l) { sender = y.sender })
link-out s l y h = put_is (link_of s) (link_of (record s { outs = slice_set s.outs l y })) l (record (link_of s l) { sender = y.sender })
    (ap (λ (o : Option Sending). record (link_of s l) { sender = shown_or new_sender (λ x. x.sender) o }) (place-set_same s.outs l y h))
    (λ j ne. ap (λ (o : Option Sending). record (link_of s j) { sender = shown_or new_sender (λ x. x.sender) o }) (place-set_other s.outs l j y ne))

abbrev in_at : Link → Option Receiving → Link
in_at x o = record x { receiver = shown_or new_receiver (λ x. x.receiver) o; passed = shown_or [] (λ x. x.passed) o }

-- one link's receiving end is another
pub link-in : (s : State) (l : ℕ) (y : Receiving) → l < length s.ins → link_of (record s { ins = slice_set s.ins l y }) ≡ put (link_of s) l (record (link_of s l) { receiver = y.receiver; passed = y.passed })
link-in s l y h = put_is (link_of s) (link_of (record s { ins = slice_set s.ins l y })) l (record (link_of s l) { receiver = y.receiver; passed = y.passed })
    (ap (in_at (link_of s l)) (place-set_same s.ins l y h))
    (λ j ne. ap (in_at (link_of s j)) (place-set_other s.ins l j y ne))

pub seen-in : (s : State) (l : ℕ) (y : Receiving) → l < length s.ins → seen (record s { ins = slice_set s.ins l y }) ≡ set_link (seen s) l (record (link_of s l) { receiver = y.receiver; passed = y.passed })
seen-in s l y h = ap (λ k. record { carrier = carrier_of s; link = k }) (link-in s l y h)

pub seen-out : (s : State) (l : ℕ) (y : Sending) → l < length s.outs →
    seen (record s { outs = slice_set s.outs l y }) ≡ record { carrier = record (carrier_of s) { queue = put (carrier_of s).queue l y.queue }; link = put (link_of s) l (record (link_of s l) { sender = y.sender }) }
seen-out s l y h = λ i. record { carrier = record (carrier_of s) { queue = by_place-set (λ x. x.queue) [] s.outs l y h i }; link = link-out s l y h i }

-- an FCT goes out
pub grants_fct : (s : State) (l : ℕ) (x y : Receiving) → slice_get s.ins l ≡ Some x → Grants x.receiver y.receiver → y ≡ record x { receiver = y.receiver } →
    SendsFct (seen s) l (seen (record s { ins = slice_set s.ins l y }))
grants_fct s l x y here grants is =
    let r : (link_of s l).receiver ≡ x.receiver = ap (shown_or new_receiver (λ x. x.receiver)) here in
    let p : y.passed ≡ (link_of s l).passed = ap (λ z. z.passed) is ∙ sym (ap (shown_or [] (λ x. x.passed)) here) in
    record {
      receiver = y.receiver;
      grants = subst (λ z. Grants z y.receiver) (sym r) grants;
      after = seen-in s l y (slice_get_within s.ins l x here) ∙ ap (λ z. set_link (seen s) l (record (link_of s l) { receiver = y.receiver; passed = z })) p;
    }

-- the lists behind the value, and the link's number in the code
pub told : (P : Vcp → ℕ → Vcp → Type 0) (o s : State) (k l : ℕ) (new : Vcp) → o ≡ s → k ≡ l → P (seen o) k new → P (seen s) l new
told P o s k l new e same h = subst (λ z. P (seen z) l new) e (subst (λ j. P (seen o) j new) same h)

queue_told : (a : Carrier) (l : ℕ) (packet : Packet) (rest : List Packet) (k : Token) (q : List Packet) → a.queue l ≡ packet ∷ rest → q ≡ queue_after rest packet k → record a { queue = put a.queue l q } ≡ unqueued a l rest k
queue_told a l packet rest (EndMark m) q front is = ap (λ z. record a { queue = put a.queue l z }) is
queue_told a l packet rest (Byte b) q front is = ap (λ z. record a { queue = z }) (ap (put a.queue l) is ∙ put_back a.queue l (packet ∷ rest) front)
queue_told a l packet rest Fct q front is = ap (λ z. record a { queue = z }) (ap (put a.queue l) is ∙ put_back a.queue l (packet ∷ rest) front)

-- a token of the packet at the front goes out
pub sends_token : (s : State) (l : ℕ) (x y : Sending) (k : Token) → slice_get s.outs l ≡ Some x → PutsFront x k y → Sends (seen s) l k (seen (record s { outs = slice_set s.outs l y }))
sends_token s l x y k here h =
    let q : (carrier_of s).queue l ≡ h.packet ∷ h.rest = ap (shown_or [] (λ x. x.queue)) here ∙ h.front in
    let r : (link_of s l).sender ≡ x.sender = ap (shown_or new_sender (λ x. x.sender)) here in
    record {
      packet = h.packet;
      rest = h.rest;
      sender = y.sender;
      front = q;
      puts = subst (λ z. Puts z h.packet.body (Some h.packet.mark) k y.sender) (sym r) h.puts;
      after = seen-out s l y (slice_get_within s.outs l x here)
          ∙ ap (λ z. record { carrier = z; link = put (link_of s) l (record (link_of s l) { sender = y.sender }) }) (queue_told (carrier_of s) l h.packet h.rest k y.queue q h.queue);
    }

-- an FCT comes
pub fct_due : (s : State) (l : ℕ) (x y : Sending) → slice_get s.outs l ≡ Some x → x.sender.credit ≤ 8 → y ≡ record x { sender = credited x.sender } → Comes (seen s) l Fct (seen (record s { outs = slice_set s.outs l y }))
fct_due s l x y here low is =
    let q : (carrier_of s).queue l ≡ y.queue = ap (shown_or [] (λ x. x.queue)) here ∙ sym (ap (λ z. z.queue) is) in
    let r : (link_of s l).sender ≡ x.sender = ap (shown_or new_sender (λ x. x.sender)) here in
    let c : y.sender ≡ credited (link_of s l).sender = ap (λ z. z.sender) is ∙ ap credited (sym r) in
    due (subst (λ z. z.credit ≤ 8) (sym r) low)
    (seen-out s l y (slice_get_within s.outs l x here)
    ∙ (λ i. record { carrier = record (carrier_of s) { queue = put_back (carrier_of s).queue l y.queue q i }; link = put (link_of s) l (record (link_of s l) { sender = c i }) }))

pub fct_dropped : (s : State) (l : ℕ) (x : Sending) → slice_get s.outs l ≡ Some x → (x.sender.credit ≤ 8 → ⊥) → Comes (seen s) l Fct (seen (record s { strays = one_more s.strays }))
fct_dropped s l x here high = not_due (λ low. high (subst (λ z. z.credit ≤ 8) (ap (shown_or new_sender (λ x. x.sender)) here) low)) refl

-- another token comes
data_told : (s : State) (l : ℕ) (x y : Receiving) (k : Token) → slice_get s.ins l ≡ Some x → y ≡ record x { receiver = received x.receiver k } →
    seen (record s { ins = slice_set s.ins l y }) ≡ set_link (seen s) l (record (link_of s l) { receiver = received (link_of s l).receiver k })
data_told s l x y k here is =
    let r : (link_of s l).receiver ≡ x.receiver = ap (shown_or new_receiver (λ x. x.receiver)) here in
    let p : y.passed ≡ (link_of s l).passed = ap (λ z. z.passed) is ∙ sym (ap (shown_or [] (λ x. x.passed)) here) in
    let c : y.receiver ≡ received (link_of s l).receiver k = ap (λ z. z.receiver) is ∙ ap (λ z. received z k) (sym r) in
    seen-in s l y (slice_get_within s.ins l x here) ∙ (λ i. set_link (seen s) l (record (link_of s l) { receiver = c i; passed = p i }))

pub data_due : (s : State) (l : ℕ) (x y : Receiving) (k : Token) → NeedsPlace k → slice_get s.ins l ≡ Some x → 0 < x.receiver.promised → y ≡ record x { receiver = received x.receiver k } →
    Comes (seen s) l k (seen (record s { ins = slice_set s.ins l y }))
data_due s l x y Fct needs here place is = absurd (cc)
data_due s l x y (Byte b) needs here place is =
    due (subst (λ z. 0 < z.promised) (sym (ap (shown_or new_receiver (λ x. x.receiver)) here)) place) (data_told s l x y (Byte b) here is)
data_due s l x y (EndMark m) needs here place is =
    due (subst (λ z. 0 < z.promised) (sym (ap (shown_or new_receiver (λ x. x.receiver)) here)) place) (data_told s l x y (EndMark m) here is)

pub data_dropped : (s : State) (l : ℕ) (x : Receiving) (k : Token) → NeedsPlace k → slice_get s.ins l ≡ Some x → (0 < x.receiver.promised → ⊥) → Comes (seen s) l k (seen (record s { strays = one_more s.strays }))
data_dropped s l x Fct needs here full = absurd (cc)
data_dropped s l x (Byte b) needs here full = not_due (λ place. full (subst (λ z. 0 < z.promised) (ap (shown_or new_receiver (λ x. x.receiver)) here) place)) refl
data_dropped s l x (EndMark m) needs here full = not_due (λ place. full (subst (λ z. 0 < z.promised) (ap (shown_or new_receiver (λ x. x.receiver)) here) place)) refl
