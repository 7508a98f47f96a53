-- What is under way is weighed, and how a change of one queue, wire, buffer, input or channel changes the sums of their weights.
--
-- By a way, a token weighs the more the earlier it stands: 3 g + 4 in the queue, 3 g + 3 on the wire, 3 g + 2 in the buffer, and g in
-- a switch, where three bytes of it can have come of one token. So a token that moves is lighter, if g falls from way to way.
use Rattle.std.proofs.Common.{◌≡◌, ℕ, suc, ◌+◌, ◌*◌, ◌-◌, ◌≤◌, ◌<◌, inl, inr, List, [], ◌∷◌, ◌++◌, length, sym, ap, ◌∙◌, arith, Option, Some, None, length-append, mul-le-mul_left}
use Rattle.std.proofs.lemmas.Bool.{cases_eq}
use Rattle.vc_packets.specs.Functions.{put}
use Rattle.vc_packets.specs.Pieces.{joined}
use Rattle.vc_packets.specs.declared.mark.Mark.{Mark}
use Rattle.vc_packets.specs.declared.packet.Packet.{Packet}
use Rattle.vc_credit.specs.Ends.{Sender}
use Rattle.vc_tokens.specs.Tokens.{Token, Byte, Fct, EndMark}
use Rattle.vc_machine.specs.Paths.{Port, AtNode, AtSwitch, Net}
use Rattle.vc_machine.specs.Machine.{WayState, ChanState}
use Rattle.vc_machine.specs.Links.{Receiver, Tokens}
use Rattle.vc_machine.proofs.Update.{changed, kept}
use Rattle.vc_machine.proofs.Totals.{total, total_le, total_same, total_less, total_put, total_changed}
use Rattle.vc_machine.proofs.Basics.{put-same, put-other}

-- Weights

abbrev pub tokens_of : List Packet → ℕ
tokens_of [] = 0
tokens_of (p ∷ ps) = suc (length p.body) + tokens_of ps

-- the tokens of a queue that are still to be put
abbrev pub unsent : Port → List Packet → List ℕ → ℕ
unsent (AtNode n i) ps sent = tokens_of ps - length sent
unsent (AtSwitch n i) ps sent = tokens_of ps

abbrev pub queue_weight : Net → (ℕ → ℕ) → ℕ → WayState → Sender → ℕ
queue_weight net g w x a = (3 * g w + 4) * unsent (net.near w) x.queue a.sent

abbrev pub token_weight : ℕ → Token → ℕ
token_weight g Fct = 1
token_weight g (Byte b) = 3 * g + 3
token_weight g (EndMark m) = 3 * g + 3

abbrev pub wire_weight : ℕ → List Token → ℕ
wire_weight g [] = 0
wire_weight g (k ∷ ts) = token_weight g k + wire_weight g ts

-- the buffer's tokens, and the places that are neither full nor promised
abbrev pub buffer_weight : ℕ → Receiver → ℕ
buffer_weight g r = (3 * g + 2) * length r.buffer + (16 - (length r.buffer + r.promised))

abbrev pub marks : Option Mark → ℕ
marks None = 0
marks (Some m) = 1

abbrev pub sent_on : (ℕ → Sender) → Option ℕ → ℕ
sent_on a None = 0
sent_on a (Some out) = length (a out).sent

abbrev pub unbound : Option ℕ → ℕ
unbound None = 1
unbound (Some out) = 0

-- what was got and not put on the way out, and whether the way out is still to be chosen
abbrev pub input_weight : (ℕ → Sender) → ℕ → Receiver → ℕ
input_weight a g r = g * (length r.got + marks r.mark - sent_on a r.bound) + unbound r.bound

-- what was offered of a channel, and has come
abbrev pub offered_size : ChanState → ℕ
offered_size x = length (joined x.offered) + length x.offered

abbrev pub come_size : ChanState → ℕ
come_size x = length (joined x.taken) + length x.stored + length x.taken

-- the packets that are still to be sent for a channel are no more
abbrev pub due : ChanState → ℕ
due x = length x.unacked + (offered_size x - come_size x)

-- Sums

pub queues : Net → (ℕ → ℕ) → (ℕ → WayState) → (ℕ → Sender) → ℕ
queues net g ways a = total net.ways (λ w. queue_weight net g w (ways w) (a w))

pub wires : Net → (ℕ → ℕ) → (ℕ → List Token) → ℕ
wires net g wire = total net.ways (λ w. wire_weight (g w) (wire w))

pub buffers : Net → (ℕ → ℕ) → (ℕ → Receiver) → ℕ
buffers net g r = total net.ways (λ w. buffer_weight (g w) (r w))

pub inputs : Net → (ℕ → ℕ) → (ℕ → Sender) → (ℕ → Receiver) → ℕ
inputs net g a r = total net.ways (λ w. input_weight a (g w) (r w))

pub dues : Net → ℕ → (ℕ → ChanState) → ℕ
dues net packet chans = total net.chans (λ c. packet * due (chans c))

abbrev pub weight : Net → (ℕ → ℕ) → ℕ → Tokens → ℕ
weight net g packet t = queues net g t.nodes.ways t.sender + wires net g t.wire + buffers net g t.receiver + inputs net g t.sender t.receiver + dues net packet t.nodes.chans

-- Queues

tokens_append : (ps : List Packet) (p : Packet) → tokens_of (ps ++ p ∷ []) ≡ tokens_of ps + suc (length p.body)
tokens_append [] p = omega arith
tokens_append (q ∷ ps) p = omega (arith, tokens_append ps p)

unsent_append : (port : Port) (ps : List Packet) (p : Packet) (sent : List ℕ) → unsent port (ps ++ p ∷ []) sent ≤ unsent port ps sent + suc (length p.body)
unsent_append (AtNode n i) ps p sent = omega (arith, tokens_append ps p)
unsent_append (AtSwitch n i) ps p sent = omega (arith, tokens_append ps p)

-- a packet joins a queue
pub queued_weight : (net : Net) (g : ℕ → ℕ) (ways : ℕ → WayState) (a : ℕ → Sender) (w : ℕ) (p : Packet) → w < net.ways →
    queues net g (put ways w (record (ways w) { queue = (ways w).queue ++ p ∷ [] })) a ≤ queues net g ways a + (3 * g w + 4) * suc (length p.body)
unfolding queues
queued_weight net g ways a w p real =
    let x : WayState = record (ways w) { queue = (ways w).queue ++ p ∷ [] } in
    let e = total_changed net.ways w (queue_weight net g) ways (put ways w x) a a x (a w) (changed w ways x) (kept w a) real in
    let u = mul-le-mul_left (3 * g w + 4) (unsent_append (net.near w) (ways w).queue p (a w).sent) in
    omega arith

-- the way's tokens do not come from its queue
pub same_queues : (net : Net) (g : ℕ → ℕ) (ways : ℕ → WayState) (a : ℕ → Sender) (w n i : ℕ) (b : Sender) → net.near w ≡ AtSwitch n i →
    queues net g ways (put a w b) ≡ queues net g ways a
unfolding queues
same_queues net g ways a w n i b near =
    total_same net.ways (λ v. queue_weight net g v (ways v) (a v)) (λ v. queue_weight net g v (ways v) (put a w b v))
    (λ v real. elim (cases_eq v w) [
      | inl e ↦ (let k : net.near v ≡ AtSwitch n i = ap net.near e ∙ near in
          ap (λ z. (3 * g v + 4) * unsent z (ways v).queue (put a w b v).sent) k ∙ ap (λ z. (3 * g v + 4) * unsent z (ways v).queue (a v).sent) (sym k))
      | inr ne ↦ ap (λ (z : Sender). queue_weight net g v (ways v) z) (put-other a w b v ne)
    ])

-- only a credit is another
pub credit_queues : (net : Net) (g : ℕ → ℕ) (ways : ℕ → WayState) (a : ℕ → Sender) (w : ℕ) (b : Sender) → b.sent ≡ (a w).sent →
    queues net g ways (put a w b) ≡ queues net g ways a
unfolding queues
credit_queues net g ways a w b same =
    total_same net.ways (λ v. queue_weight net g v (ways v) (a v)) (λ v. queue_weight net g v (ways v) (put a w b v))
    (λ v real. elim (cases_eq v w) [
      | inl e ↦ (let k : (put a w b v).sent ≡ (a v).sent = ap (λ z. (put a w b z).sent) e ∙ ap (λ (z : Sender). z.sent) (put-same a w b) ∙ same ∙ ap (λ z. (a z).sent) (sym e) in
          ap (λ z. (3 * g v + 4) * unsent (net.near v) (ways v).queue z) k)
      | inr ne ↦ ap (λ (z : Sender). queue_weight net g v (ways v) z) (put-other a w b v ne)
    ])

-- a node puts a byte
pub byte_queues : (net : Net) (g : ℕ → ℕ) (ways : ℕ → WayState) (a : ℕ → Sender) (w n i : ℕ) (p : Packet) (rest : List Packet) (b : ℕ) (more : List ℕ) (c : Sender) → w < net.ways →
    net.near w ≡ AtNode n i → (ways w).queue ≡ p ∷ rest → p.body ≡ (a w).sent ++ b ∷ more → c.sent ≡ (a w).sent ++ b ∷ [] →
    queues net g ways (put a w c) + (3 * g w + 4) ≤ queues net g ways a
unfolding queues
byte_queues net g ways a w n i p rest b more c real near front is sent =
    let e = total_changed net.ways w (queue_weight net g) ways ways a (put a w c) (ways w) c (kept w ways) (changed w a c) real in
    let before : unsent (net.near w) (ways w).queue (a w).sent ≡ suc (length p.body) + tokens_of rest - length (a w).sent =
    ap (λ z. unsent z (ways w).queue (a w).sent) near ∙ ap (λ (z : List Packet). tokens_of z - length (a w).sent) front in
    let after : unsent (net.near w) (ways w).queue c.sent ≡ suc (length p.body) + tokens_of rest - length c.sent =
    ap (λ z. unsent z (ways w).queue c.sent) near ∙ ap (λ (z : List Packet). tokens_of z - length c.sent) front in
    let l : length p.body ≡ length (a w).sent + suc (length more) = ap length is ∙ length-append (a w).sent (b ∷ more) in
    let k : length c.sent ≡ length (a w).sent + 1 = ap length sent ∙ length-append (a w).sent (b ∷ []) in
    let less : unsent (net.near w) (ways w).queue c.sent + 1 ≤ unsent (net.near w) (ways w).queue (a w).sent = omega arith in
    let m = mul-le-mul_left (3 * g w + 4) less in
    omega arith

-- a node puts a mark
pub mark_queues : (net : Net) (g : ℕ → ℕ) (ways : ℕ → WayState) (a : ℕ → Sender) (w n i : ℕ) (p : Packet) (rest : List Packet) (c : Sender) → w < net.ways →
    net.near w ≡ AtNode n i → (ways w).queue ≡ p ∷ rest → p.body ≡ (a w).sent → c.sent ≡ [] →
    queues net g (put ways w (record (ways w) { queue = rest })) (put a w c) + (3 * g w + 4) ≤ queues net g ways a
unfolding queues
mark_queues net g ways a w n i p rest c real near front is sent =
    let x : WayState = record (ways w) { queue = rest } in
    let e = total_changed net.ways w (queue_weight net g) ways (put ways w x) a (put a w c) x c (changed w ways x) (changed w a c) real in
    let before : unsent (net.near w) (ways w).queue (a w).sent ≡ suc (length p.body) + tokens_of rest - length (a w).sent =
    ap (λ z. unsent z (ways w).queue (a w).sent) near ∙ ap (λ (z : List Packet). tokens_of z - length (a w).sent) front in
    let after : unsent (net.near w) rest c.sent ≡ tokens_of rest - length c.sent = ap (λ z. unsent z rest c.sent) near in
    let l : length p.body ≡ length (a w).sent = ap length is in
    let less : unsent (net.near w) rest c.sent + 1 ≤ unsent (net.near w) (ways w).queue (a w).sent = omega arith in
    let m = mul-le-mul_left (3 * g w + 4) less in
    omega arith

-- Wires

wire_append : (g : ℕ) (ts : List Token) (k : Token) → wire_weight g (ts ++ k ∷ []) ≡ wire_weight g ts + token_weight g k
wire_append g [] k = omega arith
wire_append g (t ∷ ts) k = omega (arith, wire_append g ts k)

pub wire_longer : (net : Net) (g : ℕ → ℕ) (wire : ℕ → List Token) (w : ℕ) (k : Token) → w < net.ways →
    wires net g (put wire w (wire w ++ k ∷ [])) ≡ wires net g wire + token_weight (g w) k
unfolding wires
wire_longer net g wire w k real =
    let e = total_put net.ways w (λ v. wire_weight (g v)) wire (wire w ++ k ∷ []) real in
    let a = wire_append (g w) (wire w) k in
    omega arith

pub wire_shorter : (net : Net) (g : ℕ → ℕ) (wire : ℕ → List Token) (w : ℕ) (k : Token) (rest : List Token) → w < net.ways → wire w ≡ k ∷ rest →
    wires net g (put wire w rest) + token_weight (g w) k ≡ wires net g wire
unfolding wires
wire_shorter net g wire w k rest real front =
    let e = total_put net.ways w (λ v. wire_weight (g v)) wire rest real in
    let a : wire_weight (g w) (wire w) ≡ token_weight (g w) k + wire_weight (g w) rest = ap (wire_weight (g w)) front in
    omega arith

-- Buffers and inputs

pub buffer_changed : (net : Net) (g : ℕ → ℕ) (r : ℕ → Receiver) (w : ℕ) (x : Receiver) → w < net.ways →
    buffers net g (put r w x) + buffer_weight (g w) (r w) ≡ buffers net g r + buffer_weight (g w) x
unfolding buffers
buffer_changed net g r w x real = total_put net.ways w (λ v. buffer_weight (g v)) r x real

pub input_changed : (net : Net) (g : ℕ → ℕ) (a : ℕ → Sender) (r : ℕ → Receiver) (w : ℕ) (x : Receiver) → w < net.ways →
    inputs net g a (put r w x) + input_weight a (g w) (r w) ≡ inputs net g a r + input_weight a (g w) x
unfolding inputs
input_changed net g a r w x real = total_put net.ways w (λ v. input_weight a (g v)) r x real

sent_more : (a : ℕ → Sender) (w : ℕ) (b : Sender) (o : Option ℕ) → length (a w).sent ≤ length b.sent → sent_on a o ≤ sent_on (put a w b) o
sent_more a w b None more = omega arith
sent_more a w b (Some out) more =
    elim (cases_eq out w) [
      | inl e ↦ (let k : length (put a w b out).sent ≡ length b.sent = ap (λ z. length (put a w b z).sent) e ∙ ap (λ (z : Sender). length z.sent) (put-same a w b) in
          let l : length (a out).sent ≡ length (a w).sent = ap (λ z. length (a z).sent) e in
          omega arith)
      | inr ne ↦ (let k : length (put a w b out).sent ≡ length (a out).sent = ap (λ (z : Sender). length z.sent) (put-other a w b out ne) in omega arith)
    ]

input_less : (a c : ℕ → Sender) (g : ℕ) (r : Receiver) → sent_on a r.bound ≤ sent_on c r.bound → input_weight c g r ≤ input_weight a g r
input_less a c g r more =
    let l : length r.got + marks r.mark - sent_on c r.bound ≤ length r.got + marks r.mark - sent_on a r.bound = omega arith in
    let m = mul-le-mul_left g l in
    omega arith

-- more is put on a way
pub more_inputs : (net : Net) (g : ℕ → ℕ) (a : ℕ → Sender) (r : ℕ → Receiver) (w : ℕ) (b : Sender) → length (a w).sent ≤ length b.sent →
    inputs net g (put a w b) r ≤ inputs net g a r
unfolding inputs
more_inputs net g a r w b more =
    total_le net.ways (λ v. input_weight a (g v) (r v)) (λ v. input_weight (put a w b) (g v) (r v))
    (λ v real. input_less a (put a w b) (g v) (r v) (sent_more a w b (r v).bound more))

-- a byte more of what input v got
pub byte_inputs : (net : Net) (g : ℕ → ℕ) (a : ℕ → Sender) (r : ℕ → Receiver) (w v : ℕ) (b : Sender) → v < net.ways → (r v).bound ≡ Some w →
    length b.sent ≡ length (a w).sent + 1 → length (a w).sent < length (r v).got → inputs net g (put a w b) r + g v ≤ inputs net g a r
unfolding inputs
byte_inputs net g a r w v b real bound one low =
    let e : sent_on a (r v).bound ≡ length (a w).sent = ap (sent_on a) bound in
    let f : sent_on (put a w b) (r v).bound ≡ length b.sent = ap (sent_on (put a w b)) bound ∙ ap (λ (z : Sender). length z.sent) (put-same a w b) in
    let l : length (r v).got + marks (r v).mark - sent_on (put a w b) (r v).bound + 1 ≤ length (r v).got + marks (r v).mark - sent_on a (r v).bound = omega arith in
    let m = mul-le-mul_left (g v) l in
    total_less net.ways v (g v) (λ v. input_weight a (g v) (r v)) (λ v. input_weight (put a w b) (g v) (r v))
    (λ v real. input_less a (put a w b) (g v) (r v) (sent_more a w b (r v).bound (omega arith))) real (omega arith)

-- no input is bound to the way
pub free_inputs : (net : Net) (g : ℕ → ℕ) (a : ℕ → Sender) (r : ℕ → Receiver) (w : ℕ) (b : Sender) → ((v : ℕ) → v < net.ways → (r v).bound ≡ Some w → ⊥) →
    inputs net g (put a w b) r ≤ inputs net g a r
unfolding inputs
free_inputs net g a r w b none =
    total_le net.ways (λ v. input_weight a (g v) (r v)) (λ v. input_weight (put a w b) (g v) (r v))
    (λ v real. input_less a (put a w b) (g v) (r v) (other (r v).bound (none v real)))
  where
    other : (o : Option ℕ) → (o ≡ Some w → ⊥) → sent_on a o ≤ sent_on (put a w b) o
    other None ne = omega arith
    other (Some out) ne =
        let k : length (put a w b out).sent ≡ length (a out).sent = ap (λ (z : Sender). length z.sent) (put-other a w b out (λ e. ne (ap Some e))) in
        omega arith

-- Channels

pub due_less : (net : Net) (packet : ℕ) (chans : ℕ → ChanState) (c : ℕ) (x : ChanState) → c < net.chans → due x + 1 ≤ due (chans c) →
    dues net packet (put chans c x) + packet ≤ dues net packet chans
unfolding dues
due_less net packet chans c x real less =
    let e = total_put net.chans c (λ d y. packet * due y) chans x real in
    let m = mul-le-mul_left packet less in
    omega arith

pub due_same : (net : Net) (packet : ℕ) (chans : ℕ → ChanState) (c : ℕ) (x : ChanState) → due x ≡ due (chans c) → dues net packet (put chans c x) ≡ dues net packet chans
unfolding dues
due_same net packet chans c x same =
    total_same net.chans (λ d. packet * due (chans d)) (λ d. packet * due (put chans c x d))
    (λ d real. elim (cases_eq d c) [
      | inl e ↦ ap (λ z. packet * due (put chans c x z)) e ∙ ap (λ (z : ChanState). packet * due z) (put-same chans c x) ∙ ap (λ z. packet * z) same ∙ ap (λ z. packet * due (chans z)) (sym e)
      | inr ne ↦ ap (λ (z : ChanState). packet * due z) (put-other chans c x d ne)
    ])
