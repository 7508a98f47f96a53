-- On an accepted network an event leads from tokens to one state only.
use Rattle.std.proofs.Common.{◌≡◌, ℕ, List, [], ◌∷◌, ◌++◌, sym, ap, subst, ◌∙◌}
use Rattle.std.proofs.lemmas.Option.{same_Some}
use Rattle.vc_packets.specs.declared.mark.Mark.{Mark}
use Rattle.vc_packets.specs.declared.packet.Packet.{Packet}
use Rattle.vc_machine.specs.Paths.{Port, AtNode, AtSwitch, Net, IsAccepted}
use Rattle.vc_machine.specs.Machine.{State, Reaches, BodyLeaves, set_way}
use Rattle.vc_machine.proofs.Cover.{body_same}
use Rattle.vc_machine.proofs.OneStep.{step_same, reaches_same}
use Rattle.vc_tokens.specs.Tokens.{Token, Byte, EndMark}
use Rattle.vc_machine.specs.Links.{Tokens, set_wire, set_receiver}
use Rattle.vc_switch.specs.Waiting.{Waiting}
use Rattle.vc_machine.specs.TokenMachine.{TokenEvent, Proc, Take, Pass, Put, PutFct, TokenStep, arrive, with_header, Takes, Closes, keeps, loses, Passes, node_byte, node_mark, switch_byte, switch_mark, put_byte, put_mark, released, IsBoundTo, Puts}
use Rattle.vc_machine.specs.View.{Bindings}

abbrev SameFront : Token → List Token → Token → List Token → Type 0
SameFront k ks j js = (k ≡ j) × (ks ≡ js)

front_same : (xs : List Token) (k j : Token) (ks js : List Token) → xs ≡ k ∷ ks → xs ≡ j ∷ js → SameFront k ks j js
front_same xs k j ks js e h = (cc, cc)

byte_same : (b c : ℕ) → Byte b ≡ Byte c → b ≡ c
byte_same b c e = cc

mark_same : (m k : Mark) → EndMark m ≡ EndMark k → m ≡ k
mark_same m k e = cc

node_same : (p : Port) (n i m j : ℕ) → p ≡ AtNode n i → p ≡ AtNode m j → n ≡ m
node_same p n i m j e h = cc

switch_one : (p : Port) (n i m j : ℕ) → p ≡ AtSwitch n i → p ≡ AtSwitch m j → (n ≡ m) × (i ≡ j)
switch_one p n i m j e h = (cc, cc)

packet_same : (xs : List Packet) (p q : Packet) (ps qs : List Packet) → xs ≡ p ∷ ps → xs ≡ q ∷ qs → (p ≡ q) × (ps ≡ qs)
packet_same xs p q ps qs e h = (cc, cc)

takes_same : (net : Net) (back : ℕ → ℕ) (t : Tokens) (w word : ℕ) (u v : Tokens) → Takes net back t w word u → Takes net back t w word v → u ≡ v
takes_same net back t w word u v a b =
    let same = front_same (t.wire w) a.token b.token a.rest b.rest a.front b.front in
    a.after ∙ (λ i. arrive back (set_wire t w (same.1 i)) w word (same.0 i)) ∙ sym b.after

closes_same : (net : Net) (t : Tokens) (n w : ℕ) (got : List ℕ) (m : Mark) (rest : List Token) (u v : Tokens) → Closes net t n w got m rest u → Closes net t n w got m rest v → u ≡ v
closes_same net t n w got m rest u v (keeps g e) (keeps g2 h) = e ∙ sym h
closes_same net t n w got m rest u v (keeps g e) (loses alone h) = absurd (alone g)
closes_same net t n w got m rest u v (loses alone e) (keeps g h) = absurd (alone g)
closes_same net t n w got m rest u v (loses alone e) (loses alone2 h) = e ∙ sym h

byte_or_mark : (xs : List Token) (b : ℕ) (rest : List Token) (m : Mark) (rest2 : List Token) → xs ≡ Byte b ∷ rest → xs ≡ EndMark m ∷ rest2 → ⊥
byte_or_mark xs b rest m rest2 e h = cc

node_or_switch : (p : Port) (n i m j : ℕ) → p ≡ AtNode n i → p ≡ AtSwitch m j → ⊥
node_or_switch p n i m j e h = cc

passes_same : (net : Net) (t : Tokens) (w : ℕ) (u v : Tokens) → IsAccepted net → Passes net t w u → Passes net t w v → u ≡ v
passes_same net t w u v acc (node_byte n i b rest far front e) (node_byte n2 i2 b2 rest2 far2 front2 h) =
    let s = front_same (t.receiver w).buffer (Byte b) (Byte b2) rest rest2 front front2 in
    let c = byte_same b b2 s.0 in
    e ∙ (λ j. set_receiver t w (record (t.receiver w) { buffer = s.1 j; got = (t.receiver w).got ++ c j ∷ [] })) ∙ sym h
passes_same net t w u v acc (node_byte n i b rest far front e) (node_mark n2 i2 m rest2 k far2 front2 reach h) = absurd (byte_or_mark (t.receiver w).buffer b rest m rest2 front front2)
passes_same net t w u v acc (node_byte n i b rest far front e) (switch_byte n2 i2 b2 rest2 far2 none front2 h) = absurd (node_or_switch (net.far w) n i n2 i2 far far2)
passes_same net t w u v acc (node_byte n i b rest far front e) (switch_mark n2 i2 m rest2 far2 none front2 closes) = absurd (node_or_switch (net.far w) n i n2 i2 far far2)
passes_same net t w u v acc (node_mark n i m rest k far front reach e) (node_byte n2 i2 b2 rest2 far2 front2 h) = absurd (byte_or_mark (t.receiver w).buffer b2 rest2 m rest front2 front)
passes_same net t w u v acc (node_mark n i m rest k far front reach e) (node_mark n2 i2 m2 rest2 k2 far2 front2 reach2 h) =
    let s = front_same (t.receiver w).buffer (EndMark m) (EndMark m2) rest rest2 front front2 in
    let c = mark_same m m2 s.0 in
    let d = node_same (net.far w) n i n2 i2 far far2 in
    let r : Reaches net t.nodes n2 (record { body = (t.receiver w).got; mark = m2 }) k =
    subst (λ j. Reaches net t.nodes n2 (record { body = (t.receiver w).got; mark = j }) k) c (subst (λ j. Reaches net t.nodes j (record { body = (t.receiver w).got; mark = m }) k) d reach) in
    let q : k ≡ k2 = reaches_same net t.nodes n2 (record { body = (t.receiver w).got; mark = m2 }) k k2 acc r reach2 in
    e ∙ (λ j. record (set_receiver t w (record (t.receiver w) { buffer = s.1 j; got = [] })) { nodes = q j }) ∙ sym h
passes_same net t w u v acc (node_mark n i m rest k far front reach e) (switch_byte n2 i2 b2 rest2 far2 none front2 h) = absurd (node_or_switch (net.far w) n i n2 i2 far far2)
passes_same net t w u v acc (node_mark n i m rest k far front reach e) (switch_mark n2 i2 m2 rest2 far2 none front2 closes) = absurd (node_or_switch (net.far w) n i n2 i2 far far2)
passes_same net t w u v acc (switch_byte n i b rest far none front e) (node_byte n2 i2 b2 rest2 far2 front2 h) = absurd (node_or_switch (net.far w) n2 i2 n i far2 far)
passes_same net t w u v acc (switch_byte n i b rest far none front e) (node_mark n2 i2 m rest2 k far2 front2 reach h) = absurd (node_or_switch (net.far w) n2 i2 n i far2 far)
passes_same net t w u v acc (switch_byte n i b rest far none front e) (switch_byte n2 i2 b2 rest2 far2 none2 front2 h) =
    let s = front_same (t.receiver w).buffer (Byte b) (Byte b2) rest rest2 front front2 in
    let c = byte_same b b2 s.0 in
    let d = switch_one (net.far w) n i n2 i2 far far2 in
    e ∙ (λ j. set_receiver t w (record (t.receiver w) { buffer = s.1 j; got = with_header net (d.0 j) (d.1 j) (t.receiver w) ++ c j ∷ [] })) ∙ sym h
passes_same net t w u v acc (switch_byte n i b rest far none front e) (switch_mark n2 i2 m rest2 far2 none2 front2 closes) = absurd (byte_or_mark (t.receiver w).buffer b rest m rest2 front front2)
passes_same net t w u v acc (switch_mark n i m rest far none front closes) (node_byte n2 i2 b2 rest2 far2 front2 h) = absurd (node_or_switch (net.far w) n2 i2 n i far2 far)
passes_same net t w u v acc (switch_mark n i m rest far none front closes) (node_mark n2 i2 m2 rest2 k far2 front2 reach h) = absurd (node_or_switch (net.far w) n2 i2 n i far2 far)
passes_same net t w u v acc (switch_mark n i m rest far none front closes) (switch_byte n2 i2 b2 rest2 far2 none2 front2 h) = absurd (byte_or_mark (t.receiver w).buffer b2 rest2 m rest front2 front)
passes_same net t w u v acc (switch_mark n i m rest far none front closes) (switch_mark n2 i2 m2 rest2 far2 none2 front2 closes2) =
    let s = front_same (t.receiver w).buffer (EndMark m) (EndMark m2) rest rest2 front front2 in
    let c = mark_same m m2 s.0 in
    let d = switch_one (net.far w) n i n2 i2 far far2 in
    closes_same net t n2 w (with_header net n2 i2 (t.receiver w)) m2 rest2 u v
    (subst (λ k. Closes net t n2 w (with_header net n2 i2 (t.receiver w)) m2 k u) s.1
    (subst (λ k. Closes net t n2 w (with_header net n2 i2 (t.receiver w)) k rest u) c
    (subst (λ k. Closes net t n2 w (with_header net n2 k (t.receiver w)) m rest u) d.1
    (subst (λ k. Closes net t k w (with_header net k i (t.receiver w)) m rest u) d.0 closes))))
    closes2

-- the input that is bound, and what it sends
bound_same : (net : Net) (waiting : Waiting) (t : Tokens) (n v w : ℕ) (d : List ℕ) (n2 v2 : ℕ) (d2 : List ℕ) → Bindings net t → IsBoundTo net waiting t n v w d → IsBoundTo net waiting t n2 v2 w d2 → (v ≡ v2) × (d ≡ d2)
bound_same net waiting t n v w d n2 v2 d2 b h k =
    let s : v ≡ v2 = b.one v v2 w h.real k.real h.bound k.bound in
    let o = switch_one (net.far v2) n h.link n2 k.link (subst (λ j. net.far j ≡ AtSwitch n h.link) s h.far) k.far in
    (s, body_same net n2 (t.receiver v2).got w d d2 (subst (λ j. BodyLeaves net j (t.receiver v2).got w d) o.0 (subst (λ j. BodyLeaves net n (t.receiver j).got w d) s h.leaves)) k.leaves)

-- a byte or the end follows
next_byte : (xs : List ℕ) (b c : ℕ) (ys zs : List ℕ) (d : List ℕ) → d ≡ xs ++ b ∷ ys → d ≡ xs ++ c ∷ zs → b ≡ c
next_byte xs b c ys zs d e h = head_of xs b c ys zs (sym e ∙ h)
  where
    head_of : (xs : List ℕ) (b c : ℕ) (ys zs : List ℕ) → xs ++ b ∷ ys ≡ xs ++ c ∷ zs → b ≡ c
    head_of [] b c ys zs e = cc
    head_of (x ∷ xs) b c ys zs e = (let t : xs ++ b ∷ ys ≡ xs ++ c ∷ zs = cc in head_of xs b c ys zs t)

no_next : (xs : List ℕ) (b : ℕ) (ys d : List ℕ) → d ≡ xs ++ b ∷ ys → d ≡ xs → ⊥
no_next xs b ys d e h = longer_than xs b ys (sym h ∙ e)
  where
    longer_than : (xs : List ℕ) (b : ℕ) (ys : List ℕ) → xs ≡ xs ++ b ∷ ys → ⊥
    longer_than [] b ys e = cc
    longer_than (x ∷ xs) b ys e = (let t : xs ≡ xs ++ b ∷ ys = cc in longer_than xs b ys t)

near_switch : (net : Net) (waiting : Waiting) (t : Tokens) (n v w : ℕ) (d : List ℕ) (m i : ℕ) → IsBoundTo net waiting t n v w d → net.near w ≡ AtNode m i → ⊥
near_switch net waiting t n v w d m i h near = let l = h.leaves in let k = l.leaves in node_or_switch (net.near w) m i n k.link near k.near

puts_same : (net : Net) (waiting : Waiting) (t : Tokens) (w : ℕ) (u v : Tokens) → Bindings net t → Puts net waiting t w u → Puts net waiting t w v → u ≡ v
puts_same net waiting t w u v b (node_byte n i p rest c more near front is e) (node_byte n2 i2 p2 rest2 c2 more2 near2 front2 is2 h) =
    let s = packet_same (t.nodes.ways w).queue p p2 rest rest2 front front2 in
    let k = next_byte (t.sender w).sent c c2 more more2 p2.body (subst (λ (q : Packet). q.body ≡ (t.sender w).sent ++ c ∷ more) s.0 is) is2 in
    e ∙ ap (put_byte t w) k ∙ sym h
puts_same net waiting t w u v b (node_byte n i p rest c more near front is e) (node_mark n2 i2 p2 rest2 near2 front2 is2 h) =
    let s = packet_same (t.nodes.ways w).queue p p2 rest rest2 front front2 in
    absurd (no_next (t.sender w).sent c more p2.body (subst (λ (q : Packet). q.body ≡ (t.sender w).sent ++ c ∷ more) s.0 is) is2)
puts_same net waiting t w u v b (node_byte n i p rest c more near front is e) (switch_byte n2 x d c2 more2 k is2 h) = absurd (near_switch net waiting t n2 x w d n i k near)
puts_same net waiting t w u v b (node_byte n i p rest c more near front is e) (switch_mark n2 x d m k mark is2 h) = absurd (near_switch net waiting t n2 x w d n i k near)
puts_same net waiting t w u v b (node_mark n i p rest near front is e) (node_byte n2 i2 p2 rest2 c2 more2 near2 front2 is2 h) =
    let s = packet_same (t.nodes.ways w).queue p p2 rest rest2 front front2 in
    absurd (no_next (t.sender w).sent c2 more2 p2.body is2 (subst (λ (q : Packet). q.body ≡ (t.sender w).sent) s.0 is))
puts_same net waiting t w u v b (node_mark n i p rest near front is e) (node_mark n2 i2 p2 rest2 near2 front2 is2 h) =
    let s = packet_same (t.nodes.ways w).queue p p2 rest rest2 front front2 in
    e ∙ (λ j. let q = s.0 j in record (put_mark t w q.mark) { nodes = set_way t.nodes w (record (t.nodes.ways w) { queue = s.1 j }) }) ∙ sym h
puts_same net waiting t w u v b (node_mark n i p rest near front is e) (switch_byte n2 x d c2 more2 k is2 h) = absurd (near_switch net waiting t n2 x w d n i k near)
puts_same net waiting t w u v b (node_mark n i p rest near front is e) (switch_mark n2 x d m k mark is2 h) = absurd (near_switch net waiting t n2 x w d n i k near)
puts_same net waiting t w u v b (switch_byte n x d c more k is e) (node_byte n2 i2 p2 rest2 c2 more2 near2 front2 is2 h) = absurd (near_switch net waiting t n x w d n2 i2 k near2)
puts_same net waiting t w u v b (switch_byte n x d c more k is e) (node_mark n2 i2 p2 rest2 near2 front2 is2 h) = absurd (near_switch net waiting t n x w d n2 i2 k near2)
puts_same net waiting t w u v b (switch_byte n x d c more k is e) (switch_byte n2 x2 d2 c2 more2 k2 is2 h) =
    let s = bound_same net waiting t n x w d n2 x2 d2 b k k2 in
    e ∙ ap (put_byte t w) (next_byte (t.sender w).sent c c2 more more2 d is (s.1 ∙ is2)) ∙ sym h
puts_same net waiting t w u v b (switch_byte n x d c more k is e) (switch_mark n2 x2 d2 m k2 mark is2 h) =
    let s = bound_same net waiting t n x w d n2 x2 d2 b k k2 in
    absurd (no_next (t.sender w).sent c more d is (s.1 ∙ is2))
puts_same net waiting t w u v b (switch_mark n x d m k mark is e) (node_byte n2 i2 p2 rest2 c2 more2 near2 front2 is2 h) = absurd (near_switch net waiting t n x w d n2 i2 k near2)
puts_same net waiting t w u v b (switch_mark n x d m k mark is e) (node_mark n2 i2 p2 rest2 near2 front2 is2 h) = absurd (near_switch net waiting t n x w d n2 i2 k near2)
puts_same net waiting t w u v b (switch_mark n x d m k mark is e) (switch_byte n2 x2 d2 c2 more2 k2 is2 h) =
    let s = bound_same net waiting t n x w d n2 x2 d2 b k k2 in
    absurd (no_next (t.sender w).sent c2 more2 d (s.1 ∙ is2) is)
puts_same net waiting t w u v b (switch_mark n x d m k mark is e) (switch_mark n2 x2 d2 m2 k2 mark2 is2 h) =
    let s = bound_same net waiting t n x w d n2 x2 d2 b k k2 in
    let y : m ≡ m2 = same_Some m m2 (sym mark ∙ ap (λ j. (t.receiver j).mark) s.0 ∙ mark2) in
    e ∙ (λ j. put_mark (released t (s.0 j)) w (y j)) ∙ sym h

pub token_step_same : (net : Net) (back : ℕ → ℕ) (waiting : Waiting) (t : Tokens) (e : TokenEvent) (u v : Tokens) → IsAccepted net → Bindings net t →
    TokenStep net back waiting t e u → TokenStep net back waiting t e v → u ≡ v
token_step_same net back waiting t (Proc e) u v acc b h k =
    h.1.2 ∙ ap (λ (n : State). record t { nodes = n }) (step_same net t.nodes e h.1.0 k.1.0 acc h.1.1 k.1.1) ∙ sym k.1.2
token_step_same net back waiting t (Take w word) u v acc b h k = takes_same net back t w word u v h k
token_step_same net back waiting t (Pass w) u v acc b h k = passes_same net t w u v acc h.1 k.1
token_step_same net back waiting t (Put w) u v acc b h k = puts_same net waiting t w u v b h.2 k.2
token_step_same net back waiting t (PutFct w) u v acc b h k = h.after ∙ sym k.after
token_step_same net back waiting t (TokenEvent.Route w out) u v acc b h k = h.after ∙ sym k.after
