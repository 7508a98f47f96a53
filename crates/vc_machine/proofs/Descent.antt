-- Each event that is no move of a process makes what is under way lighter, so of those only so many can happen one after another.
use Rattle.std.proofs.Common.{◌≡◌, ℕ, zero, suc, ◌+◌, ◌*◌, ◌-◌, ◌≤◌, ◌<◌, inl, inr, List, [], ◌∷◌, ◌++◌, length, refl, sym, ap, subst, ◌∙◌, arith, Some, None, length-append, mul-le-mul_left}
use Rattle.std.specs.List.{AllByRecursion}
use Rattle.std.proofs.lemmas.Bool.{cases_eq}
use Rattle.vc_packets.specs.declared.mark.Mark.{Mark}
use Rattle.vc_packets.specs.Functions.{put}
use Rattle.vc_packets.specs.Headers.{spelled}
use Rattle.vc_credit.specs.Ends.{Sender}
use Rattle.vc_switch.specs.Switch.{headed}
use Rattle.vc_switch.specs.Waiting.{Waiting}
use Rattle.vc_tokens.specs.Tokens.{Token, Byte, Fct, EndMark}
use Rattle.vc_machine.specs.Paths.{AtNode, AtSwitch, Net, IsAccepted}
use Rattle.vc_machine.specs.Machine.{State, BodyLeaves}
use Rattle.vc_machine.specs.Links.{Receiver, Tokens, set_wire, no_tokens}
use Rattle.vc_machine.specs.TokenMachine.{TokenEvent, Proc, Take, Pass, Put, PutFct, Route, TokenStep, TokenRun, arrive, keeps, loses, Closes, with_header, Passes, node_byte, node_mark, switch_byte, switch_mark, Puts, Grants, Binds}
use Rattle.vc_machine.specs.Laws.{HasHeaders}
use Rattle.vc_machine.specs.Dependencies.{Depends}
use Rattle.vc_machine.specs.Still.{MovesTokens, BackStays, RunsEnd}
use Rattle.vc_machine.proofs.PacketSizes.{spelled_length, leaves_shorter}
use Rattle.vc_machine.proofs.Standing.{Standing, bounded, stands}
use Rattle.vc_machine.proofs.Dependency.{rising}
use Rattle.vc_machine.proofs.Dues.{IsInOrder, in_order, reaching_spares}
use Rattle.vc_machine.proofs.Weights.{weight, buffers, inputs, buffer_weight, input_weight, marks, sent_on, unbound, same_queues, credit_queues, byte_queues, mark_queues, wire_longer, wire_shorter, buffer_changed, input_changed, more_inputs, byte_inputs, free_inputs}
use Rattle.vc_machine.proofs.Basics.{put-same, put-other}

-- One receiver

came : (g : ℕ) (r x : Receiver) (k : Token) → x.buffer ≡ r.buffer ++ k ∷ [] → x.promised ≡ r.promised - 1 → buffer_weight g x ≤ buffer_weight g r + (3 * g + 2)
came g r x k grown promised =
    let a : length x.buffer ≡ length r.buffer + 1 = ap length grown ∙ length-append r.buffer (k ∷ []) in
    let b : (3 * g + 2) * length x.buffer ≡ (3 * g + 2) * (length r.buffer + 1) = ap (λ z. (3 * g + 2) * z) a in
    omega arith

went : (g : ℕ) (r x : Receiver) (k : Token) (rest : List Token) → r.buffer ≡ k ∷ rest → x.buffer ≡ rest → x.promised ≡ r.promised → buffer_weight g x + (3 * g + 1) ≤ buffer_weight g r
went g r x k rest front left promised =
    let a : length r.buffer ≡ length x.buffer + 1 = ap length front ∙ (let e = ap length left in omega arith) in
    let b : (3 * g + 2) * length r.buffer ≡ (3 * g + 2) * (length x.buffer + 1) = ap (λ z. (3 * g + 2) * z) a in
    omega arith

-- n more are got at most
scaled : (g x y n s : ℕ) → y ≤ x + n → g * (y - s) ≤ g * (x - s) + g * n
scaled g x y n s h = let a = mul-le-mul_left g (let k : y - s ≤ x - s + n = omega arith in k) in omega arith

headed_length : (net : Net) (n i : ℕ) (r : Receiver) → length (with_header net n i r) ≤ length r.got + 2
headed_length net n i r = with_drawn _ r.got
  where
    with_drawn : (d : _) (got : List ℕ) → length (headed d got) ≤ length got + 2
    with_drawn None [] = omega arith
    with_drawn (Some v) [] = omega arith
    with_drawn d (b ∷ bs) = omega arith

-- what leaves a switch is no longer
leaves_length : (net : Net) (n : ℕ) (b : List ℕ) (w : ℕ) (d : List ℕ) → BodyLeaves net n b w d → length d ≤ length b
leaves_length net n b w d l =
    let k = leaves_shorter net n l.stack w l.after l.leaves in
    let e = ap length l.before_is ∙ length-append (spelled l.stack) l.rest in
    let f = ap length l.after_is ∙ length-append (spelled l.after) l.rest in
    let x = spelled_length l.stack in
    let y = spelled_length l.after in
    omega arith

-- The events

module _ (net : Net) (back : ℕ → ℕ) (waiting : Waiting) (most : ℕ) (acc : IsAccepted net) (has : HasHeaders net most) (stays : BackStays net back) (g : ℕ → ℕ) (packet : ℕ)
    (room : (w : ℕ) → w < net.ways → (3 * g w + 4) * (2 * most + 33) ≤ packet) (falls : (v w : ℕ) → w < net.ways → Depends net v w → 3 * g w + 5 ≤ g v) where
  abbrev heavy : Tokens → ℕ
  heavy t = weight net g packet t

  arrive_lighter : (t : Tokens) (w word : ℕ) (k : Token) (rest : List Token) → w < net.ways → t.wire w ≡ k ∷ rest → heavy (arrive back (set_wire t w rest) w word k) + 1 ≤ heavy t
  arrive_lighter t w word Fct rest real front =
      let r : Receiver = record (t.receiver w) { word = word } in
      let a : Sender = record (t.sender (back w)) { credit = (t.sender (back w)).credit + 8 } in
      let q = credit_queues net g t.nodes.ways t.sender (back w) a refl in
      let x = wire_shorter net g t.wire w Fct rest real front in
      let b = buffer_changed net g t.receiver w r real in
      let i = input_changed net g t.sender t.receiver w r real in
      let j = more_inputs net g t.sender (put t.receiver w r) (back w) a (omega arith) in
      omega arith
  arrive_lighter t w word (Byte c) rest real front =
      let r : Receiver = record (t.receiver w) { buffer = (t.receiver w).buffer ++ Byte c ∷ []; promised = (t.receiver w).promised - 1; word = word } in
      let x = wire_shorter net g t.wire w (Byte c) rest real front in
      let b = buffer_changed net g t.receiver w r real in
      let i = input_changed net g t.sender t.receiver w r real in
      let k = came (g w) (t.receiver w) r (Byte c) refl refl in
      omega arith
  arrive_lighter t w word (EndMark m) rest real front =
      let r : Receiver = record (t.receiver w) { buffer = (t.receiver w).buffer ++ EndMark m ∷ []; promised = (t.receiver w).promised - 1; word = word } in
      let x = wire_shorter net g t.wire w (EndMark m) rest real front in
      let b = buffer_changed net g t.receiver w r real in
      let i = input_changed net g t.sender t.receiver w r real in
      let k = came (g w) (t.receiver w) r (EndMark m) refl refl in
      omega arith

  grants_lighter : (t : Tokens) (w : ℕ) (u : Tokens) → Grants net back t w u → heavy u + 1 ≤ heavy t
  grants_lighter t w u h =
      let r : Receiver = record (t.receiver w) { promised = (t.receiver w).promised + 8 } in
      let x = wire_longer net g t.wire (back w) Fct (stays w h.real) in
      let b = buffer_changed net g t.receiver w r h.real in
      let i = input_changed net g t.sender t.receiver w r h.real in
      let free = h.room in
      subst (λ k. heavy k + 1 ≤ heavy t) (sym h.after) (omega arith)

  binds_lighter : (t : Tokens) (w out : ℕ) (u : Tokens) → Binds net waiting t w out u → heavy u + 1 ≤ heavy t
  binds_lighter t w out u h =
      let r0 = t.receiver w in
      let r : Receiver = record r0 { bound = Some out } in
      let b = buffer_changed net g t.receiver w r h.real in
      let i = input_changed net g t.sender t.receiver w r h.real in
      let before : input_weight t.sender (g w) r0 ≡ g w * (length r0.got + marks r0.mark - 0) + 1 =
      ap (λ o. input_weight t.sender (g w) (record r0 { bound = o })) h.unbound in
      let less = mul-le-mul_left (g w) (let k : length r0.got + marks r0.mark - length (t.sender out).sent ≤ length r0.got + marks r0.mark - 0 = omega arith in k) in
      subst (λ k. heavy k + 1 ≤ heavy t) (sym h.after) (omega arith)

  -- a token passes, and at most three bytes more, or two and the mark, are got
  got_lighter : (t : Tokens) (w : ℕ) (r : Receiver) (k : Token) (rest : List Token) → w < net.ways → (t.receiver w).buffer ≡ k ∷ rest → r.buffer ≡ rest → r.promised ≡ (t.receiver w).promised →
      r.bound ≡ (t.receiver w).bound → length r.got + marks r.mark ≤ length (t.receiver w).got + marks (t.receiver w).mark + 3 →
      buffers net g (put t.receiver w r) + inputs net g t.sender (put t.receiver w r) + 1 ≤ buffers net g t.receiver + inputs net g t.sender t.receiver
  got_lighter t w r k rest real front left promised bound few =
      let r0 = t.receiver w in
      let b = buffer_changed net g t.receiver w r real in
      let i = input_changed net g t.sender t.receiver w r real in
      let x = went (g w) r0 r k rest front left promised in
      let y = scaled (g w) (length r0.got + marks r0.mark) (length r.got + marks r.mark) 3 (sent_on t.sender r0.bound) few in
      let z : input_weight t.sender (g w) r ≡ g w * (length r.got + marks r.mark - sent_on t.sender r0.bound) + unbound r0.bound =
      ap (λ o. g w * (length r.got + marks r.mark - sent_on t.sender o) + unbound o) bound in
      omega arith

  closes_lighter : (t : Tokens) (n i w : ℕ) (m : Mark) (rest : List Token) (u : Tokens) → w < net.ways → (t.receiver w).mark ≡ None → (t.receiver w).buffer ≡ EndMark m ∷ rest →
      Closes net t n w (with_header net n i (t.receiver w)) m rest u → heavy u + 1 ≤ heavy t
  closes_lighter t n i w m rest u real none front (keeps group after) =
      let r0 = t.receiver w in
      let r : Receiver = record r0 { buffer = rest; got = with_header net n i r0; mark = Some m } in
      let l = headed_length net n i r0 in
      let k = got_lighter t w r (EndMark m) rest real front refl refl refl (omega arith) in
      subst (λ z. heavy z + 1 ≤ heavy t) (sym after) (omega arith)
  closes_lighter t n i w m rest u real none front (loses alone after) =
      let r0 = t.receiver w in
      let r : Receiver = record r0 { buffer = rest; got = [] } in
      let k = got_lighter t w r (EndMark m) rest real front refl refl refl (omega arith) in
      subst (λ z. heavy z + 1 ≤ heavy t) (sym after) (omega arith)

  passes_lighter : (t : Tokens) (w : ℕ) (u : Tokens) → w < net.ways → IsInOrder net u.nodes.chans → Passes net t w u → heavy u + 1 ≤ heavy t
  passes_lighter t w u real order (node_byte n i b rest far front after) =
      let r0 = t.receiver w in
      let r : Receiver = record r0 { buffer = rest; got = r0.got ++ b ∷ [] } in
      let l = length-append r0.got (b ∷ []) in
      let k = got_lighter t w r (Byte b) rest real front refl refl refl (omega arith) in
      subst (λ z. heavy z + 1 ≤ heavy t) (sym after) (omega arith)
  passes_lighter t w u real order (node_mark n i m rest v far front reach after) =
      let r0 = t.receiver w in
      let r : Receiver = record r0 { buffer = rest; got = [] } in
      let k = got_lighter t w r (EndMark m) rest real front refl refl refl (omega arith) in
      let same : u.nodes ≡ v = ap (λ (z : Tokens). z.nodes) after in
      let s = reaching_spares net most acc has g packet room t.nodes v t.sender n (record { body = r0.got; mark = m }) reach (subst (λ (z : State). IsInOrder net z.chans) same order) in
      subst (λ z. heavy z + 1 ≤ heavy t) (sym after) (omega arith)
  passes_lighter t w u real order (switch_byte n i b rest far none front after) =
      let r0 = t.receiver w in
      let r : Receiver = record r0 { buffer = rest; got = with_header net n i r0 ++ b ∷ [] } in
      let h = headed_length net n i r0 in
      let l = length-append (with_header net n i r0) (b ∷ []) in
      let k = got_lighter t w r (Byte b) rest real front refl refl refl (omega arith) in
      subst (λ z. heavy z + 1 ≤ heavy t) (sym after) (omega arith)
  passes_lighter t w u real order (switch_mark n i m rest far none front closes) = closes_lighter t n i w m rest u real none front closes

  puts_lighter : (t : Tokens) (w : ℕ) (u : Tokens) → w < net.ways → Standing net back waiting most t → Puts net waiting t w u → heavy u + 1 ≤ heavy t
  puts_lighter t w u real h (node_byte n i p rest b more near front is after) =
      let a : Sender = record { sent = (t.sender w).sent ++ b ∷ []; credit = (t.sender w).credit - 1 } in
      let l = length-append (t.sender w).sent (b ∷ []) in
      let q = byte_queues net g t.nodes.ways t.sender w n i p rest b more a real near front is refl in
      let x = wire_longer net g t.wire w (Byte b) real in
      let j = more_inputs net g t.sender t.receiver w a (omega arith) in
      subst (λ z. heavy z + 1 ≤ heavy t) (sym after) (omega arith)
  puts_lighter t w u real h (node_mark n i p rest near front is after) =
      let a : Sender = record { sent = []; credit = (t.sender w).credit - 1 } in
      let q = mark_queues net g t.nodes.ways t.sender w n i p rest a real near front is refl in
      let x = wire_longer net g t.wire w (EndMark p.mark) real in
      let none : (v : ℕ) → v < net.ways → (t.receiver v).bound ≡ Some w → ⊥ =
      λ v there b. (let k = h.bindings.group v w b in let l = k.group.leaves in let e : AtNode n i ≡ AtSwitch k.switch l.link = sym near ∙ l.near in cc) in
      let j = free_inputs net g t.sender t.receiver w a none in
      subst (λ z. heavy z + 1 ≤ heavy t) (sym after) (omega arith)
  puts_lighter t w u real h (switch_byte n v d b more to is after) =
      let a : Sender = record { sent = (t.sender w).sent ++ b ∷ []; credit = (t.sender w).credit - 1 } in
      let l = length-append (t.sender w).sent (b ∷ []) in
      let leaves = to.leaves.leaves in
      let q = same_queues net g t.nodes.ways t.sender w n leaves.link a leaves.near in
      let x = wire_longer net g t.wire w (Byte b) real in
      let short = leaves_length net n (t.receiver v).got w d to.leaves in
      let size = ap length is ∙ length-append (t.sender w).sent (b ∷ more) in
      let j = byte_inputs net g t.sender t.receiver w v a to.real to.bound l (omega arith) in
      let f = falls v w real (rising net back waiting most t v w n to.link d h to.real to.far to.leaves) in
      subst (λ z. heavy z + 1 ≤ heavy t) (sym after) (omega arith)
  puts_lighter t w u real h (switch_mark n v d m to mark is after) =
      let r0 = t.receiver v in
      let r : Receiver = record r0 { got = []; mark = None; bound = None } in
      let a : Sender = record { sent = []; credit = (t.sender w).credit - 1 } in
      let leaves = to.leaves.leaves in
      let q = same_queues net g t.nodes.ways t.sender w n leaves.link a leaves.near in
      let x = wire_longer net g t.wire w (EndMark m) real in
      let short = leaves_length net n r0.got w d to.leaves in
      let size : length d ≡ length (t.sender w).sent = ap length is in
      let b = buffer_changed net g t.receiver v r to.real in
      let i = input_changed net g t.sender t.receiver v r to.real in
      let before : input_weight t.sender (g v) r0 ≡ g v * (length r0.got + 1 - length (t.sender w).sent) + 0 =
      ap (λ o. input_weight t.sender (g v) (record r0 { bound = o })) to.bound
      ∙ ap (λ o. g v * (length r0.got + marks o - length (t.sender w).sent) + 0) mark in
      let some = mul-le-mul_left (g v) (let k : 1 ≤ length r0.got + 1 - length (t.sender w).sent = omega arith in k) in
      let none : (y : ℕ) → y < net.ways → (put t.receiver v r y).bound ≡ Some w → ⊥ =
      λ y there e. elim (cases_eq y v) [
        | inl same ↦ (let k : None ≡ Some w = ap (λ (z : Receiver). z.bound) (sym (put-same t.receiver v r)) ∙ ap (λ z. (put t.receiver v r z).bound) (sym same) ∙ e in cc)
        | inr ne ↦ ne (h.bindings.one y v w there to.real (ap (λ (z : Receiver). z.bound) (sym (put-other t.receiver v r y ne)) ∙ e) to.bound)
      ] in
      let j = free_inputs net g t.sender (put t.receiver v r) w a none in
      let f = falls v w real (rising net back waiting most t v w n to.link d h to.real to.far to.leaves) in
      subst (λ z. heavy z + 1 ≤ heavy t) (sym after) (omega arith)

  lighter : (t u : Tokens) (e : TokenEvent) → Standing net back waiting most t → Standing net back waiting most u → MovesTokens e → TokenStep net back waiting t e u → heavy u + 1 ≤ heavy t
  lighter t u (Proc e) a b moves h = absurd moves
  lighter t u (Take w word) a b moves h = subst (λ z. heavy z + 1 ≤ heavy t) (sym h.after) (arrive_lighter t w word h.token h.rest h.real h.front)
  lighter t u (Pass w) a b moves h =
      passes_lighter t w u h.0 (let k = in_order net b.state b.inv b.pieces in subst (IsInOrder net) b.view.chans k) h.1
  lighter t u (Put w) a b moves h = puts_lighter t w u h.0 a h.2
  lighter t u (PutFct w) a b moves h = grants_lighter t w u h
  lighter t u (Route w out) a b moves h = binds_lighter t w out u h

-- The runs

one_more : (net : Net) (back : ℕ → ℕ) (waiting : Waiting) (es : List TokenEvent) (t u v : Tokens) (e : TokenEvent) → TokenRun net back waiting t es u → TokenStep net back waiting u e v →
    TokenRun net back waiting t (es ++ e ∷ []) v
one_more net back waiting [] t u v e run step = (v, subst (λ k. TokenStep net back waiting k e v) run step, refl)
one_more net back waiting (x ∷ es) t u v e run step = (run.0, run.1, one_more net back waiting es run.0 u v e run.2 step)

-- g of a way: three times as much and five more for each rank that it is below the greatest
scale : ℕ → ℕ
scale zero = 1
scale (suc n) = 3 * scale n + 5

scale_grows : (n m : ℕ) → n ≤ m → scale n ≤ scale m
unfolding scale
scale_grows zero zero h = omega arith
scale_grows zero (suc m) h = let a = scale_grows zero m (omega arith) in omega arith
scale_grows (suc n) zero h = absurd (omega arith)
scale_grows (suc n) (suc m) h = let a = scale_grows n m (omega arith) in omega arith

next_scale : (n m : ℕ) → n < m → 3 * scale n + 5 ≤ scale m
unfolding scale
next_scale n zero h = absurd (omega arith)
next_scale n (suc m) h = let a = scale_grows n m (omega arith) in omega arith

pub runs_end : (net : Net) (back : ℕ → ℕ) (waiting : Waiting) → RunsEnd net back waiting
runs_end net back waiting most acc has ranks wires stay =
    (weight net g packet, λ es later u v run moves more. let k = few es later u v run moves more in omega arith)
  where
    top : ℕ
    top = (bounded ranks.rank net.ways).0

    g : ℕ → ℕ
    g w = scale (top - ranks.rank w)

    packet : ℕ
    packet = (3 * scale top + 4) * (2 * most + 33)

    room : (w : ℕ) → w < net.ways → (3 * g w + 4) * (2 * most + 33) ≤ packet
    room w real = let a = scale_grows (top - ranks.rank w) top (omega arith) in let b = mul-le-mul_left (2 * most + 33) (let k : 3 * g w + 4 ≤ 3 * scale top + 4 = omega arith in k) in omega arith

    falls : (v w : ℕ) → w < net.ways → Depends net v w → 3 * g w + 5 ≤ g v
    falls v w real d =
        let a = ranks.rises v w d in
        let b = (bounded ranks.rank net.ways).1 w real in
        next_scale (top - ranks.rank w) (top - ranks.rank v) (omega arith)

    few : (es later : List TokenEvent) (u v : Tokens) → TokenRun net back waiting no_tokens es u → AllByRecursion MovesTokens later → TokenRun net back waiting u later v →
        length later + weight net g packet v ≤ weight net g packet u
    few es [] u v run moves more = let same = ap (weight net g packet) more in omega arith
    few es (e ∷ later) u v run moves more =
        let next = one_more net back waiting es no_tokens u more.0 e run more.1 in
        let a = lighter net back waiting most acc has stay g packet room falls u more.0 e (stands net back waiting most acc has wires es u run)
        (stands net back waiting most acc has wires (es ++ e ∷ []) more.0 next) moves.0 more.1 in
        let b = few (es ++ e ∷ []) later more.0 v next moves.1 more.2 in
        omega arith
