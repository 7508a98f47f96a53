-- On an accepted network an event leads from a state to one state only.
use Rattle.std.proofs.Common.{◌≡◌, ℕ, List, [], ◌∷◌, ◌++◌, sym, ap, subst, ◌∙◌, Option, Some, None, true, false}
use Rattle.std.proofs.lemmas.Option.{same_Some}
use Rattle.vc_packets.specs.declared.packet.Packet.{Packet}
use Rattle.vc_packets.specs.Headers.{spelled}
use Rattle.vc_packets.specs.Spellings.{piece_packet}
use Rattle.vc_machine.specs.Paths.{Port, AtNode, AtSwitch, Net, IsAccepted}
use Rattle.vc_switch.specs.Forward.{behind}
use Rattle.vc_machine.specs.Machine.{State, Input, Full, set_way, set_chan, enqueue, accept, advance, emptied, carry, BodyLeaves, Event, Offer, Want, Choose, Stop, Send, Receive, Enter, Route, Leave, IsPieceFor, IsTaken, stores, holds, advances, Reaches, taken, stray, Settles, fills, lost, Fetches, Wants, fetches, waits, Step}
use Rattle.vc_machine.proofs.NodeSteps.{same_piece, same_ack, not_both}
use Rattle.vc_machine.proofs.Cover.{body_same}
use Rattle.vc_packets.proofs.PieceLists.{pieces_same}

-- what is taken
taken_same : (net : Net) (s : State) (n : ℕ) (p : Packet) (t u : State) → IsAccepted net → IsTaken net s n p t → IsTaken net s n p u → t ≡ u
taken_same net s n p t u acc (stores c k a f w e) (stores d l b g v h) =
    let same = same_piece net n p c d k l a b acc f g in
    e ∙ (λ i. accept net s (same.0 i) (same.1 i) (same.2 i)) ∙ sym h
taken_same net s n p t u acc (stores c k a f w e) (holds d l b g v z h) =
    let same = same_piece net n p c d k l a b acc f g in
    let x : (s.chans c).wants ≡ false = subst (λ j. (s.chans j).wants ≡ false) (sym same.0) v in
    absurd (cc)
taken_same net s n p t u acc (stores c k a f w e) (advances d now later g v h) = absurd (not_both net n p c d k a f g)
taken_same net s n p t u acc (holds c k a f w z e) (stores d l b g v h) =
    let same = same_piece net n p c d k l a b acc f g in
    let x : (s.chans c).wants ≡ true = subst (λ j. (s.chans j).wants ≡ true) (sym same.0) v in
    absurd (cc)
taken_same net s n p t u acc (holds c k a f w z e) (holds d l b g v y h) =
    let same = same_piece net n p c d k l a b acc f g in
    e ∙ ap (λ j. set_chan s j (record (s.chans j) { held = Some p })) same.0 ∙ sym h
taken_same net s n p t u acc (holds c k a f w z e) (advances d now later g v h) = absurd (not_both net n p c d k a f g)
taken_same net s n p t u acc (advances c now later f w e) (stores d l b g v h) = absurd (not_both net n p d c l b g f)
taken_same net s n p t u acc (advances c now later f w e) (holds d l b g v y h) = absurd (not_both net n p d c l b g f)
taken_same net s n p t u acc (advances c now later f w e) (advances d now2 later2 g v h) =
    let same = same_ack net n p c d acc f g in
    let x : (s.chans c).unacked ≡ now2 ∷ later2 = subst (λ j. (s.chans j).unacked ≡ now2 ∷ later2) (sym same) v in
    let y : later ≡ later2 = cc in
    e ∙ (λ i. advance net s (same i) (y i)) ∙ sym h

pub reaches_same : (net : Net) (s : State) (n : ℕ) (p : Packet) (t u : State) → IsAccepted net → Reaches net s n p t → Reaches net s n p u → t ≡ u
reaches_same net s n p t u acc (taken a) (taken b) = taken_same net s n p t u acc a b
reaches_same net s n p t u acc (taken a) (stray none e) = absurd (none t a)
reaches_same net s n p t u acc (stray none e) (taken b) = absurd (none u b)
reaches_same net s n p t u acc (stray none e) (stray other h) = e ∙ sym h

fetches_same : (net : Net) (s : State) (c : ℕ) (t u : State) → IsAccepted net → Fetches net s c t → Fetches net s c u → t ≡ u
fetches_same net s c t u acc a b =
    let p : a.packet ≡ b.packet = (let x = a.held in let y = b.held in cc) in
    let same = same_piece net (net.chan c).to.node b.packet c c a.load b.load a.last b.last acc
    (subst (λ q. IsPieceFor net (net.chan c).to.node q c a.load a.last) p a.piece) b.piece in
    a.after ∙ (λ i. accept net s c (same.1 i) (same.2 i)) ∙ sym b.after

wants_same : (net : Net) (s : State) (c : ℕ) (t u : State) → IsAccepted net → Wants net s c t → Wants net s c u → t ≡ u
wants_same net s c t u acc (fetches a) (fetches b) = fetches_same net s c t u acc a b
wants_same net s c t u acc (fetches a) (waits e h) = let x = a.held in absurd (cc)
wants_same net s c t u acc (waits e h) (fetches b) = let x = b.held in absurd (cc)
wants_same net s c t u acc (waits e h) (waits f g) = h ∙ sym g

settles_same : (net : Net) (s : State) (n w : ℕ) (rest : List Packet) (p : Packet) (t u : State) → Settles net s n w rest p t → Settles net s n w rest p u → t ≡ u
settles_same net s n w rest p t u (fills g e) (fills g2 h) = e ∙ sym h
settles_same net s n w rest p t u (fills g e) (lost none h) = absurd (none g)
settles_same net s n w rest p t u (lost none e) (fills g h) = absurd (none g)
settles_same net s n w rest p t u (lost none e) (lost none2 h) = e ∙ sym h

cons_same : (p q : Packet) (ps qs xs : List Packet) → xs ≡ p ∷ ps → xs ≡ q ∷ qs → (p ≡ q) × (ps ≡ qs)
cons_same p q ps qs xs a b = (cc, cc)

full_same : (i : Input) (p q : Packet) (a b : Option ℕ) → i ≡ Full p a → i ≡ Full q b → (p ≡ q) × (a ≡ b)
full_same i p q a b e h = (cc, cc)

node_same : (o : Port) (n i m j : ℕ) → o ≡ AtNode n i → o ≡ AtNode m j → n ≡ m
node_same o n i m j e h = cc

switch_same : (o : Port) (n i m j : ℕ) → o ≡ AtSwitch n i → o ≡ AtSwitch m j → n ≡ m
switch_same o n i m j e h = cc

pub step_same : (net : Net) (s : State) (e : Event) (t u : State) → IsAccepted net → Step net s e t → Step net s e u → t ≡ u
step_same net s (Offer c m) t u acc a b =
    let same = pieces_same m (a.now ∷ a.later) (b.now ∷ b.later) a.pieces b.pieces in
    let f : List (List ℕ) → State = λ cs. enqueue (set_chan s c (record (s.chans c) { unacked = cs; offered = (s.chans c).offered ++ m ∷ [] })) (net.chan c).from.way (piece_packet (net.chan c).from.route cs) in
    a.after ∙ ap f same ∙ sym b.after
step_same net s (Want c) t u acc a b = wants_same net s c t u acc a.1 b.1
step_same net s (Choose c) t u acc a b = fetches_same net s c t u acc a.1 b.1
step_same net s (Stop c) t u acc a b = a.after ∙ sym b.after
step_same net s (Send w) t u acc a b =
    let same = cons_same a.packet b.packet a.rest b.rest (s.ways w).queue a.front b.front in
    a.after ∙ (λ i. set_way s w (record (s.ways w) { queue = same.1 i; line = (s.ways w).line ++ same.0 i ∷ [] })) ∙ sym b.after
step_same net s (Receive w) t u acc a b =
    let same = cons_same a.packet b.packet a.rest b.rest (s.ways w).line a.front b.front in
    let nodes = node_same (net.far w) a.node a.link b.node b.link a.far b.far in
    reaches_same net (set_way s w (record (s.ways w) { line = b.rest })) b.node b.packet t u acc
    (subst (λ k. Reaches net (set_way s w (record (s.ways w) { line = k })) b.node b.packet t) same.1
    (subst (λ k. Reaches net (set_way s w (record (s.ways w) { line = a.rest })) b.node k t) same.0
    (subst (λ k. Reaches net (set_way s w (record (s.ways w) { line = a.rest })) k a.packet t) nodes a.after)))
    b.after
step_same net s (Enter w v) t u acc a b =
    let same = cons_same a.packet b.packet a.rest b.rest (s.ways w).line a.front b.front in
    let switches = switch_same (net.far w) a.switch a.link b.switch b.link a.far b.far in
    let f : Packet → Packet = λ k. record k { body = spelled (behind v []) ++ k.body } in
    settles_same net s b.switch w b.rest (f b.packet) t u
    (subst (λ k. Settles net s b.switch w b.rest (f k) t) same.0
    (subst (λ k. Settles net s b.switch w k (f a.packet) t) same.1
    (subst (λ k. Settles net s k w a.rest (f a.packet) t) switches a.after)))
    b.after
step_same net s (Route w out) t u acc a b =
    let same = full_same (s.ways w).input a.packet b.packet None None a.full b.full in
    a.after ∙ ap (λ k. set_way s w (record (s.ways w) { input = Full k (Some out) })) same.0 ∙ sym b.after
step_same net s (Leave w) t u acc a b =
    let same = full_same (s.ways w).input a.packet b.packet (Some a.out) (Some b.out) a.full b.full in
    let outs = same_Some a.out b.out same.1 in
    let switches = switch_same (net.far w) a.switch a.link b.switch b.link a.far b.far in
    let l = subst (λ k. BodyLeaves net b.switch k.body b.out a.body) same.0 (subst (λ k. BodyLeaves net b.switch a.packet.body k a.body) outs (subst (λ k. BodyLeaves net k a.packet.body a.out a.body) switches a.leaves)) in
    let bodies = body_same net b.switch b.packet.body b.out a.body b.body l b.leaves in
    a.after ∙ (λ i. carry (emptied s w) (outs i) (record (same.0 i) { body = bodies i })) ∙ sym b.after
