-- A packet that reaches a node has at most one packet sent, and is spared one in what its channel is still due.
use Rattle.std.proofs.Common.{◌≡◌, ℕ, suc, ◌+◌, ◌*◌, ◌≤◌, ◌<◌, Bool, true, false, List, [], ◌∷◌, ◌++◌, length, refl, sym, ap, subst, ◌∙◌, arith, Some, nat_eq, nat_le, if◌then◌else◌, eq-eqb, le-leb, length-append, mul-le-mul_left}
use Rattle.std.specs.List.{AllByRecursion}
use Rattle.std.proofs.lemmas.Bool.{cond-true}
use Rattle.vc_packets.specs.declared.mark.Mark.{Mark}
use Rattle.vc_packets.specs.declared.mark.Mark.TheVariants.{Eop, Eom}
use Rattle.vc_packets.specs.declared.packet.Packet.{Packet}
use Rattle.vc_packets.specs.declared.kind.Kind.{Kind}
use Rattle.vc_packets.specs.declared.kind.Kind.TheVariants.{Ack, Piece, Malformed}
use Rattle.vc_packets.specs.Headers.{spelled}
use Rattle.vc_packets.specs.Kind.{kind}
use Rattle.vc_packets.specs.Pieces.{joined}
use Rattle.vc_packets.specs.Spellings.{piece_packet, ack_packet}
use Rattle.vc_credit.specs.Ends.{Sender}
use Rattle.vc_machine.specs.Paths.{Carries, Channel, Net, IsAccepted}
use Rattle.vc_machine.specs.Machine.{State, ChanState, store, advance, IsTaken, stores, holds, advances, Reaches, taken, stray}
use Rattle.vc_machine.specs.Laws.{HasHeaders}
use Rattle.vc_machine.proofs.PacketSizes.{spelled_length}
use Rattle.vc_machine.proofs.Labels.{Phase, Calm, Coming, Waiting, Returning, LeftAfter, PhaseFits, Inv}
use Rattle.vc_machine.proofs.Weights.{offered_size, come_size, due, queues, dues, queued_weight, due_less, due_same}
use Rattle.vc_machine.proofs.Basics.{put-same}

joined_length : (xs : List (List ℕ)) (y : List ℕ) → length (joined (xs ++ y ∷ [])) ≡ length (joined xs) + length y
joined_length [] y = omega (arith, length-append y [])
joined_length (x ∷ xs) y = omega (arith, length-append x (joined (xs ++ y ∷ [])), length-append x (joined xs), joined_length xs y)

-- No more has come than was offered

in_part : (x : ChanState) (message rest : List ℕ) → x.stored ++ rest ≡ message → x.offered ≡ x.taken ++ message ∷ [] → come_size x ≤ offered_size x
in_part x message rest whole offered =
    let a : length (joined x.offered) ≡ length (joined x.taken) + length message = ap (λ k. length (joined k)) offered ∙ joined_length x.taken message in
    let b : length x.offered ≡ length x.taken + 1 = ap length offered ∙ length-append x.taken (message ∷ []) in
    let c : length message ≡ length x.stored + length rest = sym (ap length whole) ∙ length-append x.stored rest in
    omega arith

all_come : (x : ChanState) → x.stored ≡ [] → x.taken ≡ x.offered → come_size x ≤ offered_size x
all_come x stored same =
    let a : length x.stored ≡ 0 = ap length stored in
    let b : length (joined x.taken) ≡ length (joined x.offered) = ap (λ k. length (joined k)) same in
    let c : length x.taken ≡ length x.offered = ap length same in
    omega arith

phase_order : (ch : Channel) (f : Phase) (x : ChanState) (n : ℕ) → PhaseFits ch f x n → come_size x ≤ offered_size x
phase_order ch Calm x n h = let k = h.2 in all_come x k.stored k.same
phase_order ch Coming x n h = let k = h.2 in in_part x k.message (joined (k.now ∷ k.later)) k.whole k.offered
phase_order ch Waiting x n h = let k = h.3 in in_part x k.message (joined (k.now ∷ k.later)) k.whole k.offered
phase_order ch Returning x n h = let k = h.2 in left x k.later k.left
  where
    left : (x : ChanState) (later : List (List ℕ)) → LeftAfter x later → come_size x ≤ offered_size x
    left x [] h = all_come x h.0 h.1
    left x (d ∷ later) h = in_part x h.0 (joined (d ∷ later)) h.2 h.3

pub record IsInOrder (net : Net) (chans : ℕ → ChanState) : Type 0 where
  pub come : (c : ℕ) → Carries net c → come_size (chans c) ≤ offered_size (chans c)
  pub small : (c : ℕ) → AllByRecursion (λ (d : List ℕ). length d ≤ 32) (chans c).unacked

pub in_order : (net : Net) (s : State) → Inv net s → ((c : ℕ) → AllByRecursion (λ (d : List ℕ). length d ≤ 32) (s.chans c).unacked) → IsInOrder net s.chans
in_order net s inv small =
    record { come = λ c real. let fits = inv.chans c real in phase_order (net.chan c) (inv.phases c) (s.chans c) _ fits.phase; small = small }

-- What is due falls

some_load : (load : List ℕ) (m : Mark) → kind load m ≡ Piece false → length load ≡ 0 → ⊥
some_load load Eop e none =
    let a = cond-true {A = Kind} (nat_eq (length load) 0) Ack (if nat_eq (length load) 32 then Piece false else Malformed) (eq-eqb (length load) 0 none) in
    let b : Ack ≡ Piece false = sym a ∙ e in
    cc
some_load load Eom e none =
    let a = cond-true {A = Kind} (nat_le (length load) 32) (Piece true) Malformed (le-leb (length load) 32 (omega arith)) in
    let b : Piece true ≡ Piece false = sym a ∙ e in
    cc

stored_due : (x : ChanState) (load : List ℕ) (m : Mark) (last : Bool) → kind load m ≡ Piece last → come_size (store x load last) ≤ offered_size (store x load last) → due (store x load last) + 1 ≤ due x
stored_due x load m true e order =
    let a = joined_length x.taken (x.stored ++ load) in
    let b = length-append x.stored load in
    let c = length-append x.taken ((x.stored ++ load) ∷ []) in
    omega arith
stored_due x load m false e order =
    let a = some_load load m e in
    let b = length-append x.stored load in
    omega arith

module _ (net : Net) (most : ℕ) (acc : IsAccepted net) (has : HasHeaders net most) (g : ℕ → ℕ) (packet : ℕ)
    (room : (w : ℕ) → w < net.ways → (3 * g w + 4) * (2 * most + 33) ≤ packet) where
  -- a packet that is queued weighs no more than this
  light : (w n : ℕ) → w < net.ways → n ≤ 2 * most + 32 → (3 * g w + 4) * suc n ≤ packet
  light w n real few =
      let a = mul-le-mul_left (3 * g w + 4) (let k : suc n ≤ 2 * most + 33 = omega arith in k) in
      let b = room w real in
      omega arith

  advance_spares : (s : State) (a : ℕ → Sender) (c : ℕ) (now : List ℕ) (later : List (List ℕ)) → Carries net c → (s.chans c).unacked ≡ now ∷ later → IsInOrder net (advance net s c later).chans →
      queues net g (advance net s c later).ways a + dues net packet (advance net s c later).chans ≤ queues net g s.ways a + dues net packet s.chans
  advance_spares s a c now [] real front order =
      let x : ChanState = record (s.chans c) { unacked = []; finished = suc (s.chans c).finished } in
      let l : length (s.chans c).unacked ≡ 1 = ap length front in
      let d = due_less net packet s.chans c x real.0 (omega arith) in
      omega arith
  advance_spares s a c now (d ∷ later) real front order =
      let x : ChanState = record (s.chans c) { unacked = d ∷ later } in
      let l : length (s.chans c).unacked ≡ suc (suc (length later)) = ap length front in
      let e = due_less net packet s.chans c x real.0 (omega arith) in
      let small : AllByRecursion (λ (y : List ℕ). length y ≤ 32) (d ∷ later) = subst (λ (y : ChanState). AllByRecursion (λ (z : List ℕ). length z ≤ 32) y.unacked) (put-same s.chans c x) (order.small c) in
      let short = small.0 in
      let w = (net.chan c).from.way in
      let there = (acc.ways c real).0 in
      let headers = (has.routes c real).0 in
      let p = piece_packet (net.chan c).from.route (d ∷ later) in
      let size : length p.body ≡ 2 * length (net.chan c).from.route + length d = length-append (spelled (net.chan c).from.route) d ∙ ap (λ k. k + length d) (spelled_length (net.chan c).from.route) in
      let q = queued_weight net g s.ways a w p there in
      let k = light w (length p.body) there (omega arith) in
      omega arith

  taken_spares : (s v : State) (a : ℕ → Sender) (n : ℕ) (p : Packet) → IsTaken net s n p v → IsInOrder net v.chans →
      queues net g v.ways a + dues net packet v.chans ≤ queues net g s.ways a + dues net packet s.chans
  taken_spares s v a n p (stores c load last piece wants after) order =
      let x = store (s.chans c) load last in
      let real = piece.real in
      let come : come_size x ≤ offered_size x = subst (λ (y : ChanState). come_size y ≤ offered_size y) (ap (λ (y : State). y.chans c) after ∙ put-same s.chans c x) (order.come c real) in
      let e = due_less net packet s.chans c x real.0 (stored_due (s.chans c) load p.mark last piece.kind come) in
      let w = (net.chan c).to.way in
      let there = (acc.ways c real).1 in
      let headers = (has.routes c real).1 in
      let size = spelled_length (net.chan c).to.route in
      let q = queued_weight net g s.ways a w (ack_packet (net.chan c).to.route) there in
      let k = light w (length (spelled (net.chan c).to.route)) there (omega arith) in
      subst (λ (y : State). queues net g y.ways a + dues net packet y.chans ≤ queues net g s.ways a + dues net packet s.chans) (sym after) (omega arith)
  taken_spares s v a n p (holds c load last piece wants held after) order =
      let x : ChanState = record (s.chans c) { held = Some p } in
      let e = due_same net packet s.chans c x refl in
      subst (λ (y : State). queues net g y.ways a + dues net packet y.chans ≤ queues net g s.ways a + dues net packet s.chans) (sym after) (omega arith)
  taken_spares s v a n p (advances c now later ack front after) order =
      subst (λ (y : State). queues net g y.ways a + dues net packet y.chans ≤ queues net g s.ways a + dues net packet s.chans) (sym after)
      (advance_spares s a c now later ack.real front (subst (λ (y : State). IsInOrder net y.chans) after order))

  pub reaching_spares : (s v : State) (a : ℕ → Sender) (n : ℕ) (p : Packet) → Reaches net s n p v → IsInOrder net v.chans →
      queues net g v.ways a + dues net packet v.chans ≤ queues net g s.ways a + dues net packet s.chans
  reaching_spares s v a n p (taken h) order = taken_spares s v a n p h order
  reaching_spares s v a n p (stray alone after) order =
      subst (λ (y : State). queues net g y.ways a + dues net packet y.chans ≤ queues net g s.ways a + dues net packet s.chans) (sym after) (omega arith)
