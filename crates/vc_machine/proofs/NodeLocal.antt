-- What a node does looks at its own queues and halves only.
use Rattle.std.proofs.Common.{◌≡◌, ℕ, suc, Bool, true, false, List, [], ◌∷◌, ◌++◌, refl, sym, ap, subst, ◌∙◌, Option}
use Rattle.vc_packets.specs.declared.packet.Packet.{Packet}
use Rattle.vc_packets.specs.Spellings.{ack_packet, piece_packet}
use Rattle.vc_machine.specs.Paths.{Carries, AtNode, Net}
use Rattle.vc_machine.specs.Machine.{State, WayState, ChanState, set_way, enqueue, set_chan, store, accept, advance, Event, Offer, Want, Choose, Stop, IsTaken, stores, holds, advances, Reaches, taken, stray, Offers, Fetches, Wants, fetches, waits, IsOpen, Stops, Step}
use Rattle.vc_machine.specs.Atomic.{SameOut, SameIn, SameNode, IsProcAt, Homes}
use Rattle.vc_machine.proofs.Update.{every_put, every_put₂}

pub out_turned : (x y : ChanState) → SameOut x y → SameOut y x
out_turned x y h = record { unacked = sym h.unacked; offered = sym h.offered; finished = sym h.finished }

pub in_turned : (x y : ChanState) → SameIn x y → SameIn y x
in_turned x y h = record { wants = sym h.wants; stopped = sym h.stopped; held = sym h.held; stored = sym h.stored; taken = sym h.taken }

pub node_turned : (net : Net) (n : ℕ) (s v : State) → SameNode net n s v → SameNode net n v s
node_turned net n s v h =
    record {
      queues = λ w i e. sym (h.queues w i e);
      outs = λ c e. out_turned (s.chans c) (v.chans c) (h.outs c e);
      ins = λ c e. in_turned (s.chans c) (v.chans c) (h.ins c e);
    }

-- a packet more in a queue
enqueued : (net : Net) (n : ℕ) (s v : State) (w : ℕ) (p : Packet) → SameNode net n s v → SameNode net n (enqueue s w p) (enqueue v w p)
enqueued net n s v w p h =
    record {
      queues = every_put₂ (λ j x y. (i : ℕ) → net.near j ≡ AtNode n i → y.queue ≡ x.queue) s.ways v.ways w _ _ (λ i e. ap (λ q. q ++ p ∷ []) (h.queues w i e)) h.queues;
      outs = h.outs;
      ins = h.ins;
    }

-- a channel's halves, where those at the node are changed alike
changed_here : (net : Net) (n : ℕ) (s v : State) (c : ℕ) (x y : ChanState) → SameNode net n s v → ((net.chan c).from.node ≡ n → SameOut x y) → ((net.chan c).to.node ≡ n → SameIn x y) →
    SameNode net n (set_chan s c x) (set_chan v c y)
changed_here net n s v c x y h o i =
    record {
      queues = h.queues;
      outs = every_put₂ (λ j a b. (net.chan j).from.node ≡ n → SameOut a b) s.chans v.chans c x y o h.outs;
      ins = every_put₂ (λ j a b. (net.chan j).to.node ≡ n → SameIn a b) s.chans v.chans c x y i h.ins;
    }

store_in : (x y : ChanState) (load : List ℕ) (last : Bool) → SameIn x y → SameIn (store x load last) (store y load last)
store_in x y load true h =
    record { wants = refl; stopped = h.stopped; held = refl; stored = refl; taken = λ i. h.taken i ++ (h.stored i ++ load) ∷ [] }
store_in x y load false h = record { wants = refl; stopped = h.stopped; held = refl; stored = ap (λ k. k ++ load) h.stored; taken = h.taken }

store_out : (x y : ChanState) (load : List ℕ) (last : Bool) → SameOut x y → SameOut (store x load last) (store y load last)
store_out x y load true h = record { unacked = h.unacked; offered = h.offered; finished = h.finished }
store_out x y load false h = record { unacked = h.unacked; offered = h.offered; finished = h.finished }

accepted : (net : Net) (n : ℕ) (s v : State) (c : ℕ) (load : List ℕ) (last : Bool) → SameNode net n s v → SameNode net n (accept net s c load last) (accept net v c load last)
accepted net n s v c load last h =
    enqueued net n (set_chan s c (store (s.chans c) load last)) (set_chan v c (store (v.chans c) load last)) (net.chan c).to.way (ack_packet (net.chan c).to.route)
    (changed_here net n s v c (store (s.chans c) load last) (store (v.chans c) load last) h
    (λ e. store_out (s.chans c) (v.chans c) load last (h.outs c e)) (λ e. store_in (s.chans c) (v.chans c) load last (h.ins c e)))

advanced : (net : Net) (n : ℕ) (s v : State) (c : ℕ) (later : List (List ℕ)) → SameNode net n s v → SameNode net n (advance net s c later) (advance net v c later)
advanced net n s v c [] h =
    changed_here net n s v c _ _ h
    (λ e. let o = h.outs c e in record { unacked = refl; offered = o.offered; finished = ap suc o.finished })
    (λ e. let i = h.ins c e in record { wants = i.wants; stopped = i.stopped; held = i.held; stored = i.stored; taken = i.taken })
advanced net n s v c (d ∷ later) h =
    enqueued net n (set_chan s c (record (s.chans c) { unacked = d ∷ later })) (set_chan v c (record (v.chans c) { unacked = d ∷ later })) (net.chan c).from.way (piece_packet (net.chan c).from.route (d ∷ later))
    (changed_here net n s v c _ _ h
    (λ e. let o = h.outs c e in record { unacked = refl; offered = o.offered; finished = o.finished })
    (λ e. let i = h.ins c e in record { wants = i.wants; stopped = i.stopped; held = i.held; stored = i.stored; taken = i.taken }))

-- from v, too, there is such a step, to the same parts
pub record Locally (net : Net) (n : ℕ) (u : State) (R : State → Type 0) : Type 0 where
  pub after : State
  pub step : R after
  pub same : SameNode net n u after

locally : (net : Net) (n : ℕ) (u k x : State) (R : State → Type 0) → u ≡ k → R x → SameNode net n k x → Locally net n u R
locally net n u k x R e step same = record { after = x; step = step; same = subst (λ j. SameNode net n j x) (sym e) same }

taken_local : (net : Net) (n : ℕ) (s v u : State) (p : Packet) → SameNode net n s v → IsTaken net s n p u → Locally net n u (IsTaken net v n p)
taken_local net n s v u p h (stores c load last piece wants after) =
    locally net n u _ (accept net v c load last) (IsTaken net v n p) after
    (let i = h.ins c piece.node in stores c load last piece (i.wants ∙ wants) refl) (accepted net n s v c load last h)
taken_local net n s v u p h (holds c load last piece wants held after) =
    locally net n u _ (set_chan v c (record (v.chans c) { held = Option.Some p })) (IsTaken net v n p) after
    (let i = h.ins c piece.node in holds c load last piece (i.wants ∙ wants) (i.held ∙ held) refl)
    (changed_here net n s v c _ _ h
    (λ e. let o = h.outs c e in record { unacked = o.unacked; offered = o.offered; finished = o.finished })
    (λ e. let i = h.ins c e in record { wants = i.wants; stopped = i.stopped; held = refl; stored = i.stored; taken = i.taken }))
taken_local net n s v u p h (advances c now later ack unacked after) =
    locally net n u _ (advance net v c later) (IsTaken net v n p) after
    (let o = h.outs c ack.node in advances c now later ack (o.unacked ∙ unacked) refl) (advanced net n s v c later h)

pub reaches_local : (net : Net) (n : ℕ) (s v u : State) (p : Packet) → SameNode net n s v → Reaches net s n p u → Locally net n u (Reaches net v n p)
reaches_local net n s v u p h (taken k) = (let f = taken_local net n s v u p h k in record { after = f.after; step = taken f.step; same = f.same })
reaches_local net n s v u p h (stray alone after) =
    locally net n u (record s { strays = suc s.strays }) (record v { strays = suc v.strays }) (Reaches net v n p) after
    (stray (λ x k. alone _ (taken_local net n v s x p (node_turned net n s v h) k).step) refl)
    (record { queues = h.queues; outs = h.outs; ins = h.ins })

fetches_local : (net : Net) (n : ℕ) (s v u : State) (c : ℕ) → (net.chan c).to.node ≡ n → SameNode net n s v → Fetches net s c u → Locally net n u (Fetches net v c)
fetches_local net n s v u c at h k =
    locally net n u _ (accept net v c k.load k.last) (Fetches net v c) k.after
    (let i = h.ins c at in record { packet = k.packet; load = k.load; last = k.last; held = i.held ∙ k.held; piece = k.piece; after = refl })
    (accepted net n s v c k.load k.last h)

open_local : (net : Net) (n : ℕ) (s v : State) (c : ℕ) → (net.chan c).to.node ≡ n → SameNode net n s v → IsOpen net s c → IsOpen net v c
open_local net n s v c at h k = (let i = h.ins c at in record { real = k.real; idle = i.wants ∙ k.idle; not_stopped = i.stopped ∙ k.not_stopped })

wants_local : (net : Net) (n : ℕ) (s v u : State) (c : ℕ) → (net.chan c).to.node ≡ n → SameNode net n s v → Wants net s c u → Locally net n u (Wants net v c)
wants_local net n s v u c at h (fetches k) = (let f = fetches_local net n s v u c at h k in record { after = f.after; step = fetches f.step; same = f.same })
wants_local net n s v u c at h (waits held after) =
    locally net n u _ (set_chan v c (record (v.chans c) { wants = true })) (Wants net v c) after
    (let i = h.ins c at in waits (i.held ∙ held) refl)
    (changed_here net n s v c _ _ h
    (λ e. let o = h.outs c e in record { unacked = o.unacked; offered = o.offered; finished = o.finished })
    (λ e. let i = h.ins c e in record { wants = refl; stopped = i.stopped; held = i.held; stored = i.stored; taken = i.taken }))

pub proc_local : (net : Net) (n : ℕ) (s v u : State) (e : Event) → IsProcAt net e n → SameNode net n s v → Step net s e u → Locally net n u (Step net v e)
proc_local net n s v u (Offer c m) at h k =
    locally net n u _ _ (Offers net v c m) k.after
    (let o = h.outs c at in record { now = k.now; later = k.later; real = k.real; idle = o.unacked ∙ k.idle; pieces = k.pieces; after = refl })
    (enqueued net n _ _ (net.chan c).from.way (piece_packet (net.chan c).from.route (k.now ∷ k.later))
    (changed_here net n s v c (record (s.chans c) { unacked = k.now ∷ k.later; offered = (s.chans c).offered ++ m ∷ [] }) (record (v.chans c) { unacked = k.now ∷ k.later; offered = (v.chans c).offered ++ m ∷ [] }) h
    (λ e. let o = h.outs c e in record { unacked = refl; offered = ap (λ k. k ++ m ∷ []) o.offered; finished = o.finished })
    (λ e. let i = h.ins c e in record { wants = i.wants; stopped = i.stopped; held = i.held; stored = i.stored; taken = i.taken })))
proc_local net n s v u (Want c) at h k =
    let f = wants_local net n s v u c at h k.1 in record { after = f.after; step = (open_local net n s v c at h k.0, f.step); same = f.same }
proc_local net n s v u (Choose c) at h k =
    let f = fetches_local net n s v u c at h k.1 in record { after = f.after; step = (open_local net n s v c at h k.0, f.step); same = f.same }
proc_local net n s v u (Stop c) at h k =
    locally net n u _ (set_chan v c (record (v.chans c) { stopped = true })) (Stops net v c) k.after
    (let i = h.ins c at in record { real = k.real; idle = i.wants ∙ k.idle; after = refl })
    (changed_here net n s v c _ _ h
    (λ e. let o = h.outs c e in record { unacked = o.unacked; offered = o.offered; finished = o.finished })
    (λ e. let i = h.ins c e in record { wants = i.wants; stopped = refl; held = i.held; stored = i.stored; taken = i.taken }))
proc_local net n s v u d at h k = absurd at

-- the other nodes

pub out_self : (x : ChanState) → SameOut x x
out_self x = record { unacked = refl; offered = refl; finished = refl }

pub in_self : (x : ChanState) → SameIn x x
in_self x = record { wants = refl; stopped = refl; held = refl; stored = refl; taken = refl }

pub node_self : (net : Net) (m : ℕ) (s : State) → SameNode net m s s
node_self net m s = record { queues = λ w i e. refl; outs = λ c e. out_self (s.chans c); ins = λ c e. in_self (s.chans c) }

pub queue_elsewhere : (net : Net) (m : ℕ) (s v : State) (w : ℕ) (x : WayState) → SameNode net m s v → ((i : ℕ) → net.near w ≡ AtNode m i → ⊥) → SameNode net m s (set_way v w x)
queue_elsewhere net m s v w x h no_way =
    record {
      queues = every_put (λ j (y : WayState). (i : ℕ) → net.near j ≡ AtNode m i → y.queue ≡ (s.ways j).queue) v.ways w x (λ i e. absurd (no_way i e)) h.queues;
      outs = h.outs;
      ins = h.ins;
    }

half_elsewhere : (net : Net) (m : ℕ) (s v : State) (c : ℕ) (x : ChanState) → SameNode net m s v → ((net.chan c).from.node ≡ m → SameOut (s.chans c) x) → ((net.chan c).to.node ≡ m → SameIn (s.chans c) x) →
    SameNode net m s (set_chan v c x)
half_elsewhere net m s v c x h o i =
    record {
      queues = h.queues;
      outs = every_put (λ j (y : ChanState). (net.chan j).from.node ≡ m → SameOut (s.chans j) y) v.chans c x o h.outs;
      ins = every_put (λ j (y : ChanState). (net.chan j).to.node ≡ m → SameIn (s.chans j) y) v.chans c x i h.ins;
    }

not_near : (net : Net) (m n w i : ℕ) → (m ≡ n → ⊥) → net.near w ≡ AtNode n i → (j : ℕ) → net.near w ≡ AtNode m j → ⊥
not_near net m n w i other near j e = other (let f : AtNode m j ≡ AtNode n i = sym e ∙ near in let g : m ≡ n = cc in g)

store_elsewhere : (x : ChanState) (load : List ℕ) (last : Bool) → SameOut x (store x load last)
store_elsewhere x load true = record { unacked = refl; offered = refl; finished = refl }
store_elsewhere x load false = record { unacked = refl; offered = refl; finished = refl }

accept_elsewhere : (net : Net) → Homes net → (m n : ℕ) (s : State) (c : ℕ) (load : List ℕ) (last : Bool) → (m ≡ n → ⊥) → Carries net c → (net.chan c).to.node ≡ n →
    SameNode net m s (accept net s c load last)
accept_elsewhere net homes m n s c load last other real at =
    let w = homes.back c real in
    queue_elsewhere net m s (set_chan s c (store (s.chans c) load last)) (net.chan c).to.way _
    (half_elsewhere net m s s c (store (s.chans c) load last) (node_self net m s) (λ e. store_elsewhere (s.chans c) load last) (λ e. absurd (other (sym e ∙ at))))
    (not_near net m n (net.chan c).to.way w.0 other (w.1 ∙ ap (λ k. AtNode k w.0) at))

advance_elsewhere : (net : Net) → Homes net → (m n : ℕ) (s : State) (c : ℕ) (later : List (List ℕ)) → (m ≡ n → ⊥) → Carries net c → (net.chan c).from.node ≡ n →
    SameNode net m s (advance net s c later)
advance_elsewhere net homes m n s c [] other real at =
    half_elsewhere net m s s c _ (node_self net m s) (λ e. absurd (other (sym e ∙ at))) (λ e. record { wants = refl; stopped = refl; held = refl; stored = refl; taken = refl })
advance_elsewhere net homes m n s c (d ∷ later) other real at =
    let w = homes.there c real in
    queue_elsewhere net m s (set_chan s c (record (s.chans c) { unacked = d ∷ later })) (net.chan c).from.way _
    (half_elsewhere net m s s c (record (s.chans c) { unacked = d ∷ later }) (node_self net m s) (λ e. absurd (other (sym e ∙ at)))
    (λ e. record { wants = refl; stopped = refl; held = refl; stored = refl; taken = refl }))
    (not_near net m n (net.chan c).from.way w.0 other (w.1 ∙ ap (λ k. AtNode k w.0) at))

taken_elsewhere : (net : Net) → Homes net → (m n : ℕ) (s : State) (p : Packet) (u : State) → (m ≡ n → ⊥) → IsTaken net s n p u → SameNode net m s u
taken_elsewhere net homes m n s p u other (stores c load last piece wants after) = subst (SameNode net m s) (sym after) (accept_elsewhere net homes m n s c load last other piece.real piece.node)
taken_elsewhere net homes m n s p u other (holds c load last piece wants held after) =
    subst (SameNode net m s) (sym after)
    (half_elsewhere net m s s c _ (node_self net m s) (λ e. record { unacked = refl; offered = refl; finished = refl }) (λ e. absurd (other (sym e ∙ piece.node))))
taken_elsewhere net homes m n s p u other (advances c now later ack unacked after) = subst (SameNode net m s) (sym after) (advance_elsewhere net homes m n s c later other ack.real ack.node)

pub reaches_elsewhere : (net : Net) → Homes net → (m n : ℕ) (s : State) (p : Packet) (u : State) → (m ≡ n → ⊥) → Reaches net s n p u → SameNode net m s u
reaches_elsewhere net homes m n s p u other (taken h) = taken_elsewhere net homes m n s p u other h
reaches_elsewhere net homes m n s p u other (stray alone after) =
    subst (SameNode net m s) (sym after) (let k = node_self net m s in record { queues = k.queues; outs = k.outs; ins = k.ins })

fetches_elsewhere : (net : Net) → Homes net → (m n : ℕ) (s : State) (c : ℕ) (u : State) → (m ≡ n → ⊥) → Fetches net s c u → (net.chan c).to.node ≡ n → SameNode net m s u
fetches_elsewhere net homes m n s c u other k at =
    let piece = k.piece in
    subst (SameNode net m s) (sym k.after) (accept_elsewhere net homes m n s c k.load k.last other piece.real at)

pub proc_elsewhere : (net : Net) → Homes net → (m n : ℕ) (s : State) (e : Event) (u : State) → (m ≡ n → ⊥) → IsProcAt net e n → Step net s e u → SameNode net m s u
proc_elsewhere net homes m n s (Offer c x) u other at k =
    let w = homes.there c k.real in
    subst (SameNode net m s) (sym k.after)
    (queue_elsewhere net m s _ (net.chan c).from.way _
    (half_elsewhere net m s s c _ (node_self net m s) (λ e. absurd (other (sym e ∙ at))) (λ e. record { wants = refl; stopped = refl; held = refl; stored = refl; taken = refl }))
    (not_near net m n (net.chan c).from.way w.0 other (w.1 ∙ ap (λ k. AtNode k w.0) at)))
proc_elsewhere net homes m n s (Want c) u other at (open_is, fetches k) = fetches_elsewhere net homes m n s c u other k at
proc_elsewhere net homes m n s (Want c) u other at (open_is, waits held after) =
    subst (SameNode net m s) (sym after)
    (half_elsewhere net m s s c _ (node_self net m s) (λ e. record { unacked = refl; offered = refl; finished = refl }) (λ e. absurd (other (sym e ∙ at))))
proc_elsewhere net homes m n s (Choose c) u other at k = fetches_elsewhere net homes m n s c u other k.1 at
proc_elsewhere net homes m n s (Stop c) u other at k =
    subst (SameNode net m s) (sym k.after)
    (half_elsewhere net m s s c _ (node_self net m s) (λ e. record { unacked = refl; offered = refl; finished = refl }) (λ e. absurd (other (sym e ∙ at))))
proc_elsewhere net homes m n s d u other at k = absurd at
