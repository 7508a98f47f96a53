-- On an accepted plan all packets of the packet machine fit.
use Rattle.std.proofs.Common.{◌≡◌, ℕ, suc, ◌+◌, ◌*◌, ◌≤◌, Bool, true, false, List, [], ◌∷◌, ◌++◌, length, refl, sym, ap, subst, ◌∙◌, arith, if◌then◌else◌, Option, Some, None, append-nil, length-append}
use Rattle.std.specs.List.{AllByRecursion}
use Rattle.vc_packets.specs.declared.packet.Packet.{Packet}
use Rattle.vc_packets.specs.Headers.{spelled}
use Rattle.vc_packets.specs.Pieces.{IsCut}
use Rattle.vc_packets.specs.Spellings.{piece_packet, ack_packet}
use Rattle.vc_machine.specs.Paths.{Carries, AtSwitch, Net, Leaves, IsAccepted}
use Rattle.vc_labels.specs.declared.action.Action.{Action}
use Rattle.vc_labels.specs.declared.action.Action.TheVariants.{Out, Portal}
use Rattle.vc_labels.specs.declared.row.Row.{Row}
use Rattle.vc_labels.specs.Interval.{action_for}
use Rattle.vc_switch.specs.Forward.{past_portal, without_portals, IsDrawn, behind, HasRoom}
use Rattle.vc_machine.specs.Machine.{State, WayState, ChanState, Empty, Full, start, set_way, set_chan, enqueue, store, accept, advance, emptied, Event, Offer, Want, Choose, Stop, Send, Receive, Enter, Leave, IsTaken, stores, holds, advances, Reaches, taken, stray, BodyLeaves, Fetches, fetches, waits, Settles, fills, lost, Departs, Step, Run}
use Rattle.vc_machine.specs.Dependencies.{by_piece, by_ack, by_hop}
use Rattle.vc_machine.specs.Private.Laws.{FitsWay, IsLimit, CameFitting, AllFit}
use Rattle.vc_machine.specs.Laws.{HasHeaders}
use Rattle.vc_machine.proofs.Update.{every_put}
use Rattle.vc_machine.proofs.Heads.{same_switch}
use Rattle.vc_machine.proofs.Cover.{follows, onward, spelled_behind}
use Rattle.vc_machine.proofs.Halves.{store_unacked}

pub spelled_length : (s : List ℕ) → length (spelled s) ≡ 2 * length s
spelled_length [] = omega arith
spelled_length (h ∷ hs) = omega (arith, spelled_length hs)

without_shorter : (table : List Row) (s : List ℕ) → length (without_portals table s) ≤ length s
without_shorter table [] = omega arith
without_shorter table (h ∷ hs) = pick (action_for table h) (without_shorter table hs)
  where
    pick : (a : Option Action) → length (without_portals table hs) ≤ length hs → length (past_portal a (without_portals table hs) (h ∷ hs)) ≤ suc (length hs)
    pick None k = omega arith
    pick (Some Portal) k = omega arith
    pick (Some (Out f l)) k = omega arith

left_shorter : (b : Bool) (h : ℕ) (rest : List ℕ) → length (if b then rest else h ∷ rest) ≤ suc (length rest)
left_shorter true h rest = omega arith
left_shorter false h rest = omega arith

pub leaves_shorter : (net : Net) (n : ℕ) (s : List ℕ) (w : ℕ) (t : List ℕ) → Leaves net n s w t → length t ≤ length s
leaves_shorter net n s w t l =
    let a = without_shorter (net.switch n).table s in
    let b = ap length l.front in
    let c = left_shorter ((net.switch n).deletes l.link) l.header l.rest in
    let d = ap length l.left in
    omega arith

behind_fits : (net : Net) (most n i : ℕ) (v : Option ℕ) (s : List ℕ) → HasHeaders net most → IsDrawn ((net.switch n).random i) v → HasRoom v s → length s ≤ most → length (behind v s) ≤ most
behind_fits net most n i None s h draw room l = l
behind_fits net most n i (Some v) s h draw room l = let k = h.random n i v (length s) draw room in omega arith

body_short : (s load b : List ℕ) (most : ℕ) → b ≡ spelled s ++ load → length s ≤ most → length load ≤ 32 → length b ≤ 2 * most + 32
body_short s load b most e h k = let l = ap length e in let m = length-append (spelled s) load in let n = spelled_length s in omega arith

pub limits : (net : Net) (most : ℕ) → HasHeaders net most → IsLimit net (FitsWay net most) (2 * most + 32)
limits net most h =
    record {
      short = λ w b f. body_short f.stack f.load b most f.body f.headers f.small;
      headed = λ w n i drawn b far draw f.
          let o = onward net f.fuel w f.stack f.to n i drawn far draw f.delivers in
          body_short (behind drawn f.stack) f.load (spelled (behind drawn []) ++ b) most (spelled_behind drawn f.stack f.load b f.body)
          (behind_fits net most n i drawn f.stack h draw o.room f.headers) f.small;
      hop = λ w n i drawn b out d far draw f l.
          let o = onward net f.fuel w f.stack f.to n i drawn far draw f.delivers in
          let g = follows net n (behind drawn f.stack) f.load (spelled (behind drawn []) ++ b) o.way o.stack out d o.leaves (spelled_behind drawn f.stack f.load b f.body) l in
          let next = o.each out g.after g.leaves in
          let a = leaves_shorter net n (behind drawn f.stack) out g.after g.leaves in
          let k = behind_fits net most n i drawn f.stack h draw o.room f.headers in
          record { stack = g.after; load = f.load; fuel = next.0; to = f.to; body = g.body; delivers = next.2; stands = by_hop n i drawn f.stands far draw g.leaves; headers = omega arith; small = f.small };
    }

-- the invariant

pub record PacketsFit (net : Net) (most : ℕ) (s : State) : Type 0 where
  pub queues : (w : ℕ) → AllByRecursion (λ p. FitsWay net most w p.body) (s.ways w).queue
  pub lines : (w : ℕ) → AllByRecursion (λ p. FitsWay net most w p.body) (s.ways w).line
  pub inputs : (w : ℕ) (p : Packet) (bound : Option ℕ) → (s.ways w).input ≡ Full p bound → CameFitting net (FitsWay net most) w p
  pub pieces : (c : ℕ) → AllByRecursion (λ (d : List ℕ). length d ≤ 32) (s.chans c).unacked

all_push : (P : Packet → Type 0) (xs : List Packet) (y : Packet) → AllByRecursion P xs → P y → AllByRecursion P (xs ++ y ∷ [])
all_push P [] y h k = (k, tt)
all_push P (x ∷ xs) y h k = (h.0, all_push P xs y h.1 k)

all_cut : (cs : List (List ℕ)) → IsCut cs → AllByRecursion (λ (d : List ℕ). length d ≤ 32) cs
all_cut [] h = absurd h
all_cut (c ∷ []) h = (h, tt)
all_cut (c ∷ d ∷ cs) h = ((let e = h.0 in omega arith), all_cut (d ∷ cs) h.1)

-- one way changed
way_fits : (net : Net) (most : ℕ) (s : State) (w : ℕ) (x : WayState) → PacketsFit net most s → AllByRecursion (λ p. FitsWay net most w p.body) x.queue →
    AllByRecursion (λ p. FitsWay net most w p.body) x.line → ((p : Packet) (bound : Option ℕ) → x.input ≡ Full p bound → CameFitting net (FitsWay net most) w p) → PacketsFit net most (set_way s w x)
way_fits net most s w x f q l i =
    record {
      queues = every_put (λ j (y : WayState). AllByRecursion (λ p. FitsWay net most j p.body) y.queue) s.ways w x q f.queues;
      lines = every_put (λ j (y : WayState). AllByRecursion (λ p. FitsWay net most j p.body) y.line) s.ways w x l f.lines;
      inputs = every_put (λ j (y : WayState). (p : Packet) (bound : Option ℕ) → y.input ≡ Full p bound → CameFitting net (FitsWay net most) j p) s.ways w x i f.inputs;
      pieces = f.pieces;
    }

chan_fits : (net : Net) (most : ℕ) (s : State) (c : ℕ) (x : ChanState) → PacketsFit net most s → AllByRecursion (λ (d : List ℕ). length d ≤ 32) x.unacked → PacketsFit net most (set_chan s c x)
chan_fits net most s c x f h =
    record { queues = f.queues; lines = f.lines; inputs = f.inputs; pieces = every_put (λ j (y : ChanState). AllByRecursion (λ (d : List ℕ). length d ≤ 32) y.unacked) s.chans c x h f.pieces }

queue_fits : (net : Net) (most : ℕ) (s : State) (w : ℕ) (p : Packet) → PacketsFit net most s → FitsWay net most w p.body → PacketsFit net most (enqueue s w p)
queue_fits net most s w p f h =
    way_fits net most s w (record (s.ways w) { queue = (s.ways w).queue ++ p ∷ [] }) f (all_push (λ q. FitsWay net most w q.body) (s.ways w).queue p (f.queues w) h) (f.lines w) (f.inputs w)

piece_fits : (net : Net) (most : ℕ) → IsAccepted net → HasHeaders net most → (c : ℕ) (now : List ℕ) (later : List (List ℕ)) → Carries net c → length now ≤ 32 →
    FitsWay net most (net.chan c).from.way (piece_packet (net.chan c).from.route (now ∷ later)).body
piece_fits net most a h c now later real small =
    record { stack = (net.chan c).from.route; load = now; fuel = 32; to = (net.chan c).to; body = refl; delivers = a.there c real; stands = by_piece c real; headers = (h.routes c real).0; small = small }

ack_fits : (net : Net) (most : ℕ) → IsAccepted net → HasHeaders net most → (c : ℕ) → Carries net c → FitsWay net most (net.chan c).to.way (ack_packet (net.chan c).to.route).body
ack_fits net most a h c real =
    record { stack = (net.chan c).to.route; load = []; fuel = 32; to = (net.chan c).from; body = sym (append-nil (spelled (net.chan c).to.route)); delivers = a.back c real; stands = by_ack c real; headers = (h.routes c real).1; small = omega arith }

accept_fits : (net : Net) (most : ℕ) → IsAccepted net → HasHeaders net most → (s : State) (c : ℕ) (load : List ℕ) (last : Bool) → Carries net c → PacketsFit net most s → PacketsFit net most (accept net s c load last)
accept_fits net most a h s c load last real f =
    queue_fits net most (set_chan s c (store (s.chans c) load last)) (net.chan c).to.way (ack_packet (net.chan c).to.route)
    (chan_fits net most s c (store (s.chans c) load last) f (subst (AllByRecursion (λ (d : List ℕ). length d ≤ 32)) (sym (store_unacked (s.chans c) load last)) (f.pieces c)))
    (ack_fits net most a h c real)

advance_fits : (net : Net) (most : ℕ) → IsAccepted net → HasHeaders net most → (s : State) (c : ℕ) (later : List (List ℕ)) → Carries net c → AllByRecursion (λ (d : List ℕ). length d ≤ 32) later → PacketsFit net most s →
    PacketsFit net most (advance net s c later)
advance_fits net most a h s c [] real small f = chan_fits net most s c (record (s.chans c) { unacked = []; finished = suc (s.chans c).finished }) f tt
advance_fits net most a h s c (d ∷ later) real small f =
    queue_fits net most (set_chan s c (record (s.chans c) { unacked = d ∷ later })) (net.chan c).from.way (piece_packet (net.chan c).from.route (d ∷ later))
    (chan_fits net most s c (record (s.chans c) { unacked = d ∷ later }) f small) (piece_fits net most a h c d later real small.0)

taken_fits : (net : Net) (most : ℕ) → IsAccepted net → HasHeaders net most → (s t : State) (n : ℕ) (p : Packet) → PacketsFit net most s → IsTaken net s n p t → PacketsFit net most t
taken_fits net most a h s t n p f (stores c load last piece wants after) = subst (PacketsFit net most) (sym after) (accept_fits net most a h s c load last piece.real f)
taken_fits net most a h s t n p f (holds c load last piece wants held after) = subst (PacketsFit net most) (sym after) (chan_fits net most s c (record (s.chans c) { held = Some p }) f (f.pieces c))
taken_fits net most a h s t n p f (advances c now later ack unacked after) =
    let small : AllByRecursion (λ (d : List ℕ). length d ≤ 32) (now ∷ later) = subst (AllByRecursion (λ (d : List ℕ). length d ≤ 32)) unacked (f.pieces c) in
    subst (PacketsFit net most) (sym after) (advance_fits net most a h s c later ack.real small.1 f)

reaches_fits : (net : Net) (most : ℕ) → IsAccepted net → HasHeaders net most → (s t : State) (n : ℕ) (p : Packet) → PacketsFit net most s → Reaches net s n p t → PacketsFit net most t
reaches_fits net most a h s t n p f (taken k) = taken_fits net most a h s t n p f k
reaches_fits net most a h s t n p f (stray alone after) = subst (PacketsFit net most) (sym after) (record { queues = f.queues; lines = f.lines; inputs = f.inputs; pieces = f.pieces })

settles_fits : (net : Net) (most : ℕ) (s t : State) (n w i : ℕ) (drawn : Option ℕ) (q : Packet) (rest : List Packet) → PacketsFit net most s → net.far w ≡ AtSwitch n i →
    IsDrawn ((net.switch n).random i) drawn → (s.ways w).line ≡ q ∷ rest → (s.ways w).input ≡ Empty → Settles net s n w rest (record q { body = spelled (behind drawn []) ++ q.body }) t → PacketsFit net most t
settles_fits net most s t n w i drawn q rest f far draw front free (fills group after) =
    let l : AllByRecursion (λ p. FitsWay net most w p.body) (q ∷ rest) = subst (AllByRecursion (λ (p : Packet). FitsWay net most w p.body)) front (f.lines w) in
    let p : Packet = record q { body = spelled (behind drawn []) ++ q.body } in
    subst (PacketsFit net most) (sym after)
    (way_fits net most s w (record (s.ways w) { line = rest; input = Full p None }) f (f.queues w) l.1
    (λ p2 bound e. let same : p2 ≡ p = (let k : Full p None ≡ Full p2 bound = e in cc) in
    record { switch = n; link = i; drawn = drawn; body = q.body; far = far; draw = draw; is = ap (λ (k : Packet). k.body) same; fits = l.0 }))
settles_fits net most s t n w i drawn q rest f far draw front free (lost alone after) =
    let l : AllByRecursion (λ p. FitsWay net most w p.body) (q ∷ rest) = subst (AllByRecursion (λ (p : Packet). FitsWay net most w p.body)) front (f.lines w) in
    let g = way_fits net most s w (record (s.ways w) { line = rest }) f (f.queues w) l.1 (f.inputs w) in
    subst (PacketsFit net most) (sym after) (record { queues = g.queues; lines = g.lines; inputs = g.inputs; pieces = g.pieces })

departs_fits : (net : Net) (most : ℕ) → HasHeaders net most → (s t : State) (w : ℕ) → PacketsFit net most s → Departs net s w t → PacketsFit net most t
departs_fits net most h s t w f d =
    let c = f.inputs w d.packet (Some d.out) d.full in
    let lim = limits net most h in
    let same = same_switch d.switch d.link c.switch c.link (sym d.far ∙ c.far) in
    let goes : FitsWay net most d.out d.body = lim.hop w c.switch c.link c.drawn c.body d.out d.body c.far c.draw c.fits
    (subst (λ k. BodyLeaves net k (spelled (behind c.drawn []) ++ c.body) d.out d.body) same (subst (λ k. BodyLeaves net d.switch k d.out d.body) c.is d.leaves)) in
    let one : PacketsFit net most (emptied s w) = way_fits net most s w (record (s.ways w) { input = Empty }) f (f.queues w) (f.lines w) (λ p bound e. absurd (cc)) in
    let s2 = emptied s w in
    let p : Packet = record d.packet { body = d.body } in
    subst (PacketsFit net most) (sym d.after)
    (way_fits net most s2 d.out (record (s2.ways d.out) { line = (s2.ways d.out).line ++ p ∷ [] }) one (one.queues d.out)
    (all_push (λ q. FitsWay net most d.out q.body) (s2.ways d.out).line p (one.lines d.out) goes) (one.inputs d.out))

fetches_fits : (net : Net) (most : ℕ) → IsAccepted net → HasHeaders net most → (s t : State) (c : ℕ) → PacketsFit net most s → Fetches net s c t → PacketsFit net most t
fetches_fits net most a h s t c f k =
    let piece = k.piece in
    subst (PacketsFit net most) (sym k.after) (accept_fits net most a h s c k.load k.last piece.real f)

step_fits : (net : Net) (most : ℕ) → IsAccepted net → HasHeaders net most → (s : State) (e : Event) (t : State) → PacketsFit net most s → Step net s e t → PacketsFit net most t
step_fits net most a h s (Offer c m) t f k =
    let cuts = k.pieces in
    let small = all_cut (k.now ∷ k.later) cuts.cut in
    subst (PacketsFit net most) (sym k.after)
    (queue_fits net most _ (net.chan c).from.way (piece_packet (net.chan c).from.route (k.now ∷ k.later))
    (chan_fits net most s c (record (s.chans c) { unacked = k.now ∷ k.later; offered = (s.chans c).offered ++ m ∷ [] }) f small)
    (piece_fits net most a h c k.now k.later k.real small.0))
step_fits net most a h s (Want c) t f (open_is, fetches k) = fetches_fits net most a h s t c f k
step_fits net most a h s (Want c) t f (open_is, waits held after) = subst (PacketsFit net most) (sym after) (chan_fits net most s c (record (s.chans c) { wants = true }) f (f.pieces c))
step_fits net most a h s (Choose c) t f k = fetches_fits net most a h s t c f k.1
step_fits net most a h s (Stop c) t f k = subst (PacketsFit net most) (sym k.after) (chan_fits net most s c (record (s.chans c) { stopped = true }) f (f.pieces c))
step_fits net most a h s (Send w) t f k =
    let q : AllByRecursion (λ p. FitsWay net most w p.body) (k.packet ∷ k.rest) = subst (AllByRecursion (λ (p : Packet). FitsWay net most w p.body)) k.front (f.queues w) in
    subst (PacketsFit net most) (sym k.after)
    (way_fits net most s w (record (s.ways w) { queue = k.rest; line = (s.ways w).line ++ k.packet ∷ [] }) f q.1
    (all_push (λ p. FitsWay net most w p.body) (s.ways w).line k.packet (f.lines w) q.0) (f.inputs w))
step_fits net most a h s (Receive w) t f k =
    let q : AllByRecursion (λ p. FitsWay net most w p.body) (k.packet ∷ k.rest) = subst (AllByRecursion (λ (p : Packet). FitsWay net most w p.body)) k.front (f.lines w) in
    reaches_fits net most a h _ t k.node k.packet (way_fits net most s w (record (s.ways w) { line = k.rest }) f (f.queues w) q.1 (f.inputs w)) k.after
step_fits net most a h s (Enter w drawn) t f k = settles_fits net most s t k.switch w k.link drawn k.packet k.rest f k.far k.draw k.front k.free k.after
step_fits net most a h s (Event.Route w out) t f k =
    subst (PacketsFit net most) (sym k.after)
    (way_fits net most s w (record (s.ways w) { input = Full k.packet (Some out) }) f (f.queues w) (f.lines w)
    (λ p bound e. let same : k.packet ≡ p = (let g : Full k.packet (Some out) ≡ Full p bound = e in cc) in
    subst (CameFitting net (FitsWay net most) w) same (f.inputs w k.packet None k.full)))
step_fits net most a h s (Leave w) t f k = departs_fits net most h s t w f k

start_fits : (net : Net) (most : ℕ) → PacketsFit net most start
start_fits net most = record { queues = λ w. tt; lines = λ w. tt; inputs = λ w p bound e. absurd (cc); pieces = λ c. tt }

run_fits : (net : Net) (most : ℕ) → IsAccepted net → HasHeaders net most → (es : List Event) (s t : State) → PacketsFit net most s → Run net s es t → PacketsFit net most t
run_fits net most a h [] s t f k = subst (PacketsFit net most) (sym k) f
run_fits net most a h (e ∷ es) s t f k = run_fits net most a h es k.0 t (step_fits net most a h s e k.0 f k.1) k.2

pub packets_fit : (net : Net) (most : ℕ) → IsAccepted net → HasHeaders net most → (es : List Event) (s : State) → Run net start es s → PacketsFit net most s
packets_fit net most a h es s k = run_fits net most a h es start s (start_fits net most) k

pub all_fit : (net : Net) (most : ℕ) → IsAccepted net → HasHeaders net most → (es : List Event) (s : State) → Run net start es s → AllFit net (FitsWay net most) s
all_fit net most a h es s k =
    let f = packets_fit net most a h es s k in
    record {
      queues = λ w p rest real e. front_fits w p rest (subst (AllByRecursion (λ (q : Packet). FitsWay net most w q.body)) e (f.queues w));
      lines = λ w real. f.lines w;
      inputs = λ w p bound real e. f.inputs w p bound e;
    }
  where
    front_fits : (w : ℕ) (p : Packet) (rest : List Packet) → AllByRecursion (λ (q : Packet). FitsWay net most w q.body) (p ∷ rest) → FitsWay net most w p.body
    front_fits w p rest x = x.0
