-- A packet that reaches a node is taken by the half that it is for, and the invariant holds after it.
use Rattle.std.proofs.Common.{◌≡◌, ℕ, suc, ◌<◌, inl, inr, Bool, true, false, List, [], ◌∷◌, refl, sym, ap, subst, ◌∙◌, arith, Some, None}
use Rattle.std.proofs.lemmas.Bool.{cases_Bool}
use Rattle.vc_packets.specs.declared.packet.Packet.{Packet}
use Rattle.vc_packets.specs.Spellings.{piece_packet, ack_packet}
use Rattle.vc_machine.specs.Paths.{Carries, AtNode, Net, IsAccepted}
use Rattle.vc_machine.specs.Machine.{State, ChanState, set_way, set_chan, accept, advance, IsPieceFor, IsAckFor, IsTaken, stores, holds, advances, Reaches, taken, stray, Receives}
use Rattle.vc_packets.specs.Functions.{put}
use Rattle.vc_machine.proofs.Labels.{Phase, Calm, Coming, Waiting, Returning, Labels, number, tally, IsGoing, IsBack, LeftAfter, PhaseFits, ChanFits, Inv, tally_put, in_way_le_tally, goal_end, carried}
use Rattle.vc_machine.proofs.Ways.{set_fits, number_here, number_other, front_of}
use Rattle.vc_machine.proofs.Cover.{at_node}
use Rattle.vc_machine.proofs.Halves.{last_of, at_most_one, going_at, advanced_calm, advanced_going}
use Rattle.vc_machine.proofs.Nodes.{Loose, settle, settle_queue}
use Rattle.vc_machine.proofs.NodeSteps.{accepted, same_piece, same_ack, not_both, piece_for, ack_for}

-- what comes for channel c at node n
pub data Arrival (net : Net) (x : ChanState) (n : ℕ) (p : Packet) (c : ℕ) : Type 0 where
  piece : (now : List ℕ) (later : List (List ℕ)) → IsGoing x → x.unacked ≡ now ∷ later → p ≡ piece_packet ((net.chan c).to.block ∷ []) x.unacked →
      IsPieceFor net n p c now (last_of later) → x.held ≡ None → Arrival net x n p c
  ack : IsBack x → IsAckFor net n p c → x.held ≡ None → Arrival net x n p c

arrival_at : (net : Net) (f : Phase) (x : ChanState) (n m : ℕ) (p : Packet) (c : ℕ) (stack : List ℕ) → Carries net c → PhaseFits (net.chan c) f x m → (m ≡ 0 → ⊥) →
    (n ≡ (goal_end f (net.chan c)).node) × (stack ≡ (goal_end f (net.chan c)).block ∷ []) → p ≡ carried f x.unacked stack → Arrival net x n p c
arrival_at net Calm x n m p c stack real fits more at e = absurd (more fits.0)
arrival_at net Waiting x n m p c stack real fits more at e = absurd (more fits.0)
arrival_at net Coming x n m p c stack real fits more at e =
    let g = fits.2 in
    let h : p ≡ piece_packet ((net.chan c).to.block ∷ []) x.unacked = e ∙ ap (λ k. piece_packet k x.unacked) at.1 in
    piece g.now g.later g g.unacked h (piece_for net n p c g.now g.later x.unacked real (sym at.0) g.unacked g.cut h) fits.1
arrival_at net Returning x n m p c stack real fits more at e =
    ack fits.2 (ack_for net n p c real (sym at.0) (e ∙ ap ack_packet at.1)) fits.1

-- what a taking leaves
stores_case : (net : Net) (s : State) (n : ℕ) (p : Packet) (c d : ℕ) (load : List ℕ) (last : Bool) → IsAccepted net → Loose net s c → Carries net c →
    ((s.chans c).wants ≡ true → (s.chans c).stopped ≡ false) → Arrival net (s.chans c) n p c → IsPieceFor net n p d load last → (s.chans d).wants ≡ true →
    Inv net (accept net s d load last)
stores_case net s n p c d load last acc l real live (piece now later g e h f q) k w =
    let same = same_piece net n p c d now load (last_of later) last acc f k in
    let wants : (s.chans c).wants ≡ true = subst (λ j. (s.chans j).wants ≡ true) (sym same.0) w in
    subst (λ j. Inv net (accept net s j load last)) same.0
    (subst (λ j. Inv net (accept net s c load j)) same.2
    (subst (λ j. Inv net (accept net s c j (last_of later))) same.1
    (accepted net s c now later acc l real g e (live wants))))
stores_case net s n p c d load last acc l real live (ack b f q) k w = absurd (not_both net n p d c load last k f)

holds_case : (net : Net) (s : State) (n : ℕ) (p : Packet) (c d : ℕ) (load : List ℕ) (last : Bool) → IsAccepted net → Loose net s c → Carries net c →
    ((s.chans c).wants ≡ true → (s.chans c).stopped ≡ false) → Arrival net (s.chans c) n p c → IsPieceFor net n p d load last → (s.chans d).wants ≡ false →
    Inv net (set_chan s d (record (s.chans d) { held = Some p }))
holds_case net s n p c d load last acc l real live (piece now later g e h f q) k w =
    let x = s.chans c in
    let same = same_piece net n p c d now load (last_of later) last acc f k in
    let wants : x.wants ≡ false = subst (λ j. (s.chans j).wants ≡ false) (sym same.0) w in
    subst (λ j. Inv net (set_chan s j (record (s.chans j) { held = Some p }))) same.0
    (settle net s c l Waiting (record x { held = Some p })
    (record { «open» = live; phase = (refl, ap Some h, wants, going_at x x.wants x.stopped (Some p) g) }))
holds_case net s n p c d load last acc l real live (ack b f q) k w = absurd (not_both net n p d c load last k f)

advanced : (net : Net) (s : State) (c : ℕ) (later : List (List ℕ)) → IsAccepted net → Loose net s c → Carries net c →
    ((s.chans c).wants ≡ true → (s.chans c).stopped ≡ false) → LeftAfter (s.chans c) later → (s.chans c).held ≡ None → Inv net (advance net s c later)
advanced net s c [] acc l real live left q =
    let x = s.chans c in
    settle net s c l Calm (record x { unacked = []; finished = suc x.finished }) (record { «open» = live; phase = (refl, q, advanced_calm x left) })
advanced net s c (d ∷ later) acc l real live left q =
    let x = s.chans c in
    settle_queue net s c l Coming (record x { unacked = d ∷ later }) (net.chan c).from.way (net.chan c).from.route real (acc.ways c real).0
    (record { «open» = live; phase = (refl, q, advanced_going x d later left) }) (acc.there c real)

advances_case : (net : Net) (s : State) (n : ℕ) (p : Packet) (c d : ℕ) (now : List ℕ) (later : List (List ℕ)) → IsAccepted net → Loose net s c → Carries net c →
    ((s.chans c).wants ≡ true → (s.chans c).stopped ≡ false) → Arrival net (s.chans c) n p c → IsAckFor net n p d → (s.chans d).unacked ≡ now ∷ later →
    Inv net (advance net s d later)
advances_case net s n p c d now later acc l real live (piece a b g e h f q) k u = absurd (not_both net n p c d a (last_of b) f k)
advances_case net s n p c d now later acc l real live (ack b f q) k u =
    let same = same_ack net n p c d acc f k in
    let e1 : (s.chans c).unacked ≡ now ∷ later = subst (λ j. (s.chans j).unacked ≡ now ∷ later) (sym same) u in
    let e2 = b.unacked in
    let e3 : b.later ≡ later = cc in
    subst (λ j. Inv net (advance net s j later)) same (subst (λ j. Inv net (advance net s c j)) e3 (advanced net s c b.later acc l real live b.left q))

pub takes_it : (net : Net) (s : State) (n : ℕ) (p : Packet) (c : ℕ) → Arrival net (s.chans c) n p c → (t : State) × IsTaken net s n p t
takes_it net s n p c (piece now later g e h f q) =
    elim (cases_Bool (s.chans c).wants) [
      | inl w ↦ (accept net s c now (last_of later), stores c now (last_of later) f w refl)
      | inr w ↦ (set_chan s c (record (s.chans c) { held = Some p }), holds c now (last_of later) f w q refl)
    ]
takes_it net s n p c (ack b f q) = (advance net s c b.later, advances c b.now b.later f b.unacked refl)

reached : (net : Net) (s t : State) (n : ℕ) (p : Packet) (c : ℕ) → IsAccepted net → Loose net s c → Carries net c →
    ((s.chans c).wants ≡ true → (s.chans c).stopped ≡ false) → Arrival net (s.chans c) n p c → Reaches net s n p t → Inv net t
reached net s t n p c acc l real live a (taken (stores d load last k w e)) = subst (Inv net) (sym e) (stores_case net s n p c d load last acc l real live a k w)
reached net s t n p c acc l real live a (taken (holds d load last k w q e)) = subst (Inv net) (sym e) (holds_case net s n p c d load last acc l real live a k w)
reached net s t n p c acc l real live a (taken (advances d now later k u e)) = subst (Inv net) (sym e) (advances_case net s n p c d now later acc l real live a k u)
reached net s t n p c acc l real live a (stray none e) = let k = takes_it net s n p c a in absurd (none k.0 k.1)

-- the front packet of a wire, taken off
pub record Off (net : Net) (s : State) (w : ℕ) (p : Packet) (rest : List Packet) (n : ℕ) : Type 0 where
  pub chan : ℕ
  pub real : Carries net chan
  pub loose : Loose net (set_way s w (record (s.ways w) { line = rest })) chan
  pub live : (s.chans chan).wants ≡ true → (s.chans chan).stopped ≡ false
  pub arrival : Arrival net (s.chans chan) n p chan

pub taken_off : (net : Net) (s : State) (w : ℕ) (p : Packet) (rest : List Packet) (n k : ℕ) → Inv net s → w < net.ways → net.far w ≡ AtNode n k →
    (s.ways w).line ≡ p ∷ rest → Off net s w p rest n
taken_off net s w p rest n k i real far front =
    let fit = i.ways w real in
    let b = i.labels w in
    let f = front_of net i.phases s.chans w b.line (s.ways w).line p rest fit.line front in
    let l = f.label in
    let c = l.chan in
    let x = s.chans c in
    let own = i.chans c f.on.real in
    let b1 : Labels = record b { line = f.rest } in
    let L = put i.labels w b1 in
    let le = at_most_one (net.chan c) (i.phases c) x (tally c net.ways i.labels) own.phase in
    let here = number_here l f.rest in
    let lines = ap (number c) f.is in
    let count = tally_put c w net.ways i.labels b1 real in
    record {
      chan = c;
      real = f.on.real;
      loose = record {
        labels = L;
        phases = i.phases;
        ways = set_fits net i.phases s.chans s.ways i.labels w (record (s.ways w) { line = rest }) b1 i.ways (record { queue = fit.queue; line = f.others; input = fit.input });
        none = omega arith;
        others = λ d ne r. subst (λ m. ChanFits (net.chan d) (i.phases d) (s.chans d) m)
            (let e1 = tally_put d w net.ways i.labels b1 real in
            let e2 = ap (number d) f.is in
            let e3 = number_other d l f.rest (λ q. ne (sym q)) in
            omega arith)
            (i.chans d r);
        strays = i.strays;
        lost = i.lost;
      };
      live = own.«open»;
      arrival = arrival_at net (i.phases c) x n (tally c net.ways i.labels) p c l.stack f.on.real own.phase
          (λ z. (let e = in_way_le_tally c w net.ways i.labels real in omega arith))
          (at_node net f.on.fuel w l.stack (goal_end (i.phases c) (net.chan c)) n k far f.on.delivers)
          f.on.is;
    }

pub received : (net : Net) (s t : State) (w : ℕ) → IsAccepted net → Inv net s → Receives net s w t → Inv net t
received net s t w acc i h =
    let o = taken_off net s w h.packet h.rest h.node h.link i h.real h.far h.front in
    reached net (set_way s w (record (s.ways w) { line = h.rest })) t h.node h.packet o.chan acc o.loose o.real o.live o.arrival h.after
