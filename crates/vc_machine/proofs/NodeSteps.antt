-- Each event of a node keeps the invariant.
use Rattle.std.proofs.Common.{◌≡◌, ℕ, inl, inr, Bool, true, false, List, [], ◌∷◌, ◌++◌, refl, sym, ap, subst, ◌∙◌, None}
use Rattle.std.proofs.lemmas.Bool.{cases_eq}
use Rattle.vc_packets.specs.declared.packet.Packet.{Packet}
use Rattle.vc_packets.specs.Headers.{spelled}
use Rattle.vc_packets.specs.Pieces.{IsCut}
use Rattle.vc_packets.specs.declared.kind.Kind.TheVariants.{Ack, Piece}
use Rattle.vc_packets.specs.Kind.{kind}
use Rattle.vc_packets.specs.Spellings.{mark_before, piece_packet, ack_packet}
use Rattle.vc_machine.specs.Paths.{Carries, Channel, Net, IsAccepted}
use Rattle.vc_machine.specs.Machine.{State, ChanState, set_chan, store, accept, IsPieceFor, IsAckFor, Offers, Fetches, Wants, fetches, waits, IsOpen, Stops}
use Rattle.vc_packets.specs.Functions.{put}
use Rattle.vc_machine.proofs.Basics.{put-same, put-other, every_put₂, header_same, header_rest_same}
use Rattle.vc_machine.proofs.Labels.{Phase, Calm, Coming, Waiting, Returning, tally, IsGoing, PhaseFits, ChanFits, Inv}
use Rattle.vc_machine.proofs.Ways.{ways_kept}
use Rattle.vc_machine.proofs.Halves.{last_of, kind_of_piece, calm_when_idle, waiting_when_held, calm_at, going_at, back_at, offered_going, store_held, store_open, store_back}
use Rattle.vc_machine.proofs.Nodes.{Loose, loose_now, settle_queue}

pub offered : (net : Net) (s t : State) (c : ℕ) (m : List ℕ) → IsAccepted net → Inv net s → Offers net s c m t → Inv net t
offered net s t c m acc i h =
    let x = s.chans c in
    let fits = i.chans c h.real in
    let q = calm_when_idle (net.chan c) (i.phases c) x (tally c net.ways i.labels) fits.phase h.idle in
    subst (Inv net) (sym h.after)
    (settle_queue net s c (loose_now net s c i q.0) Coming (record x { unacked = h.now ∷ h.later; offered = x.offered ++ m ∷ [] })
    (net.chan c).from.way (net.chan c).from.route h.real (acc.ways c h.real).0
    (record { «open» = fits.open; phase = (refl, q.1, offered_going x m h.now h.later q.2 h.pieces) })
    (acc.there c h.real))

pub accepted : (net : Net) (s : State) (c : ℕ) (now : List ℕ) (later : List (List ℕ)) → IsAccepted net → Loose net s c → Carries net c → IsGoing (s.chans c) →
    (s.chans c).unacked ≡ now ∷ later → (s.chans c).stopped ≡ false → Inv net (accept net s c now (last_of later))
accepted net s c now later acc l real going e live =
    let x = s.chans c in
    settle_queue net s c l Returning (store x now (last_of later)) (net.chan c).to.way (net.chan c).to.route real (acc.ways c real).1
    (record { «open» = store_open x now (last_of later) live; phase = (refl, store_held x now (last_of later), store_back x now later going e) })
    (acc.back c real)

-- for whom a packet is
pub same_piece : (net : Net) (n : ℕ) (p : Packet) (c d : ℕ) (k l : List ℕ) (a b : Bool) → IsAccepted net → IsPieceFor net n p c k a → IsPieceFor net n p d l b →
    (c ≡ d) × (k ≡ l) × (a ≡ b)
same_piece net n p c d k l a b acc f g =
    let e = sym f.body ∙ g.body in
    let blocks : (net.chan c).to.block ≡ (net.chan d).to.block = header_same (net.chan c).to.block (net.chan d).to.block k l e in
    let loads : k ≡ l = header_rest_same (net.chan c).to.block (net.chan d).to.block k l e in
    let kinds : Piece a ≡ Piece b = sym f.kind ∙ ap (λ j. kind j p.mark) loads ∙ g.kind in
    (acc.one_in c d f.real g.real (f.node ∙ sym g.node, blocks), loads, cc)

pub same_ack : (net : Net) (n : ℕ) (p : Packet) (c d : ℕ) → IsAccepted net → IsAckFor net n p c → IsAckFor net n p d → c ≡ d
same_ack net n p c d acc f g =
    let e = sym f.body ∙ g.body in
    acc.one_out c d f.real g.real (f.node ∙ sym g.node, header_same (net.chan c).from.block (net.chan d).from.block [] [] e)

pub not_both : (net : Net) (n : ℕ) (p : Packet) (c d : ℕ) (k : List ℕ) (a : Bool) → IsPieceFor net n p c k a → IsAckFor net n p d → ⊥
not_both net n p c d k a f g =
    let e = sym f.body ∙ g.body in
    let loads : k ≡ [] = header_rest_same (net.chan c).to.block (net.chan d).from.block k [] e in
    let kinds : Piece a ≡ Ack = sym f.kind ∙ ap (λ j. kind j p.mark) loads ∙ g.kind in
    cc

piece_body : (block : ℕ) (now : List ℕ) (later : List (List ℕ)) (cs : List (List ℕ)) (p : Packet) → cs ≡ now ∷ later → p ≡ piece_packet (block ∷ []) cs →
    (p.body ≡ spelled (block ∷ []) ++ now) × (p.mark ≡ mark_before later)
piece_body block now later cs p e h =
    let k : p ≡ piece_packet (block ∷ []) (now ∷ later) = h ∙ ap (piece_packet (block ∷ [])) e in
    (ap (λ q. q.body) k, ap (λ q. q.mark) k)

pub piece_for : (net : Net) (n : ℕ) (p : Packet) (c : ℕ) (now : List ℕ) (later cs : List (List ℕ)) → Carries net c → (net.chan c).to.node ≡ n → cs ≡ now ∷ later → IsCut (now ∷ later) →
    p ≡ piece_packet ((net.chan c).to.block ∷ []) cs → IsPieceFor net n p c now (last_of later)
piece_for net n p c now later cs real node e cut h =
    let k = piece_body (net.chan c).to.block now later cs p e h in
    record { real = real; node = node; body = k.0; kind = ap (kind now) k.1 ∙ kind_of_piece now later cut }

pub ack_for : (net : Net) (n : ℕ) (p : Packet) (c : ℕ) → Carries net c → (net.chan c).from.node ≡ n → p ≡ ack_packet ((net.chan c).from.block ∷ []) → IsAckFor net n p c
ack_for net n p c real node h = record { real = real; node = node; body = ap (λ q. q.body) h; kind = ap (λ q. kind [] q.mark) h }

pub fetched : (net : Net) (s t : State) (c : ℕ) → IsAccepted net → Inv net s → IsOpen net s c → Fetches net s c t → Inv net t
fetched net s t c acc i o h =
    let x = s.chans c in
    let fits = i.chans c o.real in
    let q = waiting_when_held (net.chan c) (i.phases c) x (tally c net.ways i.labels) h.packet fits.phase h.held in
    let g = q.2 in
    let own = piece_for net (net.chan c).to.node h.packet c g.now g.later x.unacked o.real refl g.unacked g.cut q.1 in
    let same = same_piece net (net.chan c).to.node h.packet c c g.now h.load (last_of g.later) h.last acc own h.piece in
    let done = accepted net s c g.now g.later acc (loose_now net s c i q.0) o.real g g.unacked o.not_stopped in
    subst (Inv net) (sym h.after) (subst (λ k. Inv net (accept net s c h.load k)) same.2 (subst (λ k. Inv net (accept net s c k (last_of g.later))) same.1 done))

-- a change of what no label shows
pub adjusted : (net : Net) (s : State) (c : ℕ) (i : Inv net s) (x : ChanState) → x.unacked ≡ (s.chans c).unacked →
    (Carries net c → ChanFits (net.chan c) (i.phases c) x (tally c net.ways i.labels)) → Inv net (set_chan s c x)
adjusted net s c i x e fits =
    record {
      labels = i.labels;
      phases = i.phases;
      ways = ways_kept net i.phases s.chans i.phases (put s.chans c x) s.ways i.labels
          (λ d. inr (
            refl,
            elim (cases_eq d c) [
              | inl same ↦ ap (λ k. (put s.chans c x k).unacked) same ∙ ap (λ k. k.unacked) (put-same s.chans c x) ∙ e ∙ ap (λ k. (s.chans k).unacked) (sym same)
              | inr ne ↦ ap (λ k. k.unacked) (put-other s.chans c x d ne)
            ],
          ))
          i.ways;
      chans = every_put₂ (λ d g y. Carries net d → ChanFits (net.chan d) (i.phases d) y (tally d net.ways i.labels)) s.chans s.chans c x x fits (λ d ne. i.chans d);
      strays = i.strays;
      lost = i.lost;
    }

waits_phase : (ch : Channel) (f : Phase) (x : ChanState) (n : ℕ) → x.held ≡ None → PhaseFits ch f x n → PhaseFits ch f (record x { wants = true }) n
waits_phase ch Calm x n e h = (h.0, h.1, calm_at x true x.stopped x.held h.2)
waits_phase ch Coming x n e h = (h.0, h.1, going_at x true x.stopped x.held h.2)
waits_phase ch Waiting x n e h = let k = h.1 in absurd (cc)
waits_phase ch Returning x n e h = (h.0, h.1, back_at x true x.stopped x.held h.2)

stops_phase : (ch : Channel) (f : Phase) (x : ChanState) (n : ℕ) → PhaseFits ch f x n → PhaseFits ch f (record x { stopped = true }) n
stops_phase ch Calm x n h = (h.0, h.1, calm_at x x.wants true x.held h.2)
stops_phase ch Coming x n h = (h.0, h.1, going_at x x.wants true x.held h.2)
stops_phase ch Waiting x n h = (h.0, h.1, h.2, going_at x x.wants true x.held h.3)
stops_phase ch Returning x n h = (h.0, h.1, back_at x x.wants true x.held h.2)

pub wanted : (net : Net) (s t : State) (c : ℕ) → IsAccepted net → Inv net s → IsOpen net s c → Wants net s c t → Inv net t
wanted net s t c acc i o (fetches h) = fetched net s t c acc i o h
wanted net s t c acc i o (waits e after) =
    let x = s.chans c in
    subst (Inv net) (sym after)
    (adjusted net s c i (record x { wants = true }) refl
    (λ h. record { «open» = λ k. o.not_stopped; phase = waits_phase (net.chan c) (i.phases c) x (tally c net.ways i.labels) e (i.chans c h).phase }))

pub stopped : (net : Net) (s t : State) (c : ℕ) → Inv net s → Stops net s c t → Inv net t
stopped net s t c i h =
    let x = s.chans c in
    subst (Inv net) (sym h.after)
    (adjusted net s c i (record x { stopped = true }) refl
    (λ r. record { «open» = λ k. (let e = h.idle in absurd (cc)); phase = stops_phase (net.chan c) (i.phases c) x (tally c net.ways i.labels) (i.chans c r).phase }))
