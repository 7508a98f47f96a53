-- What nodes do takes no account of what is on the ways and in the switches.
use Rattle.std.proofs.Common.{◌≡◌, ℕ, suc, Bool, true, List, [], ◌∷◌, ◌++◌, refl, sym, ap, subst, ◌∙◌, Option}
use Rattle.vc_packets.specs.declared.packet.Packet.{Packet}
use Rattle.vc_machine.specs.Paths.{Net}
use Rattle.vc_machine.specs.Machine.{State, ChanState, enqueue, set_chan, store, accept, advance, Event, Offer, Want, Choose, Stop, IsTaken, stores, holds, advances, Reaches, taken, stray, Offers, Fetches, Wants, fetches, waits, IsOpen, Stops, Step}
use Rattle.vc_packets.specs.Functions.{put}
use Rattle.vc_machine.specs.TokenMachine.{IsProc}
use Rattle.vc_machine.proofs.Update.{every_put, every_put₂}

pub record SameNodes (t s : State) : Type 0 where
  pub queues : (w : ℕ) → (s.ways w).queue ≡ (t.ways w).queue
  pub chans : s.chans ≡ t.chans
  pub strays : s.strays ≡ t.strays
  pub lost : s.lost ≡ t.lost

pub record SameWays (s v : State) : Type 0 where
  pub lines : (w : ℕ) → (v.ways w).line ≡ (s.ways w).line
  pub inputs : (w : ℕ) → (v.ways w).input ≡ (s.ways w).input

-- from s, too, there is such a step, to nodes like those of u
pub record Framed (s u : State) (R : State → Type 0) : Type 0 where
  pub after : State
  pub step : R after
  pub nodes : SameNodes u after
  pub ways : SameWays s after

pub turned : (t s : State) → SameNodes t s → SameNodes s t
turned t s a = record { queues = λ w. sym (a.queues w); chans = sym a.chans; strays = sym a.strays; lost = sym a.lost }

enqueued_nodes : (t s : State) (w : ℕ) (p : Packet) → SameNodes t s → SameNodes (enqueue t w p) (enqueue s w p)
enqueued_nodes t s w p a =
    record {
      queues = every_put₂ (λ j x y. y.queue ≡ x.queue) t.ways s.ways w _ _ (ap (λ q. q ++ p ∷ []) (a.queues w)) a.queues;
      chans = a.chans;
      strays = a.strays;
      lost = a.lost;
    }

enqueued_ways : (s v : State) (w : ℕ) (p : Packet) → SameWays s v → SameWays s (enqueue v w p)
enqueued_ways s v w p a =
    record {
      lines = every_put (λ j x. x.line ≡ (s.ways j).line) v.ways w _ (a.lines w) a.lines;
      inputs = every_put (λ j x. x.input ≡ (s.ways j).input) v.ways w _ (a.inputs w) a.inputs;
    }

-- a channel's halves changed alike
changed_nodes : (t s : State) (c : ℕ) (f : ChanState → ChanState) → SameNodes t s → SameNodes (set_chan t c (f (t.chans c))) (set_chan s c (f (s.chans c)))
changed_nodes t s c f a = record { queues = a.queues; chans = ap (λ g. put g c (f (g c))) a.chans; strays = a.strays; lost = a.lost }

changed_ways : (s : State) (c : ℕ) (x : ChanState) → SameWays s (set_chan s c x)
changed_ways s c x = record { lines = λ w. refl; inputs = λ w. refl }

accepted_nodes : (net : Net) (t s : State) (c : ℕ) (load : List ℕ) (last : Bool) → SameNodes t s → SameNodes (accept net t c load last) (accept net s c load last)
accepted_nodes net t s c load last a = enqueued_nodes _ _ _ _ (changed_nodes t s c (λ x. store x load last) a)

accepted_ways : (net : Net) (s : State) (c : ℕ) (load : List ℕ) (last : Bool) → SameWays s (accept net s c load last)
accepted_ways net s c load last = enqueued_ways s _ _ _ (changed_ways s c (store (s.chans c) load last))

advanced_nodes : (net : Net) (t s : State) (c : ℕ) (later : List (List ℕ)) → SameNodes t s → SameNodes (advance net t c later) (advance net s c later)
advanced_nodes net t s c [] a = changed_nodes t s c (λ x. record x { unacked = []; finished = suc x.finished }) a
advanced_nodes net t s c (d ∷ later) a = enqueued_nodes _ _ _ _ (changed_nodes t s c (λ x. record x { unacked = d ∷ later }) a)

advanced_ways : (net : Net) (s : State) (c : ℕ) (later : List (List ℕ)) → SameWays s (advance net s c later)
advanced_ways net s c [] = changed_ways s c _
advanced_ways net s c (d ∷ later) = enqueued_ways s _ _ _ (changed_ways s c _)

-- a step of a channel's halves from t, and that from s to the state v
framed : (s u u' v : State) (R : State → Type 0) → u ≡ u' → R v → SameNodes u' v → SameWays s v → Framed s u R
framed s u u' v R e step nodes ways = record { after = v; step = step; nodes = subst (λ k. SameNodes k v) (sym e) nodes; ways = ways }

pub taken_alike : (net : Net) (t s u : State) (n : ℕ) (p : Packet) → SameNodes t s → IsTaken net t n p u → Framed s u (IsTaken net s n p)
taken_alike net t s u n p a (stores c load last piece wants after) =
    framed s u _ (accept net s c load last) (IsTaken net s n p) after
    (stores c load last piece (ap (λ f. (f c).wants) a.chans ∙ wants) refl) (accepted_nodes net t s c load last a) (accepted_ways net s c load last)
taken_alike net t s u n p a (holds c load last piece wants held after) =
    framed s u _ (set_chan s c (record (s.chans c) { held = Option.Some p })) (IsTaken net s n p) after
    (holds c load last piece (ap (λ f. (f c).wants) a.chans ∙ wants) (ap (λ f. (f c).held) a.chans ∙ held) refl)
    (changed_nodes t s c (λ x. record x { held = Option.Some p }) a) (changed_ways s c _)
taken_alike net t s u n p a (advances c now later ack unacked after) =
    framed s u _ (advance net s c later) (IsTaken net s n p) after
    (advances c now later ack (ap (λ f. (f c).unacked) a.chans ∙ unacked) refl) (advanced_nodes net t s c later a) (advanced_ways net s c later)

pub reaches_alike : (net : Net) (t s u : State) (n : ℕ) (p : Packet) → SameNodes t s → Reaches net t n p u → Framed s u (Reaches net s n p)
reaches_alike net t s u n p a (taken h) =
    let f = taken_alike net t s u n p a h in
    record { after = f.after; step = taken f.step; nodes = f.nodes; ways = f.ways }
reaches_alike net t s u n p a (stray none after) =
    framed s u _ (record s { strays = suc s.strays }) (Reaches net s n p) after
    (stray (λ v h. none _ (taken_alike net s t v n p (turned t s a) h).step) refl)
    (record { queues = a.queues; chans = a.chans; strays = ap suc a.strays; lost = a.lost })
    (record { lines = λ w. refl; inputs = λ w. refl })

offers_alike : (net : Net) (t s u : State) (c : ℕ) (m : List ℕ) → SameNodes t s → Offers net t c m u → Framed s u (Offers net s c m)
offers_alike net t s u c m a h =
    framed s u _ _ (Offers net s c m) h.after
    (record { now = h.now; later = h.later; real = h.real; idle = ap (λ f. (f c).unacked) a.chans ∙ h.idle; pieces = h.pieces; after = refl })
    (enqueued_nodes _ _ _ _ (changed_nodes t s c (λ x. record x { unacked = h.now ∷ h.later; offered = x.offered ++ m ∷ [] }) a))
    (enqueued_ways s _ _ _ (changed_ways s c _))

fetches_alike : (net : Net) (t s u : State) (c : ℕ) → SameNodes t s → Fetches net t c u → Framed s u (Fetches net s c)
fetches_alike net t s u c a h =
    framed s u _ (accept net s c h.load h.last) (Fetches net s c) h.after
    (record { packet = h.packet; load = h.load; last = h.last; held = ap (λ f. (f c).held) a.chans ∙ h.held; piece = h.piece; after = refl })
    (accepted_nodes net t s c h.load h.last a) (accepted_ways net s c h.load h.last)

wants_alike : (net : Net) (t s u : State) (c : ℕ) → SameNodes t s → Wants net t c u → Framed s u (Wants net s c)
wants_alike net t s u c a (fetches h) =
    let f = fetches_alike net t s u c a h in
    record { after = f.after; step = fetches f.step; nodes = f.nodes; ways = f.ways }
wants_alike net t s u c a (waits held after) =
    framed s u _ (set_chan s c (record (s.chans c) { wants = true })) (Wants net s c) after
    (waits (ap (λ f. (f c).held) a.chans ∙ held) refl)
    (changed_nodes t s c (λ x. record x { wants = true }) a) (changed_ways s c _)

open_alike : (net : Net) (t s : State) (c : ℕ) → SameNodes t s → IsOpen net t c → IsOpen net s c
open_alike net t s c a h =
    record { real = h.real; idle = ap (λ f. (f c).wants) a.chans ∙ h.idle; not_stopped = ap (λ f. (f c).stopped) a.chans ∙ h.not_stopped }

pub proc_alike : (net : Net) (t s u : State) (e : Event) → SameNodes t s → IsProc e → Step net t e u → Framed s u (Step net s e)
proc_alike net t s u (Offer c m) a i h = offers_alike net t s u c m a h
proc_alike net t s u (Want c) a i h =
    let f = wants_alike net t s u c a h.1 in
    record { after = f.after; step = (open_alike net t s c a h.0, f.step); nodes = f.nodes; ways = f.ways }
proc_alike net t s u (Choose c) a i h =
    let f = fetches_alike net t s u c a h.1 in
    record { after = f.after; step = (open_alike net t s c a h.0, f.step); nodes = f.nodes; ways = f.ways }
proc_alike net t s u (Stop c) a i h =
    framed s u _ (set_chan s c (record (s.chans c) { stopped = true })) (Stops net s c) h.after
    (record { real = h.real; idle = ap (λ f. (f c).wants) a.chans ∙ h.idle; after = refl })
    (changed_nodes t s c (λ x. record x { stopped = true }) a) (changed_ways s c _)
proc_alike net t s u d a i h = absurd i
