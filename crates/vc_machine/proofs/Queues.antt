-- What nodes do adds to the ends of the send queues only.
use Rattle.std.proofs.Common.{◌≡◌, ℕ, List, [], ◌∷◌, ◌++◌, refl, sym, ap, subst, ◌∙◌}
use Rattle.vc_packets.specs.declared.packet.Packet.{Packet}
use Rattle.vc_machine.specs.Paths.{Net}
use Rattle.vc_machine.specs.Machine.{State, WayState, enqueue, advance, Event, Offer, Want, Choose, Stop, IsTaken, stores, holds, advances, Reaches, taken, stray, fetches, waits, Step}
use Rattle.vc_machine.specs.TokenMachine.{IsProc}
use Rattle.vc_machine.proofs.Update.{every_put}

-- no front of a queue goes
pub record Grown (s v : State) : Type 0 where
  pub front : (w : ℕ) (p : Packet) (rest : List Packet) → (s.ways w).queue ≡ p ∷ rest → (more : List Packet) × ((v.ways w).queue ≡ p ∷ more)

same_queues : (s v : State) → v.ways ≡ s.ways → Grown s v
same_queues s v e = record { front = λ w p rest h. (rest, ap (λ (f : ℕ → WayState). (f w).queue) e ∙ h) }

queued : (s v : State) (w : ℕ) (p : Packet) → v.ways ≡ s.ways → Grown s (enqueue v w p)
queued s v w p e =
    record {
      front = every_put (λ j x. (q : Packet) (rest : List Packet) → (s.ways j).queue ≡ q ∷ rest → (more : List Packet) × (x.queue ≡ q ∷ more)) v.ways w
          (record (v.ways w) { queue = (v.ways w).queue ++ p ∷ [] })
          (λ q rest h. (rest ++ p ∷ [], ap (λ k. k ++ p ∷ []) (ap (λ (f : ℕ → WayState). (f w).queue) e ∙ h)))
          (λ j q rest h. (rest, ap (λ (f : ℕ → WayState). (f j).queue) e ∙ h));
    }

advance_grown : (net : Net) (s : State) (c : ℕ) (later : List (List ℕ)) → Grown s (advance net s c later)
advance_grown net s c [] = same_queues s _ refl
advance_grown net s c (d ∷ later) = queued s _ _ _ refl

taken_grown : (net : Net) (s : State) (n : ℕ) (p : Packet) (v : State) → IsTaken net s n p v → Grown s v
taken_grown net s n p v (stores c load last piece wants after) = subst (Grown s) (sym after) (queued s _ _ _ refl)
taken_grown net s n p v (holds c load last piece wants held after) = subst (Grown s) (sym after) (same_queues s _ refl)
taken_grown net s n p v (advances c now later ack unacked after) = subst (Grown s) (sym after) (advance_grown net s c later)

pub reaches_grown : (net : Net) (s : State) (n : ℕ) (p : Packet) (v : State) → Reaches net s n p v → Grown s v
reaches_grown net s n p v (taken h) = taken_grown net s n p v h
reaches_grown net s n p v (stray alone after) = subst (Grown s) (sym after) (same_queues s _ refl)

pub proc_grown : (net : Net) (s : State) (e : Event) (v : State) → IsProc e → Step net s e v → Grown s v
proc_grown net s (Offer c m) v i h = subst (Grown s) (sym h.after) (queued s _ _ _ refl)
proc_grown net s (Want c) v i (open_is, fetches h) = subst (Grown s) (sym h.after) (queued s _ _ _ refl)
proc_grown net s (Want c) v i (open_is, waits held after) = subst (Grown s) (sym after) (same_queues s _ refl)
proc_grown net s (Choose c) v i h = subst (Grown s) (sym h.1.after) (queued s _ _ _ refl)
proc_grown net s (Stop c) v i h = subst (Grown s) (sym h.after) (same_queues s _ refl)
proc_grown net s d v i h = absurd i
