-- What a packet that arrives changes, whatever else the node has.
use Rattle.std.proofs.Common.{◌≡◌, ℕ, List, ◌++◌, drop, take, length, sym, subst, slice_get, slice_set, Some}
use Rattle.std.proofs.lemmas.List.{take_at}
use Rattle.vc_packets.specs.declared.packet.Packet.{Packet}
use Rattle.vc_vcp.specs.Private.Bound.{Stays, StaysWith, ArrivesWith, with_inputs}
use Rattle.vc_vcp.specs.declared.input.Input.{Input}
use Rattle.vc_vcp.specs.LinkOut.{Sending}
use Rattle.vc_vcp.specs.Private.Queues.{StaysInput}
use Rattle.vc_vcp.specs.VcpView.{ends_of, carrier_of}
use Rattle.vc_vcp.specs.State.{State, IsWired, IsInput}
use Rattle.vc_vcp.specs.Steps.{Taken, Arrives}
use Rattle.vc_vcp.proofs.InputChanges.{kept-input}
use Rattle.vc_vcp.proofs.EndChanges.{with_input, links-input}
use Rattle.vc_vcp.proofs.Preservation.{wired-input, wired-outs}

-- one input and one queue change
pub stays-input : (s : State) (i k : ℕ) (x y : Input) (o q : Sending) → IsWired s → slice_get s.inputs i ≡ Some x → slice_get s.outs k ≡ Some o → StaysInput x y → IsInput y → q.sender ≡ o.sender → Stays s (with_input s i y k q)
stays-input s i k x y o q w here out stays is same = record {
  wired = wired-outs (record s { inputs = slice_set s.inputs i y }) k q (wired-input s i x y w here stays is);
  kept = kept-input s i k x y q w.names here stays;
  links = links-input s i k y o q out same;
}

-- a list that is written over
abbrev pub written : {X : Type 0} → List X → List X → ℕ → List X
written xs new n = take n (new ++ drop (length new) xs)

written_is : {X : Type 0} (xs new : List X) (n : ℕ) → length new ≡ n → new ≡ written xs new n
written_is xs new n long = sym (take_at new (drop (length new) xs) n long)

-- a fact on inputs and sending ends before and after, of those that a node has
along : (P : List Input → List Sending → List Input → List Sending → Type 0) (s : State) (a : List Input) (b : List Sending) (c : List Input) (d : List Sending) (n m : ℕ) → a ≡ s.inputs → b ≡ s.outs → length c ≡ n → length d ≡ m →
    P a b c d → P s.inputs s.outs (written s.inputs c n) (written s.outs d m)
along P s a b c d n m p q r t is =
    subst (λ z. P s.inputs s.outs (written s.inputs c n) z) (written_is s.outs d m t)
    (subst (λ z. P s.inputs s.outs z d) (written_is s.inputs c n r) (subst (λ z. P s.inputs z c d) q (subst (λ z. P z b c d) p is)))

pub stays-written : (s : State) (a : List Input) (b : List Sending) (c : List Input) (d : List Sending) (n m : ℕ) → a ≡ s.inputs → b ≡ s.outs → length c ≡ n → length d ≡ m → IsWired s →
    StaysWith a b c d → Stays s (with_inputs s (written s.inputs c n) (written s.outs d m))
stays-written s a b c d n m p q r t w stays = along StaysWith s a b c d n m p q r t stays s w

pub arrives-written : (s : State) (a : List Input) (b : List Sending) (c : List Input) (d : List Sending) (n m : ℕ) (body : List ℕ) (p : Packet) (taken : Taken) → a ≡ s.inputs → b ≡ s.outs → length c ≡ n → length d ≡ m → IsWired s →
    body ≡ p.body → ArrivesWith a b (record { body = body; mark = p.mark }) taken c d → Arrives (ends_of s) (carrier_of s) p taken (carrier_of (with_inputs s (written s.inputs c n) (written s.outs d m)))
arrives-written s a b c d n m body p taken e f g h w same arrives =
    subst (λ z. Arrives (ends_of s) (carrier_of s) (record { body = z; mark = p.mark }) taken (carrier_of (with_inputs s (written s.inputs c n) (written s.outs d m)))) same
    (along (λ i j k l. ArrivesWith i j (record { body = body; mark = p.mark }) taken k l) s a b c d n m e f g h arrives s w)
