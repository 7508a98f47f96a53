-- What a packet that a half takes is to a node's steps.
use Rattle.std.proofs.Common.{◌≡◌, ℕ, suc, ◌-◌, Bool, true, false, List, [], ◌∷◌, ◌++◌, length, refl, sym, ap, ◌∙◌, subst, arith, slice_get, Some, None}
use Rattle.vc_packets.specs.Functions.{put}
use Rattle.vc_packets.specs.declared.packet.Packet.{Packet}
use Rattle.vc_packets.specs.Spellings.{piece_packet}
use Rattle.vc_blocks.specs.Acknowledges.{later_than, advanced}
use Rattle.vc_blocks.specs.Halves.{load_of, ends_message, with_stored}
use Rattle.vc_blocks.specs.Arrivals.{after_arrival, arrival_of, arrival_by}
use Rattle.vc_blocks.specs.declared.in_half.Arrival.{Arrival}
use Rattle.vc_blocks.specs.declared.out_half.Advance.{Advance}
use Rattle.vc_vcp.specs.declared.output.Output.{Output}
use Rattle.vc_vcp.specs.declared.input.Input.{Input}
use Rattle.vc_vcp.specs.Carrier.{OutHalf, set_out, enqueue}
use Rattle.vc_vcp.specs.LinkOut.{Sending}
use Rattle.vc_vcp.specs.Private.Queues.{queued_next, logged, acknowledged}
use Rattle.vc_vcp.specs.VcpView.{ends_of, carrier_of, in_half, out_half, in_end, out_end, finished_of}
use Rattle.vc_vcp.specs.Private.VcpView.{advance_told, arrival_told, Acks}
use Rattle.vc_vcp.specs.State.{State, HaveOwnNames, IsPieceOf}
use Rattle.vc_vcp.specs.Steps.{advance, IsTaken, stores, holds, advances, IsPieceFor, Taken, taken_by, acked_by, Arrives, takes}
use Rattle.vc_vcp.proofs.InputChanges.{stored_is, half_is, message_is, for_end}
use Rattle.vc_vcp.proofs.ListWrites.{put_back}
use Rattle.vc_vcp.proofs.EndChanges.{with_output, with_input, seen-output, out_at, in_at, end_out, end_in, queue_at}

-- An acknowledge.

one_finished : (n : ℕ) (ms : List (List ℕ)) → (ms ≡ [] → ⊥) → length ms ≡ suc (length ms - 1)
one_finished n [] some = absurd (some refl)
one_finished n (m ∷ ms) some = omega arith

-- the half behind it
advanced_half : (x : Output) (now : List ℕ) (later : List (List ℕ)) → x.half.unacked ≡ now ∷ later → (x.offered ≡ [] → x.half.unacked ≡ []) → (h : OutHalf) → h ≡ out_half x →
    out_half (record x { half = record x.half { unacked = [] } }) ≡ record h { unacked = []; finished = suc h.finished }
advanced_half x now later busy some h is =
    let most : length x.offered ≡ suc (finished_of x.half.unacked x.offered) =
    one_finished 0 x.offered (λ none. (let e : now ∷ later ≡ [] = sym busy ∙ some none in absurd (cc))) ∙ ap suc (sym (ap (λ z. finished_of z x.offered) busy)) in
    (λ t. record { unacked = []; offered = x.offered; finished = most t }) ∙ (λ t. record (sym is t) { unacked = []; finished = suc (sym is t).finished })

going_half : (x : Output) (now d : List ℕ) (later : List (List ℕ)) → x.half.unacked ≡ now ∷ d ∷ later → (h : OutHalf) → h ≡ out_half x →
    out_half (record x { half = record x.half { unacked = d ∷ later } }) ≡ record h { unacked = d ∷ later }
going_half x now d later busy h is =
    (λ t. record { unacked = d ∷ later; offered = x.offered; finished = sym (ap (λ z. finished_of z x.offered) busy) t }) ∙ (λ t. record (sym is t) { unacked = d ∷ later })

advance_is : (s : State) (i k : ℕ) (x y : Output) (o q : Sending) (now : List ℕ) (later : List (List ℕ)) → HaveOwnNames s.outputs s.inputs → slice_get s.outputs i ≡ Some x → k ≡ x.link → slice_get s.outs k ≡ Some o →
    x.half.unacked ≡ now ∷ later → (x.offered ≡ [] → x.half.unacked ≡ []) → y ≡ record x { half = record x.half { unacked = later } } → q ≡ queued_next o x.half.route later →
    carrier_of (with_output s i y k q) ≡ advance (carrier_of s) x.chan (out_end x) later
advance_is s i k x y o q now [] w here along out busy some after queue =
    let half = ap out_half after ∙ advanced_half x now [] busy some ((carrier_of s).out x.chan) (out_at s i x w here) in
    ap (λ z. z.carrier) (seen-output s i k x y o q w here (ap (λ z. z.chan) after) out (ap (λ z. z.sender) queue))
    ∙ (λ t. record (carrier_of s) {
      queue = put_back (carrier_of s).queue k q.queue (queue_at s k o out ∙ sym (ap (λ z. z.queue) queue)) t;
      out = put (carrier_of s).out x.chan (half t);
    })
advance_is s i k x y o q now (d ∷ later) w here along out busy some after queue =
    let half = ap out_half after ∙ going_half x now d later busy ((carrier_of s).out x.chan) (out_at s i x w here) in
    let line : q.queue ≡ (carrier_of s).queue k ++ piece_packet x.half.route (d ∷ later) ∷ [] =
    ap (λ z. z.queue) queue ∙ ap (λ z. z ++ piece_packet x.half.route (d ∷ later) ∷ []) (sym (queue_at s k o out)) in
    ap (λ z. z.carrier) (seen-output s i k x y o q w here (ap (λ z. z.chan) after) out (ap (λ z. z.sender) queue))
    ∙ (λ t. record (carrier_of s) { queue = put (carrier_of s).queue k (line t); out = put (carrier_of s).out x.chan (half t) })
    ∙ (λ t. enqueue (set_out (carrier_of s) x.chan (record ((carrier_of s).out x.chan) { unacked = d ∷ later })) (along t) (piece_packet x.half.route (d ∷ later)))

ack_told : (c : ℕ) (later : List (List ℕ)) → advance_told c (advanced later) ≡ acked_by c later
ack_told c [] = refl
ack_told c (d ∷ later) = refl

acks_with : (s : State) (i k : ℕ) (x y : Output) (o q : Sending) (a : Advance) (t : Taken) (u : List (List ℕ)) → HaveOwnNames s.outputs s.inputs → slice_get s.outputs i ≡ Some x → k ≡ x.link → slice_get s.outs k ≡ Some o →
    x.half.unacked ≡ u → (u ≡ [] → ⊥) → (x.offered ≡ [] → x.half.unacked ≡ []) → a ≡ advanced (later_than u) → y ≡ record x { half = record x.half { unacked = later_than u } } → q ≡ queued_next o x.half.route (later_than u) →
    t ≡ advance_told x.chan a → Acks s x.block t (with_output s i y k q)
acks_with s i k x y o q a t [] w here along out busy some offered is after queue told p ack = absurd (some refl)
acks_with s i k x y o q a t (now ∷ later) w here along out busy some offered is after queue told p ack =
    takes (advances x.chan (out_end x) now later (end_out s i x w here) (record { body = ack.body; kind = ack.kind }) (ap (λ z. z.unacked) (out_at s i x w here) ∙ busy)
    (told ∙ ap (advance_told x.chan) is ∙ ack_told x.chan later) (advance_is s i k x y o q now later w here along out busy offered after queue))

pub acks_ok : (s : State) (i k b : ℕ) (x y : Output) (o q : Sending) (a : Advance) (t : Taken) → HaveOwnNames s.outputs s.inputs → slice_get s.outputs i ≡ Some x → x.block ≡ b → k ≡ x.link → slice_get s.outs k ≡ Some o →
    (x.half.unacked ≡ [] → ⊥) → (x.offered ≡ [] → x.half.unacked ≡ []) → a ≡ advanced (later_than x.half.unacked) → y ≡ record x { half = record x.half { unacked = later_than x.half.unacked } } →
    q ≡ queued_next o x.half.route (later_than x.half.unacked) → t ≡ advance_told x.chan a → Acks s b t (with_output s i y k q)
acks_ok s i k b x y o q a t w here block along out some offered is after queue told =
    subst (λ z. Acks s z t (with_output s i y k q)) block (acks_with s i k x y o q a t x.half.unacked w here along out refl some offered is after queue told)

-- A piece.

-- by what the piece is to its message
stores_with : (s : State) (i k : ℕ) (x y : Input) (o q : Sending) (a : Arrival) (t : Taken) (p : Packet) (load : List ℕ) (last : Bool) → HaveOwnNames s.outputs s.inputs → slice_get s.inputs i ≡ Some x → k ≡ x.link → slice_get s.outs k ≡ Some o →
    x.half.wants ≡ true → IsPieceFor (in_end x) p load last → a ≡ arrival_by (x.half.stored ++ load) last → y ≡ record x { half = with_stored x.half load last; taken = logged x.taken a } → q ≡ acknowledged o x.route a →
    t ≡ arrival_told x.chan a → IsTaken (ends_of s) (carrier_of s) p t (carrier_of (with_input s i y k q))
stores_with s i k x y o q a t p load true w here along out wants piece is after queue told =
    stores x.chan (in_end x) load true (end_in s i x w here) piece (ap (λ z. z.wants) (in_at s i x w here) ∙ wants)
    (told ∙ ap (arrival_told x.chan) is ∙ ap (taken_by x.chan) (message_is s i x load true w here))
    (stored_is s i k x y o q load true w here along out (after ∙ (λ j. record x { half = with_stored x.half load true; taken = logged x.taken (is j) })) (queue ∙ ap (acknowledged o x.route) is))
stores_with s i k x y o q a t p load false w here along out wants piece is after queue told =
    stores x.chan (in_end x) load false (end_in s i x w here) piece (ap (λ z. z.wants) (in_at s i x w here) ∙ wants)
    (told ∙ ap (arrival_told x.chan) is ∙ ap (taken_by x.chan) (message_is s i x load false w here))
    (stored_is s i k x y o q load false w here along out (after ∙ (λ j. record x { half = with_stored x.half load false; taken = logged x.taken (is j) })) (queue ∙ ap (acknowledged o x.route) is))

arrives_by : (s : State) (i k : ℕ) (x y : Input) (o q : Sending) (a : Arrival) (t : Taken) (p : Packet) (wants : Bool) → HaveOwnNames s.outputs s.inputs → slice_get s.inputs i ≡ Some x → k ≡ x.link → slice_get s.outs k ≡ Some o →
    x.half.wants ≡ wants → x.half.held ≡ None → IsPieceOf x.block p → a ≡ arrival_of x.half p wants → y ≡ record x { half = after_arrival x.half p wants; taken = logged x.taken a } → q ≡ acknowledged o x.route a →
    t ≡ arrival_told x.chan a → IsTaken (ends_of s) (carrier_of s) p t (carrier_of (with_input s i y k q))
arrives_by s i k x y o q a t p true w here along out wants empty piece is after queue told =
    stores_with s i k x y o q a t p (load_of p) (ends_message p.mark) w here along out wants (for_end x p piece) is after queue told
arrives_by s i k x y o q a t p false w here along out wants empty piece is after queue told =
    let at = in_at s i x w here in
    holds x.chan (in_end x) (load_of p) (ends_message p.mark) (end_in s i x w here) (for_end x p piece) (ap (λ z. z.wants) at ∙ wants) (ap (λ z. z.held) at ∙ empty)
    (told ∙ ap (arrival_told x.chan) is)
    (half_is s i k x y o q (record ((carrier_of s).into x.chan) { held = Some p }) w here out (ap (λ z. z.chan) after)
    (ap in_half (after ∙ (λ j. record x { half = after_arrival x.half p false; taken = logged x.taken (is j) })) ∙ (λ j. record (sym at j) { held = Some p }))
    (queue ∙ ap (acknowledged o x.route) is))

pub arrives_ok : (s : State) (i k : ℕ) (x y : Input) (o q : Sending) (a : Arrival) (t : Taken) (p : Packet) → HaveOwnNames s.outputs s.inputs → slice_get s.inputs i ≡ Some x → k ≡ x.link → slice_get s.outs k ≡ Some o →
    x.half.held ≡ None → IsPieceOf x.block p → a ≡ arrival_of x.half p x.half.wants → y ≡ record x { half = after_arrival x.half p x.half.wants; taken = logged x.taken a } → q ≡ acknowledged o x.route a →
    t ≡ arrival_told x.chan a → Arrives (ends_of s) (carrier_of s) p t (carrier_of (with_input s i y k q))
arrives_ok s i k x y o q a t p w here along out empty piece is after queue told =
    takes (arrives_by s i k x y o q a t p x.half.wants w here along out refl empty piece is after queue told)
