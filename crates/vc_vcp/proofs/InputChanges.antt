-- What a change of one input is to a node's steps.
use Rattle.std.proofs.Common.{◌≡◌, ℕ, Bool, true, false, List, [], ◌∷◌, ◌++◌, refl, sym, ap, ◌∙◌, subst, slice_get, Option, Some, None, Result, Ok, Err, IfOk}
use Rattle.vc_packets.specs.Functions.{put}
use Rattle.vc_packets.specs.declared.packet.Packet.{Packet}
use Rattle.vc_packets.specs.Spellings.{ack_packet}
use Rattle.vc_blocks.specs.Halves.{load_of, ends_message, with_stored}
use Rattle.vc_blocks.specs.Arrivals.{after_want, want_of, want_by}
use Rattle.vc_blocks.specs.declared.in_half.Want.{Want}
use Rattle.vc_vcp.specs.declared.input.Input.{Input}
use Rattle.vc_vcp.specs.Carrier.{InHalf, set_in, enqueue}
use Rattle.vc_vcp.specs.LinkOut.{Sending}
use Rattle.vc_vcp.specs.Private.Queues.{StaysInput, queued, logged_by, acknowledged_by}
use Rattle.vc_vcp.specs.VcpView.{seen, ends_of, IsKept, carrier_of, in_half, in_end, Inputs, answered, found_by}
use Rattle.vc_vcp.specs.State.{State, HaveOwnNames, IsPieceOf, HoldsFor}
use Rattle.vc_vcp.specs.Steps.{store, accept, message, IsPieceFor, IsOpen, fetches, waits}
use Rattle.vc_vcp.proofs.KeyedLemmas.{by_name-kept}
use Rattle.vc_vcp.proofs.ListWrites.{put_back}
use Rattle.vc_vcp.proofs.EndChanges.{with_input, seen-input, in_at, end_in, queue_at}

abbrev pub log : List (List ℕ) → List ℕ → Bool → List (List ℕ)
log ms m true = ms ++ m ∷ []
log ms m false = ms

stored_half : (x : Input) (load : List ℕ) (last : Bool) → in_half (record x { half = with_stored x.half load last; taken = log x.taken (x.half.stored ++ load) last }) ≡ store (in_half x) load last
stored_half x load true = refl
stored_half x load false = refl

-- a piece is stored, and its acknowledge queued
pub stored_is : (s : State) (i k : ℕ) (x y : Input) (o q : Sending) (load : List ℕ) (last : Bool) → HaveOwnNames s.outputs s.inputs → slice_get s.inputs i ≡ Some x → k ≡ x.link → slice_get s.outs k ≡ Some o →
    y ≡ record x { half = with_stored x.half load last; taken = log x.taken (x.half.stored ++ load) last } → q ≡ queued o (ack_packet x.route) →
    (seen (with_input s i y k q)).carrier ≡ accept (carrier_of s) x.chan (in_end x) load last
stored_is s i k x y o q load last w here along out after queue =
    let at = in_at s i x w here in
    let half : in_half y ≡ store ((carrier_of s).into x.chan) load last = ap in_half after ∙ stored_half x load last ∙ (λ t. store (sym at t) load last) in
    let line : q.queue ≡ (carrier_of s).queue k ++ ack_packet x.route ∷ [] =
    ap (λ z. z.queue) queue ∙ ap (λ z. z ++ ack_packet x.route ∷ []) (sym (queue_at s k o out)) in
    ap (λ z. z.carrier) (seen-input s i k x y o q w here (ap (λ z. z.chan) after) out (ap (λ z. z.sender) queue))
    ∙ (λ t. record (carrier_of s) { queue = put (carrier_of s).queue k (line t); into = put (carrier_of s).into x.chan (half t) })
    ∙ (λ t. enqueue (set_in (carrier_of s) x.chan (store ((carrier_of s).into x.chan) load last)) (along t) (ack_packet x.route))

-- one half is another, and the queue as it was
pub half_is : (s : State) (i k : ℕ) (x y : Input) (o q : Sending) (h : InHalf) → HaveOwnNames s.outputs s.inputs → slice_get s.inputs i ≡ Some x → slice_get s.outs k ≡ Some o → y.chan ≡ x.chan → in_half y ≡ h → q ≡ o →
    (seen (with_input s i y k q)).carrier ≡ set_in (carrier_of s) x.chan h
half_is s i k x y o q h w here out stays half queue =
    ap (λ z. z.carrier) (seen-input s i k x y o q w here stays out (ap (λ z. z.sender) queue))
    ∙ (λ t. record (carrier_of s) {
      queue = put_back (carrier_of s).queue k q.queue (queue_at s k o out ∙ sym (ap (λ z. z.queue) queue)) t;
      into = put (carrier_of s).into x.chan (half t);
    })

pub message_is : (s : State) (i : ℕ) (x : Input) (load : List ℕ) (last : Bool) → HaveOwnNames s.outputs s.inputs → slice_get s.inputs i ≡ Some x → message (in_half x) load last ≡ message ((carrier_of s).into x.chan) load last
message_is s i x load last w here = ap (λ z. message z load last) (sym (in_at s i x w here))

open_is : (s : State) (i : ℕ) (x : Input) → HaveOwnNames s.outputs s.inputs → slice_get s.inputs i ≡ Some x → x.half.wants ≡ false → x.half.stopped ≡ false → IsOpen (ends_of s) (carrier_of s) x.chan (in_end x)
open_is s i x w here idle going = record {
  here = end_in s i x w here;
  idle = ap (λ z. z.wants) (in_at s i x w here) ∙ idle;
  not_stopped = ap (λ z. z.stopped) (in_at s i x w here) ∙ going;
}

pub for_end : (x : Input) (p : Packet) → IsPieceOf x.block p → IsPieceFor (in_end x) p (load_of p) (ends_message p.mark)
for_end x p is = record { body = is.body; kind = is.piece.kind }

-- by what the piece is to its message
fetched : (s : State) (i k : ℕ) (x y : Input) (o q : Sending) (a : Want) (p : Packet) (load : List ℕ) (last : Bool) → HaveOwnNames s.outputs s.inputs → slice_get s.inputs i ≡ Some x → k ≡ x.link → slice_get s.outs k ≡ Some o →
    x.half.wants ≡ false → x.half.stopped ≡ false → x.half.held ≡ Some p → IsPieceFor (in_end x) p load last → a ≡ want_by (x.half.stored ++ load) last →
    y ≡ record x { half = with_stored x.half load last; taken = logged_by x.taken a } → q ≡ acknowledged_by o x.route a → Inputs (ends_of s) (carrier_of s) x.chan a (seen (with_input s i y k q)).carrier
fetched s i k x y o q a p load true w here along out idle going held piece is after queue =
    let at = in_at s i x w here in record {
      end = in_end x;
      may = open_is s i x w here idle going;
      wants = fetches (record {
        packet = p;
        load = load;
        last = true;
        held = ap (λ z. z.held) at ∙ held;
        piece = piece;
        answer_is = ap answered is ∙ message_is s i x load true w here;
        after = stored_is s i k x y o q load true w here along out (after ∙ (λ t. record x { half = with_stored x.half load true; taken = logged_by x.taken (is t) })) (queue ∙ ap (acknowledged_by o x.route) is);
      });
      found = is ∙ sym (ap (λ z. found_by z (answered a)) (ap (λ z. z.held) at ∙ held) ∙ ap (λ z. found_by (Some p) (answered z)) is);
    }
fetched s i k x y o q a p load false w here along out idle going held piece is after queue =
    let at = in_at s i x w here in record {
      end = in_end x;
      may = open_is s i x w here idle going;
      wants = fetches (record {
        packet = p;
        load = load;
        last = false;
        held = ap (λ z. z.held) at ∙ held;
        piece = piece;
        answer_is = ap answered is ∙ message_is s i x load false w here;
        after = stored_is s i k x y o q load false w here along out (after ∙ (λ t. record x { half = with_stored x.half load false; taken = logged_by x.taken (is t) })) (queue ∙ ap (acknowledged_by o x.route) is);
      });
      found = is ∙ sym (ap (λ z. found_by z (answered a)) (ap (λ z. z.held) at ∙ held) ∙ ap (λ z. found_by (Some p) (answered z)) is);
    }

-- a process inputs
inputs_by : (s : State) (i k : ℕ) (x y : Input) (o q : Sending) (a : Want) (h : Option Packet) → HaveOwnNames s.outputs s.inputs → slice_get s.inputs i ≡ Some x → k ≡ x.link → slice_get s.outs k ≡ Some o →
    x.half.wants ≡ false → x.half.stopped ≡ false → x.half.held ≡ h → HoldsFor x.block h → a ≡ want_of x.half h →
    y ≡ record x { half = after_want x.half h; taken = logged_by x.taken a } → q ≡ acknowledged_by o x.route a → Inputs (ends_of s) (carrier_of s) x.chan a (seen (with_input s i y k q)).carrier
inputs_by s i k x y o q a None w here along out idle going held piece is after queue =
    let at = in_at s i x w here in record {
      end = in_end x;
      may = open_is s i x w here idle going;
      wants = waits (ap (λ z. z.held) at ∙ held) (ap answered is)
          (half_is s i k x y o q (record ((carrier_of s).into x.chan) { wants = true }) w here out (ap (λ z. z.chan) after)
          (ap in_half (after ∙ (λ t. record x { half = after_want x.half None; taken = logged_by x.taken (is t) })) ∙ (λ t. record (sym at t) { wants = true }))
          (queue ∙ ap (acknowledged_by o x.route) is));
      found = is ∙ sym (ap (λ z. found_by z (answered a)) (ap (λ z. z.held) at ∙ held));
    }
inputs_by s i k x y o q a (Some p) w here along out idle going held piece is after queue =
    fetched s i k x y o q a p (load_of p) (ends_message p.mark) w here along out idle going held (for_end x p piece) is after queue

pub inputs : (s : State) (i k c : ℕ) (x y : Input) (o q : Sending) (a : Want) → HaveOwnNames s.outputs s.inputs → slice_get s.inputs i ≡ Some x → x.chan ≡ c → k ≡ x.link → slice_get s.outs k ≡ Some o →
    x.half.wants ≡ false → x.half.stopped ≡ false → HoldsFor x.block x.half.held → a ≡ want_of x.half x.half.held →
    y ≡ record x { half = after_want x.half x.half.held; taken = logged_by x.taken a } → q ≡ acknowledged_by o x.route a → Inputs (ends_of s) (carrier_of s) c a (seen (with_input s i y k q)).carrier
inputs s i k c x y o q a w here named along out idle going piece is after queue =
    subst (λ d. Inputs (ends_of s) (carrier_of s) d a (seen (with_input s i y k q)).carrier) named
    (inputs_by s i k x y o q a x.half.held w here along out idle going refl piece is after queue)

pub inputs_ok : (s : State) (i k c : ℕ) (x y : Input) (o q : Sending) {E : Type 0} (r : Result Want E) → HaveOwnNames s.outputs s.inputs → slice_get s.inputs i ≡ Some x → x.chan ≡ c → k ≡ x.link → slice_get s.outs k ≡ Some o →
    x.half.wants ≡ false → x.half.stopped ≡ false → HoldsFor x.block x.half.held → IfOk r (λ a. a ≡ want_of x.half x.half.held) →
    IfOk r (λ a. y ≡ record x { half = after_want x.half x.half.held; taken = logged_by x.taken a }) → IfOk r (λ a. q ≡ acknowledged_by o x.route a) →
    IfOk r (λ a. Inputs (ends_of s) (carrier_of s) c a (seen (with_input s i y k q)).carrier)
inputs_ok s i k c x y o q (Ok a) w here named along out idle going piece is after queue = inputs s i k c x y o q a w here named along out idle going piece is after queue
inputs_ok s i k c x y o q (Err e) w here named along out idle going piece is after queue = is

pub kept-input : (s : State) (i k : ℕ) (x y : Input) (q : Sending) → HaveOwnNames s.outputs s.inputs → slice_get s.inputs i ≡ Some x → StaysInput x y → IsKept s (with_input s i y k q)
kept-input s i k x y q w here stays = record {
  ends = (λ t. record (ends_of s) {
    input = by_name-kept (λ x. x.chan) (λ x. Some (in_end x)) None s.inputs i x y w.in_chans here stays.chan
        (λ j. Some (record { link = stays.link j; block = stays.block j; route = stays.route j })) t;
  });
  limit = refl;
}
