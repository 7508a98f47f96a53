-- What a change of one output or one input is to a node's steps.
use Rattle.std.proofs.Common.{◌≡◌, ℕ, ◌-◌, List, [], ◌∷◌, ◌++◌, refl, sym, ap, ◌∙◌, subst, arith, slice_get, slice_set, length, length-append, Some, None}
use Rattle.std.proofs.lemmas.Option.{slice_get_within}
use Rattle.vc_packets.specs.Functions.{put, shown_or}
use Rattle.vc_packets.specs.Pieces.{Pieces}
use Rattle.vc_packets.specs.Spellings.{piece_packet}
use Rattle.vc_credit.specs.Ends.{new_sender}
use Rattle.vc_vcp.specs.declared.output.Output.{Output}
use Rattle.vc_vcp.specs.declared.input.Input.{Input}
use Rattle.vc_vcp.specs.Carrier.{set_out, enqueue}
use Rattle.vc_vcp.specs.LinkOut.{Sending}
use Rattle.vc_vcp.specs.Private.Queues.{Begins, StaysOutput, queued}
use Rattle.vc_vcp.specs.VcpView.{seen, ends_of, IsKept, link_of, carrier_of, out_half, in_half, no_output, no_input, out_end, in_end, finished_of}
use Rattle.vc_vcp.specs.State.{State, HaveOwnNames}
use Rattle.vc_vcp.specs.Steps.{Offers}
use Rattle.vc_vcp.proofs.KeyedLemmas.{by_name-set, by_name-kept, by_name-at}
use Rattle.vc_vcp.proofs.ListWrites.{put_back, set_back, by_place-set}
use Rattle.vc_vcp.proofs.ListChanges.{link-out}

abbrev pub with_output : State → ℕ → Output → ℕ → Sending → State
with_output s i y k q = record s { outputs = slice_set s.outputs i y; outs = slice_set s.outs k q }

abbrev pub with_input : State → ℕ → Input → ℕ → Sending → State
with_input s i y k q = record s { inputs = slice_set s.inputs i y; outs = slice_set s.outs k q }

links_stay : (s : State) (k : ℕ) (o q : Sending) → slice_get s.outs k ≡ Some o → q.sender ≡ o.sender → link_of (record s { outs = slice_set s.outs k q }) ≡ link_of s
links_stay s k o q here same =
    link-out s k q (slice_get_within s.outs k o here)
    ∙ put_back (link_of s) k (record (link_of s k) { sender = q.sender }) (λ i. record (link_of s k) { sender = (ap (shown_or new_sender (λ x. x.sender)) here ∙ sym same) i })

pub seen-output : (s : State) (i k : ℕ) (x y : Output) (o q : Sending) → HaveOwnNames s.outputs s.inputs → slice_get s.outputs i ≡ Some x → y.chan ≡ x.chan → slice_get s.outs k ≡ Some o → q.sender ≡ o.sender →
    seen (with_output s i y k q) ≡ record { carrier = record (carrier_of s) { queue = put (carrier_of s).queue k q.queue; out = put (carrier_of s).out x.chan (out_half y) }; link = link_of s }
seen-output s i k x y o q w here stays out same = λ t. record {
  carrier = record (carrier_of s) {
    queue = by_place-set (λ x. x.queue) [] s.outs k q (slice_get_within s.outs k o out) t;
    out = by_name-set (λ x. x.chan) out_half no_output s.outputs i x y w.out_chans here stays t;
  };
  link = links_stay s k o q out same t;
}

pub seen-input : (s : State) (i k : ℕ) (x y : Input) (o q : Sending) → HaveOwnNames s.outputs s.inputs → slice_get s.inputs i ≡ Some x → y.chan ≡ x.chan → slice_get s.outs k ≡ Some o → q.sender ≡ o.sender →
    seen (with_input s i y k q) ≡ record { carrier = record (carrier_of s) { queue = put (carrier_of s).queue k q.queue; into = put (carrier_of s).into x.chan (in_half y) }; link = link_of s }
seen-input s i k x y o q w here stays out same = λ t. record {
  carrier = record (carrier_of s) {
    queue = by_place-set (λ x. x.queue) [] s.outs k q (slice_get_within s.outs k o out) t;
    into = by_name-set (λ x. x.chan) in_half no_input s.inputs i x y w.in_chans here stays t;
  };
  link = links_stay s k o q out same t;
}

-- the ends and the limit stay
pub kept-output : (s : State) (i k : ℕ) (x y : Output) (q : Sending) → HaveOwnNames s.outputs s.inputs → slice_get s.outputs i ≡ Some x → StaysOutput x y → IsKept s (with_output s i y k q)
kept-output s i k x y q w here stays = record {
  ends = (λ t. record (ends_of s) {
    output = by_name-kept (λ x. x.chan) (λ x. Some (out_end x)) None s.outputs i x y w.out_chans here stays.chan
        (λ j. Some (record { link = stays.link j; block = stays.block j; route = stays.route j })) t;
  });
  limit = refl;
}

-- what stands at a place, by its name
pub out_at : (s : State) (i : ℕ) (x : Output) → HaveOwnNames s.outputs s.inputs → slice_get s.outputs i ≡ Some x → (carrier_of s).out x.chan ≡ out_half x
out_at s i x w here = by_name-at (λ x. x.chan) out_half no_output s.outputs i x w.out_chans here

pub in_at : (s : State) (i : ℕ) (x : Input) → HaveOwnNames s.outputs s.inputs → slice_get s.inputs i ≡ Some x → (carrier_of s).into x.chan ≡ in_half x
in_at s i x w here = by_name-at (λ x. x.chan) in_half no_input s.inputs i x w.in_chans here

pub end_out : (s : State) (i : ℕ) (x : Output) → HaveOwnNames s.outputs s.inputs → slice_get s.outputs i ≡ Some x → (ends_of s).output x.chan ≡ Some (out_end x)
end_out s i x w here = by_name-at (λ x. x.chan) (λ x. Some (out_end x)) None s.outputs i x w.out_chans here

pub end_in : (s : State) (i : ℕ) (x : Input) → HaveOwnNames s.outputs s.inputs → slice_get s.inputs i ≡ Some x → (ends_of s).input x.chan ≡ Some (in_end x)
end_in s i x w here = by_name-at (λ x. x.chan) (λ x. Some (in_end x)) None s.inputs i x w.in_chans here

pub queue_at : (s : State) (k : ℕ) (o : Sending) → slice_get s.outs k ≡ Some o → (carrier_of s).queue k ≡ o.queue
queue_at s k o here = ap (shown_or [] (λ x. x.queue)) here

one_less : (m : List ℕ) (ms : List (List ℕ)) → length (ms ++ m ∷ []) - 1 ≡ length ms
one_less m ms = let e = length-append ms (m ∷ []) in omega arith

begun_half : (m : List ℕ) (ms : List (List ℕ)) (u now : List ℕ) (later old : List (List ℕ)) → old ≡ [] → length (ms ++ m ∷ []) - 1 ≡ finished_of old ms
begun_half m ms u now later old idle = one_less m ms ∙ sym (ap (λ z. finished_of z ms) idle)

offered_with : (s : State) (i k : ℕ) (m : List ℕ) (x y : Output) (o q : Sending) (u : List (List ℕ)) → HaveOwnNames s.outputs s.inputs → slice_get s.outputs i ≡ Some x → k ≡ x.link → slice_get s.outs k ≡ Some o → x.half.unacked ≡ [] →
    u ≡ y.half.unacked → Pieces m u → y ≡ record x { half = record x.half { unacked = u }; offered = x.offered ++ m ∷ [] } → q ≡ queued o (piece_packet x.half.route u) →
    Offers (ends_of s) (carrier_of s) x.chan m (seen (with_output s i y k q)).carrier
offered_with s i k m x y o q [] w here along out idle is pieces after queue = absurd (pieces.cut)
offered_with s i k m x y o q (now ∷ later) w here along out idle is pieces after queue =
    let at = out_at s i x w here in
    let half : out_half y ≡ record ((carrier_of s).out x.chan) { unacked = now ∷ later; offered = ((carrier_of s).out x.chan).offered ++ m ∷ [] } =
    ap out_half after
    ∙ (λ t. record { unacked = now ∷ later; offered = x.offered ++ m ∷ []; finished = begun_half m x.offered now now later x.half.unacked idle t })
    ∙ (λ t. record (sym at t) { unacked = now ∷ later; offered = (sym at t).offered ++ m ∷ [] }) in
    let line : q.queue ≡ (carrier_of s).queue k ++ piece_packet x.half.route (now ∷ later) ∷ [] =
    ap (λ z. z.queue) queue ∙ ap (λ z. z ++ piece_packet x.half.route (now ∷ later) ∷ []) (sym (queue_at s k o out)) in
    record {
      end = out_end x;
      now = now;
      later = later;
      here = end_out s i x w here;
      idle = ap (λ z. z.unacked) at ∙ idle;
      pieces = pieces;
      after = ap (λ z. z.carrier) (seen-output s i k x y o q w here (ap (λ z. z.chan) after) out (ap (λ z. z.sender) queue))
          ∙ (λ t. record (carrier_of s) { queue = put (carrier_of s).queue k (line t); out = put (carrier_of s).out x.chan (half t) })
          ∙ (λ t. enqueue (set_out (carrier_of s) x.chan (record ((carrier_of s).out x.chan) { unacked = now ∷ later; offered = ((carrier_of s).out x.chan).offered ++ m ∷ [] })) (along t) (piece_packet x.half.route (now ∷ later)));
    }

-- an output begins
pub offers : (s : State) (i k c : ℕ) (m : List ℕ) (x y : Output) (o q : Sending) → HaveOwnNames s.outputs s.inputs → slice_get s.outputs i ≡ Some x → x.chan ≡ c → k ≡ x.link → slice_get s.outs k ≡ Some o → x.half.unacked ≡ [] →
    Begins x o m y q → Offers (ends_of s) (carrier_of s) c m (seen (with_output s i y k q)).carrier
offers s i k c m x y o q w here is along out idle begins =
    subst (λ d. Offers (ends_of s) (carrier_of s) d m (seen (with_output s i y k q)).carrier) is
    (offered_with s i k m x y o q y.half.unacked w here along out idle refl begins.pieces begins.output begins.queue)

pub links-output : (s : State) (i k : ℕ) (y : Output) (o q : Sending) → slice_get s.outs k ≡ Some o → q.sender ≡ o.sender → (seen (with_output s i y k q)).link ≡ (seen s).link
links-output s i k y o q out same = links_stay s k o q out same

pub links-input : (s : State) (i k : ℕ) (y : Input) (o q : Sending) → slice_get s.outs k ≡ Some o → q.sender ≡ o.sender → (seen (with_input s i y k q)).link ≡ (seen s).link
links-input s i k y o q out same = links_stay s k o q out same

-- the output or the input, and the queue, as they were
pub output_back : (s : State) (i k : ℕ) (x y : Output) (o q : Sending) → slice_get s.outputs i ≡ Some x → slice_get s.outs k ≡ Some o → y ≡ x → q ≡ o → with_output s i y k q ≡ s
output_back s i k x y o q here out same queue = λ t. record s { outputs = set_back s.outputs i x y here same t; outs = set_back s.outs k o q out queue t }

pub input_back : (s : State) (i k : ℕ) (x y : Input) (o q : Sending) → slice_get s.inputs i ≡ Some x → slice_get s.outs k ≡ Some o → y ≡ x → q ≡ o → with_input s i y k q ≡ s
input_back s i k x y o q here out same queue = λ t. record s { inputs = set_back s.inputs i x y here same t; outs = set_back s.outs k o q out queue t }
