-- A node's steps exist exactly where its calls may be made.
use Rattle.std.proofs.Common.{◌≡◌, ◌≢◌, ℕ, ◌+◌, ◌<◌, Bool, true, false, List, [], ◌∷◌, ◌++◌, refl, sym, ap, ◌∙◌, subst, slice_get, slice_set, IsTrue, ◌↔◌, Option, Some, None}
use mathlib.Core.Bool.{not}
use Rattle.std.specs.Bool.{OnTrue}
use Rattle.vc_packets.specs.declared.packet.Packet.{Packet}
use Rattle.vc_packets.specs.Pieces.{Pieces}
use Rattle.vc_packets.specs.Spellings.{piece_packet}
use Rattle.vc_packets.proofs.PieceLists.{has_pieces}
use Rattle.vc_tokens.specs.Tokens.{Token}
use Rattle.vc_credit.specs.Ends.{Sender, Puts, puts_byte, puts_mark, HasRoom, new_sender}
use Rattle.vc_packets.specs.declared.mark.Mark.{Mark}
use Rattle.vc_blocks.specs.Halves.{load_of, ends_message}
use Rattle.vc_vcp.specs.declared.output.Output.{Output}
use Rattle.vc_vcp.specs.declared.input.Input.{Input}
use Rattle.vc_vcp.specs.Able.{CanOffer, CanWant, CanFetch, CanStop, CanPut, CanGrant}
use Rattle.vc_vcp.specs.Carrier.{Carrier, set_in, set_out, enqueue}
use Rattle.vc_vcp.specs.Names.{named}
use Rattle.vc_packets.specs.Functions.{shown_or}
use Rattle.vc_vcp.specs.LinkIn.{Receiving}
use Rattle.vc_vcp.specs.LinkOut.{Sending}
use Rattle.vc_vcp.specs.Private.LinkOut.{CanPutFront}
use Rattle.vc_vcp.specs.Links.{set_link}
use Rattle.vc_vcp.specs.VcpView.{seen, ends_of, carrier_of, link_of, in_half, no_input, out_end, in_end, out_half, no_output}
use Rattle.vc_vcp.specs.State.{State, IsIdle, IsUnwanted, IsOpen, IsInput, HoldsFor, MayPut, MayGrant}
use Rattle.vc_vcp.specs.Steps.{message, accept, fetches, waits, IsOpen as IsOpenChannel}
use Rattle.vc_vcp.proofs.InputChanges.{for_end}
use Rattle.vc_vcp.proofs.Passes.{receiver_at}
use Rattle.vc_vcp.proofs.ListChanges.{sends_token}
use Rattle.vc_vcp.proofs.Strays.{shown_some}

-- what a channel's name shows of an output or an input
end_shown : (s : State) (c : ℕ) (x : Output) → named (λ x. x.chan) c s.outputs ≡ Some x → (ends_of s).output c ≡ Some (out_end x)
end_shown s c x here = ap (shown_or None (λ x. Some (out_end x))) here

half_shown : (s : State) (c : ℕ) (x : Output) → named (λ x. x.chan) c s.outputs ≡ Some x → (carrier_of s).out c ≡ out_half x
half_shown s c x here = ap (shown_or no_output out_half) here

into_end_shown : (s : State) (c : ℕ) (x : Input) → named (λ x. x.chan) c s.inputs ≡ Some x → (ends_of s).input c ≡ Some (in_end x)
into_end_shown s c x here = ap (shown_or None (λ x. Some (in_end x))) here

into_half_shown : (s : State) (c : ℕ) (x : Input) → named (λ x. x.chan) c s.inputs ≡ Some x → (carrier_of s).into c ≡ in_half x
into_half_shown s c x here = ap (shown_or no_input in_half) here

-- An output begins.

offer_of : (s : State) (c : ℕ) (m : List ℕ) (cs : List (List ℕ)) → Pieces m cs → IsIdle s c → CanOffer (ends_of s) (carrier_of s) c m
offer_of s c m [] pieces is = absurd (pieces.cut)
offer_of s c m (now ∷ later) pieces is =
    let new : Carrier = enqueue (set_out (carrier_of s) c (record ((carrier_of s).out c) { unacked = now ∷ later; offered = ((carrier_of s).out c).offered ++ m ∷ [] })) is.output.link (piece_packet is.output.half.route (now ∷ later)) in (
      new,
      record {
        end = out_end is.output;
        now = now;
        later = later;
        here = end_shown s c is.output is.here;
        idle = ap (λ z. z.unacked) (half_shown s c is.output is.here) ∙ is.idle;
        pieces = pieces;
        after = refl;
      },
    )

pub can_offer : (s : State) (c : ℕ) (m : List ℕ) → IsIdle s c → CanOffer (ends_of s) (carrier_of s) c m
can_offer s c m is = offer_of s c m (has_pieces m).0 (has_pieces m).1 is

pub offers_idle : (s : State) (c : ℕ) (m : List ℕ) → CanOffer (ends_of s) (carrier_of s) c m → IsIdle s c
offers_idle s c m can =
    let f = shown_some out_end (named (λ x. x.chan) c s.outputs) can.1.end can.1.here in
    record { output = f.shown; here = f.is; idle = sym (ap (λ z. z.unacked) (half_shown s c f.shown f.is)) ∙ can.1.idle }

-- An input begins.

opened : (s : State) (c : ℕ) (is : IsOpen s c) → IsOpenChannel (ends_of s) (carrier_of s) c (in_end is.input)
opened s c is = record {
  here = into_end_shown s c is.input is.here;
  idle = ap (λ z. z.wants) (into_half_shown s c is.input is.here) ∙ is.idle;
  not_stopped = ap (λ z. z.stopped) (into_half_shown s c is.input is.here) ∙ is.not_stopped;
}

want_with : (s : State) (c : ℕ) (is : IsOpen s c) (h : Option Packet) → is.input.half.held ≡ h → HoldsFor is.input.block h → CanWant (ends_of s) (carrier_of s) c
want_with s c is None held piece = record {
  end = in_end is.input;
  answer = None;
  new = set_in (carrier_of s) c (record ((carrier_of s).into c) { wants = true });
  may = opened s c is;
  wants = waits (ap (λ z. z.held) (into_half_shown s c is.input is.here) ∙ held) refl refl;
}
want_with s c is (Some p) held piece = record {
  end = in_end is.input;
  answer = message ((carrier_of s).into c) (load_of p) (ends_message p.mark);
  new = accept (carrier_of s) c (in_end is.input) (load_of p) (ends_message p.mark);
  may = opened s c is;
  wants = fetches (record {
    packet = p;
    load = load_of p;
    last = ends_message p.mark;
    held = ap (λ z. z.held) (into_half_shown s c is.input is.here) ∙ held;
    piece = for_end is.input p piece;
    answer_is = refl;
    after = refl;
  });
}

pub can_want : (s : State) (c : ℕ) (is : IsOpen s c) → IsInput is.input → CanWant (ends_of s) (carrier_of s) c
can_want s c is w = want_with s c is is.input.half.held refl w.held

pub wants_open : (s : State) (c : ℕ) → CanWant (ends_of s) (carrier_of s) c → IsOpen s c
wants_open s c can =
    let f = shown_some in_end (named (λ x. x.chan) c s.inputs) can.end can.may.here in
    let half = into_half_shown s c f.shown f.is in
    record { input = f.shown; here = f.is; idle = sym (ap (λ z. z.wants) half) ∙ can.may.idle; not_stopped = sym (ap (λ z. z.stopped) half) ∙ can.may.not_stopped }

-- An input takes the held piece.

fetch_with : (s : State) (c : ℕ) (is : IsOpen s c) (h : Option Packet) → is.input.half.held ≡ h → HoldsFor is.input.block h → h ≢ None → CanFetch (ends_of s) (carrier_of s) c
fetch_with s c is None held piece some = absurd (some refl)
fetch_with s c is (Some p) held piece some = record {
  end = in_end is.input;
  answer = message ((carrier_of s).into c) (load_of p) (ends_message p.mark);
  new = accept (carrier_of s) c (in_end is.input) (load_of p) (ends_message p.mark);
  may = opened s c is;
  fetches = record {
    packet = p;
    load = load_of p;
    last = ends_message p.mark;
    held = ap (λ z. z.held) (into_half_shown s c is.input is.here) ∙ held;
    piece = for_end is.input p piece;
    answer_is = refl;
    after = refl;
  };
}

can_fetch : (s : State) (c : ℕ) (is : IsOpen s c) → IsInput is.input → is.input.half.held ≢ None → CanFetch (ends_of s) (carrier_of s) c
can_fetch s c is w some = fetch_with s c is is.input.half.held refl w.held some

fetches_held : (s : State) (c : ℕ) (a : Input) → named (λ x. x.chan) c s.inputs ≡ Some a → CanFetch (ends_of s) (carrier_of s) c → a.half.held ≢ None
fetches_held s c a here can none = let e : Some can.fetches.packet ≡ None = sym can.fetches.held ∙ ap (λ z. z.held) (into_half_shown s c a here) ∙ none in absurd (cc)

-- A channel is stopped.

pub can_stop : (s : State) (c : ℕ) → IsUnwanted s c → CanStop (ends_of s) (carrier_of s) c
can_stop s c is =
    let new : Carrier = set_in (carrier_of s) c (record ((carrier_of s).into c) { stopped = true }) in
    (new, record { end = in_end is.input; here = into_end_shown s c is.input is.here; idle = ap (λ z. z.wants) (into_half_shown s c is.input is.here) ∙ is.idle; after = refl })

pub stops_unwanted : (s : State) (c : ℕ) → CanStop (ends_of s) (carrier_of s) c → IsUnwanted s c
stops_unwanted s c can =
    let f = shown_some in_end (named (λ x. x.chan) c s.inputs) can.1.end can.1.here in
    record { input = f.shown; here = f.is; idle = sym (ap (λ z. z.wants) (into_half_shown s c f.shown f.is)) ∙ can.1.idle }

-- A token is put.

pub can_put : (s : State) (l : ℕ) (x : Sending) → slice_get s.outs l ≡ Some x → CanPutFront x → CanPut (seen s) l
can_put s l x here can = record { token = can.0; new = seen (record s { outs = slice_set s.outs l can.1 }); sends = sends_token s l x can.1 can.0 here can.2 }

has_credit : (a b : Sender) (body : List ℕ) (mark : Option Mark) (k : Token) → Puts a body mark k b → 0 < a.credit
has_credit a b body mark k (puts_byte d more has at is after) = has
has_credit a b body mark k (puts_mark m has at of is after) = has

pub puts_may : (s : State) (l : ℕ) (x : Sending) → slice_get s.outs l ≡ Some x → CanPut (seen s) l → MayPut s l
puts_may s l x here can =
    let q : x.queue ≡ can.sends.packet ∷ can.sends.rest = sym (ap (shown_or [] (λ x. x.queue)) here) ∙ can.sends.front in
    record {
      out = x;
      here = here;
      credit = subst (λ z. 0 < z.credit) (ap (shown_or new_sender (λ x. x.sender)) here) (has_credit (link_of s l).sender can.sends.sender can.sends.packet.body (Some can.sends.packet.mark) can.token can.sends.puts);
      packet = λ none. (let e : can.sends.packet ∷ can.sends.rest ≡ [] = sym q ∙ none in absurd (cc));
    }

-- An FCT is put.

pub can_grant : (s : State) (l : ℕ) → MayGrant s l → CanGrant (seen s) l
can_grant s l may =
    let r = receiver_at s l may.into may.here in (
      set_link (seen s) l (record (link_of s l) { receiver = record (link_of s l).receiver { promised = (link_of s l).receiver.promised + 8 } }),
      record {
        receiver = record (link_of s l).receiver { promised = (link_of s l).receiver.promised + 8 };
        grants = record { room = subst HasRoom (sym r) may.room; after = refl };
        after = refl;
      },
    )

pub grants_may : (s : State) (l : ℕ) (x : Receiving) → slice_get s.ins l ≡ Some x → CanGrant (seen s) l → MayGrant s l
grants_may s l x here can = record { into = x; here = here; room = subst HasRoom (receiver_at s l x here) can.1.grants.room }

-- By what stands at the name or the place.

pub not_iff : (b v : Bool) → b ≡ v → IsTrue (not b) ↔ (v ≡ false)
not_iff true v e = (λ t. absurd (cc), λ f. absurd (cc))
not_iff false v e = (λ t. sym e, λ f. refl)

pub both_iff : (v b w : Bool) → v ≡ false → b ≡ w → IsTrue (not b) ↔ ((v ≡ false) × (w ≡ false))
both_iff v b w is e = (λ t. (is, (not_iff b w e).0 t), λ h. (not_iff b w e).1 h.1)

pub none_iff : {X : Type 0} (b : Bool) (xs : List X) → (IsTrue b ↔ (xs ≡ [])) → IsTrue (not b) ↔ (xs ≢ [])
none_iff true xs iff = (λ t. absurd (cc), λ some. absurd (some (iff.0 refl)))
none_iff false xs iff = (λ t none. (let f : false ≡ true = iff.1 none in absurd (cc)), λ some. refl)

same_some : {X : Type 0} (o : Option X) (x y : X) → o ≡ Some x → o ≡ Some y → x ≡ y
same_some o x y e f = let g : Some x ≡ Some y = sym e ∙ f in cc

pub offer_iff : (s : State) (c : ℕ) (m : List ℕ) (a : Output) (b : Bool) → named (λ x. x.chan) c s.outputs ≡ Some a → (IsTrue b ↔ (a.half.unacked ≡ [])) → IsTrue b ↔ CanOffer (ends_of s) (carrier_of s) c m
offer_iff s c m a b here iff =
    (λ t. can_offer s c m (record { output = a; here = here; idle = iff.0 t }), λ can. (let i = offers_idle s c m can in iff.1 (subst (λ z. z.half.unacked ≡ []) (same_some (named (λ x. x.chan) c s.outputs) i.output a i.here here) i.idle)))

pub want_iff : (s : State) (c : ℕ) (a : Input) (b : Bool) → IsInput a → named (λ x. x.chan) c s.inputs ≡ Some a → (IsTrue b ↔ ((a.half.wants ≡ false) × (a.half.stopped ≡ false))) →
    IsTrue b ↔ CanWant (ends_of s) (carrier_of s) c
want_iff s c a b w here iff = (
  λ t. can_want s c (record { input = a; here = here; idle = (iff.0 t).0; not_stopped = (iff.0 t).1 }) w,
  λ can. (let i = wants_open s c can in
      let same = same_some (named (λ x. x.chan) c s.inputs) i.input a i.here here in iff.1 (subst (λ z. z.half.wants ≡ false) same i.idle, subst (λ z. z.half.stopped ≡ false) same i.not_stopped)),
)

pub fetch_iff : (s : State) (c : ℕ) (a : Input) (b : Bool) → IsInput a → named (λ x. x.chan) c s.inputs ≡ Some a → (IsTrue b ↔ ((a.half.held ≢ None) × (a.half.stopped ≡ false))) → IsOpen s c →
    IsTrue b ↔ CanFetch (ends_of s) (carrier_of s) c
fetch_iff s c a b w here iff is =
    let same = same_some (named (λ x. x.chan) c s.inputs) is.input a is.here here in
    (λ t. can_fetch s c is (subst IsInput (sym same) w) (subst (λ z. z.half.held ≢ None) (sym same) (iff.0 t).0), λ can. iff.1 (fetches_held s c a here can, subst (λ z. z.half.stopped ≡ false) same is.not_stopped))

pub stop_iff : (s : State) (c : ℕ) (a : Input) (b : Bool) → named (λ x. x.chan) c s.inputs ≡ Some a → (IsTrue b ↔ (a.half.wants ≡ false)) → IsTrue b ↔ CanStop (ends_of s) (carrier_of s) c
stop_iff s c a b here iff =
    (λ t. can_stop s c (record { input = a; here = here; idle = iff.0 t }), λ can. (let i = stops_unwanted s c can in iff.1 (subst (λ z. z.half.wants ≡ false) (same_some (named (λ x. x.chan) c s.inputs) i.input a i.here here) i.idle)))

pub put_iff : (s : State) (l : ℕ) (x : Sending) (b : Bool) → slice_get s.outs l ≡ Some x → (IsTrue b ↔ ((0 < x.sender.credit) × (x.queue ≢ []))) → OnTrue b (CanPutFront x) → IsTrue b ↔ CanPut (seen s) l
put_iff s l x true here iff can = (λ t. can_put s l x here can, λ puts. refl)
put_iff s l x false here iff can =
    (λ t. absurd (cc), λ puts. (let m = puts_may s l x here puts in let same = same_some (slice_get s.outs l) m.out x m.here here in iff.1 (subst (λ z. 0 < z.sender.credit) same m.credit, subst (λ z. z.queue ≢ []) same m.packet)))

pub grant_iff : (s : State) (l : ℕ) (x : Receiving) (b : Bool) → slice_get s.ins l ≡ Some x → (IsTrue b ↔ HasRoom x.receiver) → IsTrue b ↔ CanGrant (seen s) l
grant_iff s l x b here iff =
    (λ t. can_grant s l (record { into = x; here = here; room = iff.0 t }), λ can. (let m = grants_may s l x here can in iff.1 (subst (λ z. HasRoom z.receiver) (same_some (slice_get s.ins l) m.into x m.here here) m.room)))

-- Where nothing has the name nothing may be done.

never_iff : {P : Type 0} → (P → ⊥) → IsTrue false ↔ P
never_iff never = (λ t. absurd (let e : false ≡ true = t in cc), λ p. absurd (never p))

not_none : {X : Type 0} (o : Option X) (x : X) → o ≡ None → o ≡ Some x → ⊥
not_none o x none some = let e : None ≡ Some x = sym none ∙ some in cc

pub idle_none : (s : State) (c : ℕ) → named (λ x. x.chan) c s.outputs ≡ None → IsTrue false ↔ IsIdle s c
idle_none s c none = never_iff (λ (i : IsIdle s c). not_none (named (λ x. x.chan) c s.outputs) i.output none i.here)
