-- Each packet that comes arrives somehow, and so each token that waits can pass.
use Rattle.std.proofs.Common.{◌≡◌, ◌≢◌, ℕ, ◌+◌, ◌*◌, ◌<◌, ◌/◌, ◌%◌, Bool, true, false, List, [], ◌∷◌, ◌++◌, length, drop, refl, sym, ap, ◌∙◌, subst, arith, slice_get, IsTrue, ◌↔◌, Option, Some, None, inl, inr}
use Rattle.std.specs.List.{AllByRecursion}
use Rattle.std.proofs.lemmas.Bool.{cases_lt}
use Rattle.vc_packets.specs.Counters.{one_more}
use Rattle.vc_packets.specs.Headers.{spelled, front_header_of}
use Rattle.vc_packets.specs.Kind.{kind}
use Rattle.vc_packets.specs.declared.kind.Kind.{Kind}
use Rattle.vc_packets.specs.declared.kind.Kind.TheVariants.{Ack, Piece, Malformed}
use Rattle.vc_packets.specs.declared.packet.Packet.{Packet}
use Rattle.vc_blocks.specs.Halves.{load_of}
use Rattle.vc_vcp.specs.declared.output.Output.{Output}
use Rattle.vc_vcp.specs.declared.input.Input.{Input}
use Rattle.vc_tokens.specs.Tokens.{Token, Byte, Fct, EndMark}
use Rattle.vc_vcp.specs.Able.{CanPass, EachTokenComes}
use Rattle.vc_vcp.specs.Private.Bound.{IsStray}
use Rattle.vc_vcp.specs.Carrier.{Carrier, Ends, set_in}
use Rattle.vc_vcp.specs.LinkIn.{Receiving}
use Rattle.vc_vcp.specs.Links.{Vcp, Passes, passes_byte, drops_byte, passes_mark, passing, set_link, with_token, due, not_due}
use Rattle.vc_vcp.proofs.Passes.{receiver_at}
use Rattle.vc_vcp.proofs.Preservation.{all-at}
use Rattle.vc_vcp.specs.Names.{named}
use Rattle.vc_packets.specs.Functions.{shown_or}
use Rattle.vc_vcp.specs.VcpView.{seen, ends_of, carrier_of, link_of, in_half, no_input, out_end, in_end, out_half, no_output}
use Rattle.vc_vcp.specs.State.{State, HaveOwnNames, IsWired, IsInput, IsLinkIn, IsAckOf, limit_of}
use Rattle.vc_vcp.specs.Steps.{Taken, Held, Stray, taken_by, acked_by, message, accept, advance, Arrives, takes, stray, stores, holds, advances}
use Rattle.vc_vcp.proofs.KeyedLemmas.{named_has}
use Rattle.vc_vcp.proofs.Strays.{none_takes, none_has_room, by_other, idle_none, idle_some, full_none, full_some, no_ack_idle, no_room_full, no_ack_piece, no_piece_ack, no_ack_malformed, no_piece_malformed, no_ack_header, no_piece_header, ack_is, NoAck, NoPiece}

-- what becomes of a packet
pub record SomeArrival (s : State) (p : Packet) : Type 0 where
  pub taken : Taken
  pub new : Carrier
  pub arrives : Arrives (ends_of s) (carrier_of s) p taken new

strays : (s : State) (p : Packet) → IsStray s p → SomeArrival s p
strays s p none = record { taken = Stray; new = record (carrier_of s) { strays = one_more s.strays }; arrives = stray none refl refl }

ack_at : (s : State) (p : Packet) (block : ℕ) (x : Output) (u : List (List ℕ)) → HaveOwnNames s.outputs s.inputs → IsAckOf block p → named (λ x. x.block) block s.outputs ≡ Some x → x.block ≡ block → x.half.unacked ≡ u → SomeArrival s p
ack_at s p block x [] own ack here same idle = strays s p (none_takes s p (no_ack_idle s p block own ack.body (idle_some s block x here idle)) (no_piece_ack s p (ap (λ z. kind (drop 2 z) p.mark) ack.body ∙ ack.kind)))
ack_at s p block x (now ∷ later) own ack here same busy =
    let found = by_other (λ x. x.block) (λ x. x.chan) block s.outputs x own.out_chans here in
    record {
      taken = acked_by x.chan later;
      new = advance (carrier_of s) x.chan (out_end x) later;
      arrives = takes (advances x.chan (out_end x) now later (ap (shown_or None (λ x. Some (out_end x))) found)
          (record { body = subst (λ b. p.body ≡ spelled (b ∷ [])) (sym same) ack.body; kind = ack.kind })
          (ap (λ o. (shown_or no_output out_half o).unacked) found ∙ busy) refl refl);
    }

ack_by : (s : State) (p : Packet) (block : ℕ) (o : Option Output) → HaveOwnNames s.outputs s.inputs → IsAckOf block p → named (λ x. x.block) block s.outputs ≡ o → SomeArrival s p
ack_by s p block None own ack here = strays s p (none_takes s p (no_ack_idle s p block own ack.body (idle_none s block here)) (no_piece_ack s p (ap (λ z. kind (drop 2 z) p.mark) ack.body ∙ ack.kind)))
ack_by s p block (Some x) own ack here = ack_at s p block x x.half.unacked own ack here (named_has (λ x. x.block) block s.outputs x here) refl

piece_at : (s : State) (p : Packet) (block : ℕ) (last : Bool) (x : Input) (h : Option Packet) (w : Bool) → HaveOwnNames s.outputs s.inputs → AllByRecursion IsInput s.inputs → p.body ≡ spelled (block ∷ []) ++ load_of p → kind (load_of p) p.mark ≡ Piece last →
    named (λ x. x.block) block s.inputs ≡ Some x → x.block ≡ block → x.half.held ≡ h → x.half.wants ≡ w → SomeArrival s p
piece_at s p block last x (Some q) w own wired body is here same held wants =
    strays s p (none_has_room s p wired (no_ack_piece s p last is) (no_room_full s p block own body (full_some s block x here (λ none. (let e : Some q ≡ None = sym held ∙ none in absurd (cc))))))
piece_at s p block last x None true own wired body is here same held wants =
    let found = by_other (λ x. x.block) (λ x. x.chan) block s.inputs x own.in_chans here in
    record {
      taken = taken_by x.chan (message ((carrier_of s).into x.chan) (load_of p) last);
      new = accept (carrier_of s) x.chan (in_end x) (load_of p) last;
      arrives = takes (stores x.chan (in_end x) (load_of p) last (ap (shown_or None (λ x. Some (in_end x))) found)
          (record { body = subst (λ b. p.body ≡ spelled (b ∷ []) ++ load_of p) (sym same) body; kind = is })
          (ap (λ o. (shown_or no_input in_half o).wants) found ∙ wants) refl refl);
    }
piece_at s p block last x None false own wired body is here same held wants =
    let found = by_other (λ x. x.block) (λ x. x.chan) block s.inputs x own.in_chans here in
    record {
      taken = Held x.chan;
      new = set_in (carrier_of s) x.chan (record ((carrier_of s).into x.chan) { held = Some p });
      arrives = takes (holds x.chan (in_end x) (load_of p) last (ap (shown_or None (λ x. Some (in_end x))) found)
          (record { body = subst (λ b. p.body ≡ spelled (b ∷ []) ++ load_of p) (sym same) body; kind = is })
          (ap (λ o. (shown_or no_input in_half o).wants) found ∙ wants) (ap (λ o. (shown_or no_input in_half o).held) found ∙ held) refl refl);
    }

piece_by : (s : State) (p : Packet) (block : ℕ) (last : Bool) (o : Option Input) → HaveOwnNames s.outputs s.inputs → AllByRecursion IsInput s.inputs → p.body ≡ spelled (block ∷ []) ++ load_of p → kind (load_of p) p.mark ≡ Piece last →
    named (λ x. x.block) block s.inputs ≡ o → SomeArrival s p
piece_by s p block last None own wired body is here =
    strays s p (none_has_room s p wired (no_ack_piece s p last is) (no_room_full s p block own body (full_none s block here)))
piece_by s p block last (Some x) own wired body is here =
    piece_at s p block last x x.half.held x.half.wants own wired body is here (named_has (λ x. x.block) block s.inputs x here) refl refl

-- by its kind, where it begins with a header
kind_by : (s : State) (p : Packet) (block : ℕ) (k : Kind) → HaveOwnNames s.outputs s.inputs → AllByRecursion IsInput s.inputs → p.body ≡ spelled (block ∷ []) ++ load_of p → kind (load_of p) p.mark ≡ k → SomeArrival s p
kind_by s p block Ack own wired body is = ack_by s p block (named (λ x. x.block) block s.outputs) own (ack_is p block body is) refl
kind_by s p block (Piece last) own wired body is = piece_by s p block last (named (λ x. x.block) block s.inputs) own wired body is refl
kind_by s p block Malformed own wired body is = strays s p (none_takes s p (no_ack_malformed s p is) (no_piece_malformed s p is))

-- by its bytes
no_header : (s : State) (p : Packet) → front_header_of p.body ≡ None → SomeArrival s p
no_header s p is = strays s p (none_takes s p (no_ack_header s p is) (no_piece_header s p is))

low_of : (high low : ℕ) (rest : List ℕ) (b : ℕ) (load : List ℕ) → high ∷ low ∷ rest ≡ spelled (b ∷ []) ++ load → low < 256
low_of high low rest b load e = let q : low ≡ b % 256 = cc in omega arith

no_ack_byte : (s : State) (p : Packet) (high low : ℕ) (rest : List ℕ) → p.body ≡ high ∷ low ∷ rest → (low < 256 → ⊥) → NoAck s p
no_ack_byte s p high low rest body far c end now later here is busy = far (low_of high low rest end.block [] (sym body ∙ is.body))

no_piece_byte : (s : State) (p : Packet) (high low : ℕ) (rest : List ℕ) → p.body ≡ high ∷ low ∷ rest → (low < 256 → ⊥) → NoPiece s p
no_piece_byte s p high low rest body far c end load last here is = far (low_of high low rest end.block load (sym body ∙ is.body))

no_byte : (s : State) (p : Packet) (high low : ℕ) (rest : List ℕ) → p.body ≡ high ∷ low ∷ rest → (low < 256 → ⊥) → SomeArrival s p
no_byte s p high low rest body far = strays s p (none_takes s p (no_ack_byte s p high low rest body far) (no_piece_byte s p high low rest body far))

header_of : (high low : ℕ) (rest : List ℕ) → low < 256 → high ∷ low ∷ rest ≡ spelled ((256 * high + low) ∷ []) ++ rest
header_of high low rest byte =
    let q : high ≡ (256 * high + low) / 256 = omega arith in
    let r : low ≡ (256 * high + low) % 256 = omega arith in
    λ i. q i ∷ r i ∷ rest

body_by : (s : State) (p : Packet) (b : List ℕ) → HaveOwnNames s.outputs s.inputs → AllByRecursion IsInput s.inputs → p.body ≡ b → SomeArrival s p
body_by s p [] own wired body = no_header s p (ap front_header_of body)
body_by s p (high ∷ []) own wired body = no_header s p (ap front_header_of body)
body_by s p (high ∷ low ∷ rest) own wired body = elim (cases_lt low 256) [
  | inl byte ↦ kind_by s p (256 * high + low) (kind (load_of p) p.mark) own wired (body ∙ header_of high low rest byte ∙ ap (λ z. spelled ((256 * high + low) ∷ []) ++ z) (sym (ap (drop 2) body))) refl
  | inr far ↦ no_byte s p high low rest body (λ byte. omega arith)
]

-- each packet arrives
pub some_arrival : (s : State) (p : Packet) → HaveOwnNames s.outputs s.inputs → AllByRecursion IsInput s.inputs → SomeArrival s p
some_arrival s p own wired = body_by s p p.body own wired refl

-- Each token that waits can pass.

can_pass_with : (s : State) (l most : ℕ) (b : List Token) → HaveOwnNames s.outputs s.inputs → AllByRecursion IsInput s.inputs → (link_of s l).receiver.buffer ≡ b → AllByRecursion (λ k. k ≢ Fct) b → b ≢ [] → CanPass most (ends_of s) (seen s) l
can_pass_with s l most [] own wired here none some = absurd (some refl)
can_pass_with s l most (Fct ∷ rest) own wired here none some = absurd (none.0 refl)
can_pass_with s l most (Byte b ∷ rest) own wired here none some = elim (cases_lt (length (link_of s l).passed) most) [
  | inl room ↦ record {
    taken = None;
    new = set_link (seen s) l (passing (link_of s l) rest ((link_of s l).passed ++ b ∷ []));
    passes = passes_byte b rest here refl room refl;
  }
  | inr full ↦ record {
    taken = None;
    new = record (set_link (seen s) l (passing (link_of s l) rest (link_of s l).passed)) { carrier = record (carrier_of s) { strays = one_more s.strays } };
    passes = drops_byte b rest here refl full refl;
  }
]
can_pass_with s l most (EndMark m ∷ rest) own wired here none some =
    let a = some_arrival s (record { body = (link_of s l).passed; mark = m }) own wired in
    record {
      taken = Some a.taken;
      new = record (set_link (seen s) l (passing (link_of s l) rest [])) { carrier = a.new };
      passes = passes_mark m rest a.taken a.new here refl a.arrives refl;
    }

pub waits_for : (old : Vcp) (l most : ℕ) (ends : Ends) (t : Option Taken) (new : Vcp) → Passes most ends old l t new → (old.link l).receiver.buffer ≢ []
waits_for old l most ends t new (passes_byte b rest here taken room after) none = let e : Byte b ∷ rest ≡ [] = sym here ∙ none in absurd (cc)
waits_for old l most ends t new (drops_byte b rest here taken full after) none = let e : Byte b ∷ rest ≡ [] = sym here ∙ none in absurd (cc)
waits_for old l most ends t new (passes_mark m rest what carrier here taken arrives after) none = let e : EndMark m ∷ rest ≡ [] = sym here ∙ none in absurd (cc)

pub pass_iff : (s : State) (l : ℕ) (x : Receiving) (b : Bool) → IsWired s → slice_get s.ins l ≡ Some x → (IsTrue b ↔ ((link_of s l).receiver.buffer ≢ [])) → IsTrue b ↔ CanPass (limit_of s.ins) (ends_of s) (seen s) l
pass_iff s l x b wired here iff = (
  λ t. can_pass_with s l (limit_of s.ins) (link_of s l).receiver.buffer wired.names wired.inputs refl
      (subst (λ r. AllByRecursion (λ k. k ≢ Fct) r.buffer) (sym (receiver_at s l x here)) (all-at (IsLinkIn (limit_of s.ins)) s.ins l x wired.ins here).no_fct) (iff.0 t),
  λ can. iff.1 (waits_for (seen s) l (limit_of s.ins) (ends_of s) can.taken can.new can.passes),
)

-- Each token that comes has a step.

pub comes_always : EachTokenComes
comes_always old l Fct = elim (cases_lt 8 (old.link l).sender.credit) [
  | inl high ↦ (record old { carrier = record old.carrier { strays = one_more old.carrier.strays } }, not_due (λ low. omega arith) refl)
  | inr low ↦ (set_link old l (with_token (old.link l) Fct), due low refl)
]
comes_always old l (Byte b) = elim (cases_lt 0 (old.link l).receiver.promised) [
  | inl place ↦ (set_link old l (with_token (old.link l) (Byte b)), due place refl)
  | inr none ↦ (record old { carrier = record old.carrier { strays = one_more old.carrier.strays } }, not_due (λ place. omega arith) refl)
]
comes_always old l (EndMark m) = elim (cases_lt 0 (old.link l).receiver.promised) [
  | inl place ↦ (set_link old l (with_token (old.link l) (EndMark m)), due place refl)
  | inr none ↦ (record old { carrier = record old.carrier { strays = one_more old.carrier.strays } }, not_due (λ place. omega arith) refl)
]
