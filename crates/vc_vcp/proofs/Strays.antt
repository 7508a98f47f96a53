-- Packets that no half may take.
use Rattle.std.proofs.Common.{◌≡◌, ℕ, zero, suc, ◌/◌, ◌%◌, Bool, if◌then◌else◌, nat_eq, nat_le, length, true, false, List, [], ◌∷◌, ◌++◌, refl, sym, ap, ◌∙◌, subst, arith, drop, slice_get, Option, Some, None, inl, inr, eq-eqb}
use Rattle.std.proofs.lemmas.Bool.{cases_eq, ne_eqb}
use Rattle.std.specs.List.{AllByRecursion}
use Rattle.vc_packets.specs.declared.packet.Packet.{Packet}
use Rattle.vc_packets.specs.declared.mark.Mark.{Mark}
use Rattle.vc_packets.specs.declared.mark.Mark.TheVariants.{Eop, Eom}
use Rattle.vc_packets.specs.declared.kind.Kind.TheVariants.{Ack, Piece, Malformed}
use Rattle.vc_packets.specs.Counters.{one_more}
use Rattle.vc_packets.specs.Headers.{spelled, front_header_of}
use Rattle.vc_packets.specs.Kind.{kind}
use Rattle.vc_blocks.specs.Halves.{load_of, ends_message}
use Rattle.vc_vcp.specs.declared.output.Output.{Output}
use Rattle.vc_vcp.specs.declared.input.Input.{Input}
use Rattle.vc_vcp.specs.Private.Bound.{IsStray}
use Rattle.vc_vcp.specs.Carrier.{End}
use Rattle.vc_vcp.specs.Names.{named, NamesDiffer}
use Rattle.vc_packets.specs.Functions.{shown_or}
use Rattle.vc_vcp.specs.VcpView.{ends_of, carrier_of, in_half, no_input, out_end, in_end, out_half, no_output}
use Rattle.vc_vcp.specs.Private.VcpView.{Acks}
use Rattle.vc_vcp.specs.State.{State, HaveOwnNames, IsInput, IsPieceOf, IsAckOf}
use Rattle.vc_vcp.specs.Steps.{IsPieceFor, IsAckFor, stores, holds, advances, Taken, Arrives, stray, Stray}
use Rattle.vc_vcp.proofs.KeyedLemmas.{named_at, named_by}
use Rattle.vc_vcp.proofs.Preservation.{all-at}

-- what a name finds stands at a place
pub record HasPlace {X : Type 0} (xs : List X) (x : X) : Type 0 where
  pub place : ℕ
  pub there : slice_get xs place ≡ Some x

behind : {X : Type 0} (y : X) (ys : List X) (x : X) → HasPlace ys x → HasPlace (y ∷ ys) x
behind y ys x p = record { place = suc p.place; there = p.there }

pub place_of : {X : Type 0} (name : X → ℕ) (k : ℕ) (xs : List X) (x : X) → named name k xs ≡ Some x → HasPlace xs x
place_of name k [] x e = absurd (cc)
place_of name k (y ∷ ys) x e = elim (cases_eq (name y) k) [
  | inl q ↦ record { place = zero; there = sym (named_by name y ys k true (eq-eqb (name y) k q)) ∙ e }
  | inr ne ↦ behind y ys x (place_of name k ys x (sym (named_by name y ys k false (ne_eqb (name y) k ne)) ∙ e))
]

-- the element of a channel is that of its block
pub by_other : {X : Type 0} (name other : X → ℕ) (k : ℕ) (xs : List X) (x : X) → NamesDiffer other xs → named name k xs ≡ Some x → named other (other x) xs ≡ Some x
by_other name other k xs x differ e = let p = place_of name k xs x e in named_at other xs p.place x differ p.there

-- what shows an end
pub record Shows {X Y : Type 0} (f : X → Y) (o : Option X) (y : Y) : Type 0 where
  pub shown : X
  pub is : o ≡ Some shown
  pub shows : f shown ≡ y

pub shown_some : {X Y : Type 0} (f : X → Y) (o : Option X) (y : Y) → shown_or None (λ x. Some (f x)) o ≡ Some y → Shows f o y
shown_some f None y e = absurd (cc)
shown_some f (Some x) y e = record { shown = x; is = refl; shows = cc }

-- two blocks that spell the same are the same
pub same_block : (body l m : List ℕ) (a b : ℕ) → body ≡ spelled (a ∷ []) ++ l → body ≡ spelled (b ∷ []) ++ m → a ≡ b
same_block body l m a b e f =
    let g : a / 256 ∷ a % 256 ∷ l ≡ b / 256 ∷ b % 256 ∷ m = sym e ∙ f in
    let high : a / 256 ≡ b / 256 = cc in
    let low : a % 256 ≡ b % 256 = cc in
    omega arith

-- no output waits for this packet as its acknowledge
abbrev pub NoAck : State → Packet → Type 0
NoAck s p = (c : ℕ) (end : End) (now : List ℕ) (later : List (List ℕ)) → (ends_of s).output c ≡ Some end → IsAckFor end p → ((carrier_of s).out c).unacked ≡ now ∷ later → ⊥

-- the packet is a piece for no input
abbrev pub NoPiece : State → Packet → Type 0
NoPiece s p = (c : ℕ) (end : End) (load : List ℕ) (last : Bool) → (ends_of s).input c ≡ Some end → IsPieceFor end p load last → ⊥

-- no input has room for this packet as a piece
abbrev pub NoRoom : State → Packet → Type 0
NoRoom s p = (c : ℕ) (end : End) (load : List ℕ) (last : Bool) → (ends_of s).input c ≡ Some end → IsPieceFor end p load last → ((carrier_of s).into c).held ≡ None → ⊥

empty_of : (s : State) (c : ℕ) (o : Option Input) → named (λ x. x.chan) c s.inputs ≡ o → AllByRecursion IsInput s.inputs → (shown_or no_input in_half o).wants ≡ true → (shown_or no_input in_half o).held ≡ None
empty_of s c None e w wants = refl
empty_of s c (Some x) e w wants = let p = place_of (λ x. x.chan) c s.inputs x e in (all-at IsInput s.inputs p.place x w p.there).empty wants

pub none_takes : (s : State) (p : Packet) → NoAck s p → NoPiece s p → IsStray s p
none_takes s p ack piece t new (stores c end load last here is wants taken after) = piece c end load last here is
none_takes s p ack piece t new (holds c end load last here is idle held taken after) = piece c end load last here is
none_takes s p ack piece t new (advances c end now later here is busy taken after) = ack c end now later here is busy

pub none_has_room : (s : State) (p : Packet) → AllByRecursion IsInput s.inputs → NoAck s p → NoRoom s p → IsStray s p
none_has_room s p w ack piece t new (stores c end load last here is wants taken after) = piece c end load last here is (empty_of s c (named (λ x. x.chan) c s.inputs) refl w wants)
none_has_room s p w ack piece t new (holds c end load last here is idle held taken after) = piece c end load last here is held
none_has_room s p w ack piece t new (advances c end now later here is busy taken after) = ack c end now later here is busy

-- by what stands behind the block's header

ack_load : (end : End) (p : Packet) → IsAckFor end p → kind (load_of p) p.mark ≡ Ack
ack_load end p is = ap (λ z. kind (drop 2 z) p.mark) is.body ∙ is.kind

piece_load : (end : End) (p : Packet) (load : List ℕ) (last : Bool) → IsPieceFor end p load last → kind (load_of p) p.mark ≡ Piece last
piece_load end p load last is = ap (λ z. kind (drop 2 z) p.mark) is.body ∙ is.kind

pub no_ack_malformed : (s : State) (p : Packet) → kind (load_of p) p.mark ≡ Malformed → NoAck s p
no_ack_malformed s p bad c end now later here is busy = let a = ack_load end p is in absurd (cc)

pub no_piece_malformed : (s : State) (p : Packet) → kind (load_of p) p.mark ≡ Malformed → NoPiece s p
no_piece_malformed s p bad c end load last here is = let a = piece_load end p load last is in absurd (cc)

pub no_ack_piece : (s : State) (p : Packet) (more : Bool) → kind (load_of p) p.mark ≡ Piece more → NoAck s p
no_ack_piece s p more piece c end now later here is busy = let a = ack_load end p is in absurd (cc)

pub no_piece_ack : (s : State) (p : Packet) → kind (load_of p) p.mark ≡ Ack → NoPiece s p
no_piece_ack s p ack c end load last here is = let a = piece_load end p load last is in absurd (cc)

-- with no header
pub no_ack_header : (s : State) (p : Packet) → front_header_of p.body ≡ None → NoAck s p
no_ack_header s p bad c end now later here is busy = let a = ap front_header_of is.body in absurd (cc)

pub no_piece_header : (s : State) (p : Packet) → front_header_of p.body ≡ None → NoPiece s p
no_piece_header s p bad c end load last here is = let a = ap front_header_of is.body in absurd (cc)

-- the output of this block is idle, or there is none
abbrev pub IsIdleAt : State → ℕ → Type 0
IsIdleAt s block = (x : Output) → named (λ x. x.block) block s.outputs ≡ Some x → x.half.unacked ≡ []

-- the input of this block is full, or there is none
abbrev pub IsFullAt : State → ℕ → Type 0
IsFullAt s block = (x : Input) → named (λ x. x.block) block s.inputs ≡ Some x → x.half.held ≡ None → ⊥

pub no_ack_idle : (s : State) (p : Packet) (block : ℕ) → HaveOwnNames s.outputs s.inputs → p.body ≡ spelled (block ∷ []) → IsIdleAt s block → NoAck s p
no_ack_idle s p block own body idle c end now later here is busy =
    let f = shown_some out_end (named (λ x. x.chan) c s.outputs) end here in
    let same : f.shown.block ≡ block = ap (λ z. z.block) f.shows ∙ same_block p.body [] [] end.block block is.body body in
    let found = subst (λ b. named (λ x. x.block) b s.outputs ≡ Some f.shown) same (by_other (λ x. x.chan) (λ x. x.block) c s.outputs f.shown own.out_blocks f.is) in
    let none : f.shown.half.unacked ≡ [] = idle f.shown found in
    let some : f.shown.half.unacked ≡ now ∷ later = sym (ap (λ o. (shown_or no_output out_half o).unacked) f.is) ∙ busy in
    absurd (cc)

pub no_room_full : (s : State) (p : Packet) (block : ℕ) → HaveOwnNames s.outputs s.inputs → p.body ≡ spelled (block ∷ []) ++ load_of p → IsFullAt s block → NoRoom s p
no_room_full s p block own body full c end load last here is empty =
    let f = shown_some in_end (named (λ x. x.chan) c s.inputs) end here in
    let same : f.shown.block ≡ block = ap (λ z. z.block) f.shows ∙ same_block p.body load (load_of p) end.block block is.body body in
    let found = subst (λ b. named (λ x. x.block) b s.inputs ≡ Some f.shown) same (by_other (λ x. x.chan) (λ x. x.block) c s.inputs f.shown own.in_blocks f.is) in
    full f.shown found (sym (ap (λ o. (shown_or no_input in_half o).held) f.is) ∙ empty)

-- it is dropped and counted
pub stray_is : (s new : State) (p : Packet) (t : Taken) → IsStray s p → t ≡ Stray → new ≡ record s { strays = one_more s.strays } → Arrives (ends_of s) (carrier_of s) p t (carrier_of new)
stray_is s new p t none is after = stray none is (ap carrier_of after)

pub idle_none : (s : State) (block : ℕ) → named (λ x. x.block) block s.outputs ≡ None → IsIdleAt s block
idle_none s block none x e = absurd (cc)

pub idle_some : (s : State) (block : ℕ) (y : Output) → named (λ x. x.block) block s.outputs ≡ Some y → y.half.unacked ≡ [] → IsIdleAt s block
idle_some s block y found idle x e = let q : y ≡ x = cc in subst (λ z. z.half.unacked ≡ []) q idle

pub full_none : (s : State) (block : ℕ) → named (λ x. x.block) block s.inputs ≡ None → IsFullAt s block
full_none s block none x e empty = absurd (cc)

pub full_some : (s : State) (block : ℕ) (y : Input) → named (λ x. x.block) block s.inputs ≡ Some y → (y.half.held ≡ None → ⊥) → IsFullAt s block
full_some s block y found full x e empty = let q : x ≡ y = cc in full (subst (λ z. z.half.held ≡ None) q empty)

-- an acknowledge that no output waits for
pub ack_strays : (s new : State) (block : ℕ) (t : Taken) → HaveOwnNames s.outputs s.inputs → IsIdleAt s block → t ≡ Stray → new ≡ record s { strays = one_more s.strays } → Acks s block t new
ack_strays s new block t own idle is after p ack =
    stray_is s new p t (none_takes s p (no_ack_idle s p block own ack.body idle) (no_piece_ack s p (ap (λ z. kind (drop 2 z) p.mark) ack.body ∙ ack.kind))) is after

-- a piece that no input has room for
pub piece_strays : (s : State) (p : Packet) (block : ℕ) → HaveOwnNames s.outputs s.inputs → AllByRecursion IsInput s.inputs → IsPieceOf block p → IsFullAt s block → IsStray s p
piece_strays s p block own w piece full = none_has_room s p w (no_ack_piece s p (ends_message p.mark) piece.piece.kind) (no_room_full s p block own piece.body full)

long_load : (t : Bool) → (if t then Piece false else Malformed) ≡ Ack → ⊥
long_load true is = absurd (cc)
long_load false is = absurd (cc)

whole_load : (t : Bool) → (if t then Piece true else Malformed) ≡ Ack → ⊥
whole_load true is = absurd (cc)
whole_load false is = absurd (cc)

some_load : (b : ℕ) (load : List ℕ) (m : Mark) → kind (b ∷ load) m ≡ Ack → ⊥
some_load b load Eop is = long_load (nat_eq (length (b ∷ load)) 32) (sym (ap (λ t. if t then Ack else (if nat_eq (length (b ∷ load)) 32 then Piece false else Malformed)) (ne_eqb (length (b ∷ load)) 0 (λ e. absurd (omega arith)))) ∙ is)
some_load b load Eom is = whole_load (nat_le (length (b ∷ load)) 32) is

no_load : (load : List ℕ) (m : Mark) → kind load m ≡ Ack → load ≡ []
no_load [] m is = refl
no_load (b ∷ load) m is = absurd (some_load b load m is)

-- an acknowledge, by its block and its kind
pub ack_is : (p : Packet) (block : ℕ) → p.body ≡ spelled (block ∷ []) ++ load_of p → kind (load_of p) p.mark ≡ Ack → IsAckOf block p
ack_is p block body is =
    let none = no_load (load_of p) p.mark is in
    record { body = body ∙ ap (λ z. spelled (block ∷ []) ++ z) none; kind = sym (ap (λ z. kind z p.mark) none) ∙ is }
