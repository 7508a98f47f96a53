-- Whose a packet is: the end to which its headers lead it, and its kind there, tell it.
use Rattle.std.proofs.Common.{◌≡◌, ◌↔◌, ℕ, ◌==◌, Bool, true, false, not, IsTrue, List, [], ◌∷◌, ◌++◌, length, drop, nat_eq, nat_le, Option, Some, None, refl, sym, ap, ◌∙◌, subst, inl, inr, arith, if◌then◌else◌, eqb-true, eq-eqb}
use Rattle.std.proofs.lemmas.Bool.Decides.{nat_tests}
use Rattle.vc_packets.specs.declared.mark.Mark.{Mark}
use Rattle.vc_packets.specs.declared.mark.Mark.TheVariants.{Eop, Eom}
use Rattle.vc_packets.specs.declared.packet.Packet.{Packet}
use Rattle.vc_packets.specs.declared.kind.Kind.TheVariants.{Ack, Piece, Malformed}
use Rattle.vc_packets.specs.Headers.{spelled}
use Rattle.vc_packets.specs.Kind.{kind}
use Rattle.vc_blocks.specs.Halves.{load_of, ends_message}
use Rattle.vc_switch.specs.Forward.{behind}
use Rattle.vc_machine.specs.Paths.{Net, End, AtSwitch, Carries, Delivers, GoesOn, IsAccepted as IsAcceptedNet}
use Rattle.vc_machine.specs.Places.{Place, OnWire, Inside, LeadsTo, IsOf, BelongsTo}
use Rattle.vc_machine.proofs.Basics.{header_same, header_rest_same}
use Rattle.vc_machine.proofs.Counts.{piece_ack}
use Rattle.vc_machine.proofs.Ownership.{owners_one}
use Rattle.vc_network.specs.Plan.{Plan, Home, Way, far, home, end_of, virtual_link, net_of, net_channel, IsAccepted}
use Rattle.vc_network.specs.Plan as network
use Rattle.vc_network.proofs.Wiring.{carried, net_accepted}
use Rattle.vc_vcp.specs.State.{IsPieceOf, IsAckOf}
use Rattle.vc_core.specs.Channels.{ends_at, end_block}
use Rattle.vc_core.specs.Private.Targets.{IsTargetAt, ComesTo, IsOwned}
use Rattle.vc_core.specs.declared.channels.BlockAt.{BlockAt}
use Rattle.vc_core.specs.declared.channels.Ends.{Ends}
use Rattle.vc_core.proofs.Routes.{goes_on}

-- a piece is a message's last where its mark ends a message
last_is : (load : List ℕ) (m : Mark) (last : Bool) → kind load m ≡ Piece last → last ≡ ends_message m
last_is load Eop last h = by_length (nat_eq (length load) 0) (nat_eq (length load) 32) h
  where
    by_length : (a b : Bool) → (if a then Ack else (if b then Piece false else Malformed)) ≡ Piece last → last ≡ false
    by_length true b h = absurd (cc)
    by_length false true h = cc
    by_length false false h = absurd (cc)
last_is load Eom last h = by_length (nat_le (length load) 32) h
  where
    by_length : (a : Bool) → (if a then Piece true else Malformed) ≡ Piece last → last ≡ true
    by_length true h = cc
    by_length false h = absurd (cc)

-- an acknowledge has no load
ack_empty : (load : List ℕ) (m : Mark) → kind load m ≡ Ack → load ≡ []
ack_empty [] m h = refl
ack_empty (x ∷ xs) Eop h =
    let some : nat_eq (length (x ∷ xs)) 0 ≡ false = grind (arith, nat_tests) in
    by_length (nat_eq (length (x ∷ xs)) 0) (nat_eq (length (x ∷ xs)) 32) some h
  where
    by_length : (a b : Bool) → a ≡ false → (if a then Ack else (if b then Piece false else Malformed)) ≡ Ack → x ∷ xs ≡ []
    by_length true b f h = absurd (cc)
    by_length false true f h = absurd (cc)
    by_length false false f h = absurd (cc)
ack_empty (x ∷ xs) Eom h = by_length (nat_le (length (x ∷ xs)) 32) h
  where
    by_length : (a : Bool) → (if a then Piece true else Malformed) ≡ Ack → x ∷ xs ≡ []
    by_length true h = absurd (cc)
    by_length false h = absurd (cc)

piece_of : (block : ℕ) (p : Packet) (load : List ℕ) (last : Bool) → p.body ≡ spelled (block ∷ []) ++ load → kind load p.mark ≡ Piece last → IsPieceOf block p
piece_of block p load last body is =
    let same : load_of p ≡ load = ap (drop 2) body in
    let long = ap length body in
    record {
      body = body ∙ ap (λ z. spelled (block ∷ []) ++ z) (sym same);
      piece = record { header = omega arith; kind = ap (λ z. kind z p.mark) same ∙ is ∙ ap Piece (last_is load p.mark last is) };
    }

ack_of : (block : ℕ) (p : Packet) (load : List ℕ) → p.body ≡ spelled (block ∷ []) ++ load → kind load p.mark ≡ Ack → IsAckOf block p
ack_of block p load body is =
    let none = ack_empty load p.mark is in
    record { body = body ∙ ap (λ z. spelled (block ∷ []) ++ z) none; kind = ap (λ z. kind z p.mark) (sym none) ∙ is }

-- the ends of a channel's virtual link, in the words of the network's paths
pub record AreEnds (plan : Plan) (c : ℕ) (e : Ends) : Type 0 where
  pub to_node : ((net_of plan).chan c).to.node ≡ e.to.node
  pub to_block : ((net_of plan).chan c).to.block ≡ e.to.block
  pub from_node : ((net_of plan).chan c).from.node ≡ e.from.node
  pub from_block : ((net_of plan).chan c).from.block ≡ e.from.block

pub are_ends : (plan : Plan) (c : ℕ) (e : Ends) → ends_at plan (home plan c) ≡ Some e → AreEnds plan c e
are_ends plan c e h = by_home (home plan c) refl h
  where
    by_home : (k : Home) → home plan c ≡ k → ends_at plan k ≡ Some e → AreEnds plan c e
    by_home (network.Inside n) at h = absurd (cc)
    by_home (Way v ab) at h =
        let same : record { from = end_block (end_of (virtual_link plan v) ab); to = end_block (end_of (virtual_link plan v) (not ab)) } ≡ e = cc in
        record {
          to_node = ap (λ z. (net_channel plan z).to.node) at ∙ ap (λ (z : Ends). z.to.node) same;
          to_block = ap (λ z. (net_channel plan z).to.block) at ∙ ap (λ (z : Ends). z.to.block) same;
          from_node = ap (λ z. (net_channel plan z).from.node) at ∙ ap (λ (z : Ends). z.from.node) same;
          from_block = ap (λ z. (net_channel plan z).from.block) at ∙ ap (λ (z : Ends). z.from.block) same;
        }

-- a channel with ends is one that the network carries
pub is_carried : (plan : Plan) (c : ℕ) (e : Ends) → ends_at plan (home plan c) ≡ Some e → Carries (net_of plan) c
is_carried plan c e h = by_home (home plan c) refl h
  where
    by_home : (k : Home) → home plan c ≡ k → ends_at plan k ≡ Some e → Carries (net_of plan) c
    by_home (Way v ab) at h = carried plan c v ab at
    by_home (network.Inside n) at h = absurd (cc)

-- what is sought for a block, where the block is at the node
wanted : (x : BlockAt) (n : ℕ) → n ≡ x.node → (if x.node == n then Some x.block else None) ≡ Some x.block
wanted x n same = ap (λ b. if b then Some x.block else None) (eq-eqb x.node n (sym same))

wanted_is : (x : BlockAt) (n block : ℕ) → (if x.node == n then Some x.block else None) ≡ Some block → (n ≡ x.node) × (block ≡ x.block)
wanted_is x n block h = by_test (x.node == n) refl h
  where
    by_test : (b : Bool) → (x.node == n) ≡ b → (if b then Some x.block else None) ≡ Some block → (n ≡ x.node) × (block ≡ x.block)
    by_test true t h = (sym (eqb-true x.node n t), cc)
    by_test false t h = absurd (cc)

-- whether a packet that belongs to channel d, and is sought where its headers lead it, is channel c's
pub one_sought : (plan : Plan) (c d w : ℕ) (v : Option ℕ) (e : Ends) (q : Packet) (t : Bool) → IsAcceptedNet (net_of plan) → AreEnds plan c e → Carries (net_of plan) c → Carries (net_of plan) d → IsOf (net_of plan) w v q d →
    ((to : End) (load : List ℕ) → LeadsTo (net_of plan) w v q to load → IsTrue t ↔ IsTargetAt e to load q.mark) → (IsTrue t → c ≡ d) × (c ≡ d → IsTrue t)
one_sought plan c d w v e q t acc ends rc rd (inl (load, last, leads, piece)) told = (
  (λ h. by_kind (tells.0 h)),
  (λ same.
      let block : to.block ≡ e.to.block = ap (λ k. ((net_of plan).chan k).to.block) (sym same) ∙ ends.to_block in
      tells.1 (inl (e.to.block, wanted e.to to.node (ap (λ k. ((net_of plan).chan k).to.node) (sym same) ∙ ends.to_node), piece_of e.to.block here load last (ap (λ b. spelled (b ∷ []) ++ load) block) piece))),
)
  where
    to : End
    to = ((net_of plan).chan d).to

    here : Packet
    here = record { body = spelled (to.block ∷ []) ++ load; mark = q.mark }

    tells : IsTrue t ↔ IsTargetAt e to load q.mark
    tells = told to load leads

    by_kind : IsTargetAt e to load q.mark → c ≡ d
    by_kind (inl (block, at_block, is)) =
        let at = wanted_is e.to to.node block at_block in
        let same = header_same to.block block load (load_of here) is.body in
        acc.one_in c d rc rd (ends.to_node ∙ sym at.0, ends.to_block ∙ sym at.1 ∙ sym same)
    by_kind (inr (block, at_block, is)) =
        let none : load ≡ [] = header_rest_same to.block block load [] is.body in
        absurd (piece_ack [] q.mark last (ap (λ z. kind z q.mark) (sym none) ∙ piece) is.kind)
one_sought plan c d w v e q t acc ends rc rd (inr (load, leads, ack)) told = (
  (λ h. by_kind (tells.0 h)),
  (λ same.
      let block : to.block ≡ e.from.block = ap (λ k. ((net_of plan).chan k).from.block) (sym same) ∙ ends.from_block in
      tells.1 (inr (e.from.block, wanted e.from to.node (ap (λ k. ((net_of plan).chan k).from.node) (sym same) ∙ ends.from_node), ack_of e.from.block here load (ap (λ b. spelled (b ∷ []) ++ load) block) ack))),
)
  where
    to : End
    to = ((net_of plan).chan d).from

    here : Packet
    here = record { body = spelled (to.block ∷ []) ++ load; mark = q.mark }

    tells : IsTrue t ↔ IsTargetAt e to load q.mark
    tells = told to load leads

    by_kind : IsTargetAt e to load q.mark → c ≡ d
    by_kind (inl (block, at_block, is)) =
        let rest : load ≡ load_of here = header_rest_same to.block block load (load_of here) is.body in
        absurd (piece_ack (load_of here) q.mark (ends_message q.mark) is.piece.kind (ap (λ z. kind z q.mark) (sym rest) ∙ ack))
    by_kind (inr (block, at_block, is)) =
        let at = wanted_is e.from to.node block at_block in
        let same = header_same to.block block load [] is.body in
        acc.one_out c d rc rd (ends.from_node ∙ sym at.0, ends.from_block ∙ sym at.1 ∙ sym same)

-- so a test of where the headers lead tells whose a packet is
tells_whose : (net : Net) (c d : ℕ) (x : Place × Packet) (t : Bool) → IsAcceptedNet net → Carries net c → Carries net d → BelongsTo net d x → (IsTrue t → c ≡ d) × (c ≡ d → IsTrue t) → IsTrue t ↔ BelongsTo net c x
tells_whose net c d x t acc rc rd its told = ((λ h. subst (λ k. BelongsTo net k x) (sym (told.0 h)) its), (λ b. told.1 (owners_one net c d x acc rc rd b its)))

-- of a packet on a way
pub its_on : (plan : Plan) (c w : ℕ) (e : Ends) (q : Packet) (t : Bool) → IsAccepted plan → ends_at plan (home plan c) ≡ Some e → IsOwned plan (OnWire w, q) →
    ((to : End) (load : List ℕ) → ComesTo (net_of plan) 32 w q.body to load → IsTrue t ↔ IsTargetAt e to load q.mark) → IsTrue t ↔ IsOf (net_of plan) w None q c
its_on plan c w e q t acc at owned told =
    let net = net_of plan in
    let ok = net_accepted plan acc in
    let real = is_carried plan c e at in
    let o = owned.owner in
    tells_whose net c o.chan (OnWire w, q) t ok real o.real o.its
    (one_sought plan c o.chan w None e q t ok (are_ends plan c e at) real o.real o.its (λ to load l. told to load (record { stack = l.stack; is = l.body; delivers = l.delivers })))

-- and of one that is whole in a switch
pub its_inside : (plan : Plan) (c w k i : ℕ) (e : Ends) (q : Packet) (t : Bool) → IsAccepted plan → ends_at plan (home plan c) ≡ Some e → far plan w ≡ AtSwitch k i → IsOwned plan (Inside w, q) →
    ((to : End) (load stack : List ℕ) → q.body ≡ spelled stack ++ load → GoesOn (net_of plan) (λ w2 s2. Delivers (net_of plan) 31 w2 s2 to) k stack → IsTrue t ↔ IsTargetAt e to load q.mark) →
    IsTrue t ↔ BelongsTo (net_of plan) c (Inside w, q)
its_inside plan c w k i e q t acc at there owned told =
    let net = net_of plan in
    let ok = net_accepted plan acc in
    let real = is_carried plan c e at in
    let o = owned.owner in
    let b = o.its in
    let same : AtSwitch b.0 b.1 ≡ AtSwitch k i = sym b.3 ∙ there in
    let switch : b.0 ≡ k = cc in
    tells_whose net c o.chan (Inside w, q) t ok real o.real o.its
    (one_sought plan c o.chan w b.2 e q t ok (are_ends plan c e at) real o.real b.5 (λ to load l.
    told to load (behind b.2 l.stack) l.body (subst (λ z. GoesOn net (λ w2 s2. Delivers net 31 w2 s2 to) z (behind b.2 l.stack)) switch (goes_on net 31 w l.stack to b.0 b.1 b.2 b.3 b.4 l.delivers))))
