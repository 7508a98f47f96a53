-- An act says which step it is.
use Rattle.vc_packets.specs.Counters.{one_more}
use Rattle.std.proofs.Common.{◌≡◌, ℕ, ◌<◌, ◌≤◌, length, arith, inl, inr, Bool, true, false, List, [], ◌∷◌, ◌++◌, Option, Some, None, sym, ap, subst, ◌∙◌}
use Rattle.vc_tokens.specs.Tokens.{Token, Byte, EndMark}
use Rattle.vc_switch.specs.Waiting.{Waiting}
use Rattle.vc_credit.specs.Ends.{Puts}
use Rattle.vc_network.proofs.OneTokenEnds.{puts_same}
use Rattle.vc_vcp.specs.Links.{Vcp, set_link, Comes, due, not_due, passing, Passes, passes_byte, drops_byte, passes_mark, unqueued, Sends, SendsFct}
use Rattle.vc_packets.specs.declared.mark.Mark.{Mark}
use Rattle.vc_packets.specs.declared.packet.Packet.{Packet}
use Rattle.vc_packets.specs.declared.kind.Kind.TheVariants.{Piece}
use Rattle.vc_packets.specs.Kind.{kind}
use Rattle.vc_packets.specs.Spellings.{piece_packet}
use Rattle.vc_machine.specs.Paths.{AtSwitch}
use Rattle.vc_packets.specs.Functions.{put}
use Rattle.vc_machine.proofs.Basics.{header_rest_same}
use Rattle.vc_machine.proofs.NodeSteps.{same_piece, same_ack, not_both}
use Rattle.vc_packets.proofs.PieceLists.{pieces_same}
use Rattle.vc_machine.proofs.Cover.{body_same}
use Rattle.vc_vcp.specs.Carrier.{Carrier, Ends, set_out, set_in, enqueue, End as NodeEnd}
use Rattle.vc_vcp.specs.Steps as node
use Rattle.vc_switch.specs.Switch as switch
use Rattle.vc_switch.specs.Switch.{Switch, set_input}
use Rattle.vc_network.specs.Plan.{body_limit, Plan, Inside, home, ends, input_end, switch_plan, net_of, way_from, IsAccepted}
use Rattle.vc_network.specs.Processes.{Move, Offer, Want, Choose, Stopch, Inner, Quiet, StepRelation, IsDeterminate}
use Rattle.vc_process.specs.ProcessStep.{Offers, Wants, Chooses, Stops, Meets, Rests, Finishes, Receives}
use Rattle.vc_network.specs.Network.{Node, exchanged, ByHalves, Moves, GoesOn}
use Rattle.vc_network.proofs.Wiring.{net_accepted, inputs_here, outputs_here}
use Rattle.vc_network.proofs.NodeLift.{piece_is, ack_is}
use Rattle.vc_network.proofs.SwitchLinks.{body_leaves}

end_same : (o : Option NodeEnd) (x y : NodeEnd) → o ≡ Some x → o ≡ Some y → x ≡ y
end_same o x y e f = let q : Some x ≡ Some y = sym e ∙ f in cc

packet_same : (o : Option Packet) (x y : Packet) → o ≡ Some x → o ≡ Some y → x ≡ y
packet_same o x y e f = let q : Some x ≡ Some y = sym e ∙ f in cc

fronts_same : (xs : List Packet) (p q : Packet) (ps qs : List Packet) → xs ≡ p ∷ ps → xs ≡ q ∷ qs → (p ≡ q) × (ps ≡ qs)
fronts_same xs p q ps qs e f = (cc, cc)

load_same : (end : NodeEnd) (p : Packet) (k l : List ℕ) (a b : Bool) → node.IsPieceFor end p k a → node.IsPieceFor end p l b → (k ≡ l) × (a ≡ b)
load_same end p k l a b f g =
    let loads : k ≡ l = header_rest_same end.block end.block k l (sym f.body ∙ g.body) in
    let kinds : Piece a ≡ Piece b = sym f.kind ∙ ap (λ j. kind j p.mark) loads ∙ g.kind in
    (loads, cc)

offers_same : (es : Ends) (a : Carrier) (c : ℕ) (m k : List ℕ) (b b' : Carrier) → m ≡ k → node.Offers es a c m b → node.Offers es a c k b' → b ≡ b'
offers_same es a c m k b b' e h h0 =
    let h' = subst (λ z. node.Offers es a c z b') (sym e) h0 in
    let cs = pieces_same m (h.now ∷ h.later) (h'.now ∷ h'.later) h.pieces h'.pieces in
    let en = end_same (es.output c) h.end h'.end h.here h'.here in
    let f : List (List ℕ) → NodeEnd → Carrier = λ xs z. enqueue (set_out a c (record (a.out c) { unacked = xs; offered = (a.out c).offered ++ m ∷ [] })) z.link (piece_packet z.route xs) in
    h.after ∙ (λ i. f (cs i) (en i)) ∙ sym h'.after

fetches_same : (a : Carrier) (c : ℕ) (end : NodeEnd) (x y : Option (List ℕ)) (b b' : Carrier) → node.Fetches a c end x b → node.Fetches a c end y b' → (x ≡ y) × (b ≡ b')
fetches_same a c end x y b b' h h' =
    let p = packet_same (a.into c).held h.packet h'.packet h.held h'.held in
    let s = load_same end h'.packet h.load h'.load h.last h'.last (subst (λ z. node.IsPieceFor end z h.load h.last) p h.piece) h'.piece in
    (h.answer_is ∙ (λ i. node.message (a.into c) (s.0 i) (s.1 i)) ∙ sym h'.answer_is, h.after ∙ (λ i. node.accept a c end (s.0 i) (s.1 i)) ∙ sym h'.after)

wants_same : (a : Carrier) (c : ℕ) (end : NodeEnd) (x y : Option (List ℕ)) (b b' : Carrier) → node.Wants a c end x b → node.Wants a c end y b' → (x ≡ y) × (b ≡ b')
wants_same a c end x y b b' (node.fetches h) (node.fetches h') = fetches_same a c end x y b b' h h'
wants_same a c end x y b b' (node.fetches h) (node.waits e n f) = let q = h.held in absurd (cc)
wants_same a c end x y b b' (node.waits e n f) (node.fetches h) = let q = h.held in absurd (cc)
wants_same a c end x y b b' (node.waits e n f) (node.waits e' n' f') = (n ∙ sym n', f ∙ sym f')

inside_end : (plan : Plan) (n c m : ℕ) (end : NodeEnd) → home plan c ≡ Inside m → (ends plan n).input c ≡ Some end → ⊥
inside_end plan n c m end e h = let q : None ≡ Some end = sym (ap (input_end plan n) e) ∙ h in absurd (cc)

taken_same : (plan : Plan) (n : ℕ) (a : Carrier) (p : Packet) (t u : node.Taken) (b b' : Carrier) → IsAccepted plan → node.IsTaken (ends plan n) a p t b → node.IsTaken (ends plan n) a p u b' → (t ≡ u) × (b ≡ b')
taken_same plan n a p t u b b' acc (node.stores c end k x here piece w r e) (node.stores d end' l y here' piece' w' r' e') =
    let s = same_piece (net_of plan) n p c d k l x y (net_accepted plan acc) (piece_is plan n c end p k x (inputs_here plan n c end acc here) piece) (piece_is plan n d end' p l y (inputs_here plan n d end' acc here') piece') in
    let en = end_same ((ends plan n).input d) end end' (sym (ap (ends plan n).input s.0) ∙ here) here' in
    (r ∙ (λ i. node.taken_by (s.0 i) (node.message (a.into (s.0 i)) (s.1 i) (s.2 i))) ∙ sym r', e ∙ (λ i. node.accept a (s.0 i) (en i) (s.1 i) (s.2 i)) ∙ sym e')
taken_same plan n a p t u b b' acc (node.stores c end k x here piece w r e) (node.holds d end' l y here' piece' w' held r' e') =
    let s = same_piece (net_of plan) n p c d k l x y (net_accepted plan acc) (piece_is plan n c end p k x (inputs_here plan n c end acc here) piece) (piece_is plan n d end' p l y (inputs_here plan n d end' acc here') piece') in
    let q : true ≡ false = sym w ∙ ap (λ z. (a.into z).wants) s.0 ∙ w' in absurd (cc)
taken_same plan n a p t u b b' acc (node.holds c end k x here piece w held r e) (node.stores d end' l y here' piece' w' r' e') =
    let s = same_piece (net_of plan) n p c d k l x y (net_accepted plan acc) (piece_is plan n c end p k x (inputs_here plan n c end acc here) piece) (piece_is plan n d end' p l y (inputs_here plan n d end' acc here') piece') in
    let q : false ≡ true = sym w ∙ ap (λ z. (a.into z).wants) s.0 ∙ w' in absurd (cc)
taken_same plan n a p t u b b' acc (node.holds c end k x here piece w held r e) (node.holds d end' l y here' piece' w' held' r' e') =
    let s = same_piece (net_of plan) n p c d k l x y (net_accepted plan acc) (piece_is plan n c end p k x (inputs_here plan n c end acc here) piece) (piece_is plan n d end' p l y (inputs_here plan n d end' acc here') piece') in
    (r ∙ ap node.Held s.0 ∙ sym r', e ∙ ap (λ z. set_in a z (record (a.into z) { held = Some p })) s.0 ∙ sym e')
taken_same plan n a p t u b b' acc (node.stores c end k x here piece w r e) (node.advances d end' now later here' ack un r' e') =
    absurd (not_both (net_of plan) n p c d k x (piece_is plan n c end p k x (inputs_here plan n c end acc here) piece) (ack_is plan n d end' p (outputs_here plan n d end' acc here') ack))
taken_same plan n a p t u b b' acc (node.holds c end k x here piece w held r e) (node.advances d end' now later here' ack un r' e') =
    absurd (not_both (net_of plan) n p c d k x (piece_is plan n c end p k x (inputs_here plan n c end acc here) piece) (ack_is plan n d end' p (outputs_here plan n d end' acc here') ack))
taken_same plan n a p t u b b' acc (node.advances d end' now later here' ack un r' e') (node.stores c end k x here piece w r e) =
    absurd (not_both (net_of plan) n p c d k x (piece_is plan n c end p k x (inputs_here plan n c end acc here) piece) (ack_is plan n d end' p (outputs_here plan n d end' acc here') ack))
taken_same plan n a p t u b b' acc (node.advances d end' now later here' ack un r' e') (node.holds c end k x here piece w held r e) =
    absurd (not_both (net_of plan) n p c d k x (piece_is plan n c end p k x (inputs_here plan n c end acc here) piece) (ack_is plan n d end' p (outputs_here plan n d end' acc here') ack))
taken_same plan n a p t u b b' acc (node.advances c end now later here ack un r e) (node.advances d end' now' later' here' ack' un' r' e') =
    let s = same_ack (net_of plan) n p c d (net_accepted plan acc) (ack_is plan n c end p (outputs_here plan n c end acc here) ack) (ack_is plan n d end' p (outputs_here plan n d end' acc here') ack') in
    let en = end_same ((ends plan n).output d) end end' (sym (ap (ends plan n).output s) ∙ here) here' in
    let x : now ∷ later ≡ now' ∷ later' = sym un ∙ ap (λ z. (a.out z).unacked) s ∙ un' in
    let y : later ≡ later' = cc in
    (r ∙ (λ i. node.acked_by (s i) (y i)) ∙ sym r', e ∙ (λ i. node.advance a (s i) (en i) (y i)) ∙ sym e')

pub arrives_same : (plan : Plan) (n : ℕ) (a : Carrier) (p : Packet) (t u : node.Taken) (b b' : Carrier) → IsAccepted plan → node.Arrives (ends plan n) a p t b → node.Arrives (ends plan n) a p u b' → (t ≡ u) × (b ≡ b')
arrives_same plan n a p t u b b' acc (node.takes h) (node.takes h') = taken_same plan n a p t u b b' acc h h'
arrives_same plan n a p t u b b' acc (node.takes h) (node.stray nobody r e) = absurd (nobody t b h)
arrives_same plan n a p t u b b' acc (node.stray nobody r e) (node.takes h) = absurd (nobody u b' h)
arrives_same plan n a p t u b b' acc (node.stray nobody r e) (node.stray nobody' r' e') = (r ∙ sym r', e ∙ sym e')

both_lengths : (limit : ℕ) (xs : List ℕ) → length xs < limit → limit ≤ length xs → ⊥
both_lengths limit xs short long = omega arith

front_byte : (ts rest rest' : List Token) (c c' : ℕ) → ts ≡ Byte c ∷ rest → ts ≡ Byte c' ∷ rest' → (c ≡ c') × (rest ≡ rest')
front_byte ts rest rest' c c' e f = let q : Byte c ∷ rest ≡ Byte c' ∷ rest' = sym e ∙ f in (cc, cc)

front_mark : (ts rest rest' : List Token) (m m' : Mark) → ts ≡ EndMark m ∷ rest → ts ≡ EndMark m' ∷ rest' → (m ≡ m') × (rest ≡ rest')
front_mark ts rest rest' m m' e f = let q : EndMark m ∷ rest ≡ EndMark m' ∷ rest' = sym e ∙ f in (cc, cc)

byte_mark : (ts rest rest' : List Token) (c : ℕ) (m : Mark) → ts ≡ Byte c ∷ rest → ts ≡ EndMark m ∷ rest' → ⊥
byte_mark ts rest rest' c m e f = let q : Byte c ∷ rest ≡ EndMark m ∷ rest' = sym e ∙ f in absurd (cc)

pub comes_same : (a : Vcp) (l : ℕ) (k : Token) (b b' : Vcp) → Comes a l k b → Comes a l k b' → b ≡ b'
comes_same a l k b b' (due d h) (due d' h') = h ∙ sym h'
comes_same a l k b b' (due d h) (not_due nd h') = absurd (nd d)
comes_same a l k b b' (not_due nd h') (due d h) = absurd (nd d)
comes_same a l k b b' (not_due nd h) (not_due nd' h') = h ∙ sym h'

pub switch_comes_same : (a : Switch) (l x : ℕ) (k : Token) (b b' : Switch) → switch.Comes a l x k b → switch.Comes a l x k b' → b ≡ b'
switch_comes_same a l x k b b' (switch.due d h) (switch.due d' h') = h ∙ sym h'
switch_comes_same a l x k b b' (switch.due d h) (switch.not_due nd h') = absurd (nd d)
switch_comes_same a l x k b b' (switch.not_due nd h') (switch.due d h) = absurd (nd d)
switch_comes_same a l x k b b' (switch.not_due nd h) (switch.not_due nd' h') = h ∙ sym h'

pub passes_same : (plan : Plan) (n l : ℕ) (a : Vcp) (t u : Option node.Taken) (b b' : Vcp) → IsAccepted plan → Passes (body_limit plan) (ends plan n) a l t b → Passes (body_limit plan) (ends plan n) a l u b' → (t ≡ u) × (b ≡ b')
passes_same plan n l a t u b b' acc (passes_byte c rest e is short h) (passes_byte c' rest' e' is' short' h') =
    let s = front_byte (a.link l).receiver.buffer rest rest' c c' e e' in
    (is ∙ sym is', h ∙ (λ i. set_link a l (passing (a.link l) (s.1 i) ((a.link l).passed ++ s.0 i ∷ []))) ∙ sym h')
passes_same plan n l a t u b b' acc (passes_byte c rest e is short h) (drops_byte c' rest' e' is' long h') = absurd (both_lengths (body_limit plan) (a.link l).passed short long)
passes_same plan n l a t u b b' acc (drops_byte c' rest' e' is' long h') (passes_byte c rest e is short h) = absurd (both_lengths (body_limit plan) (a.link l).passed short long)
passes_same plan n l a t u b b' acc (drops_byte c rest e is long h) (drops_byte c' rest' e' is' long' h') =
    let s = front_byte (a.link l).receiver.buffer rest rest' c c' e e' in
    (is ∙ sym is', h ∙ (λ i. record (set_link a l (passing (a.link l) (s.1 i) (a.link l).passed)) { carrier = record a.carrier { strays = one_more a.carrier.strays } }) ∙ sym h')
passes_same plan n l a t u b b' acc (passes_byte c rest e is short h) (passes_mark m rest' what carrier e' is' arrives h') = absurd (byte_mark (a.link l).receiver.buffer rest rest' c m e e')
passes_same plan n l a t u b b' acc (drops_byte c rest e is long h) (passes_mark m rest' what carrier e' is' arrives h') = absurd (byte_mark (a.link l).receiver.buffer rest rest' c m e e')
passes_same plan n l a t u b b' acc (passes_mark m rest' what carrier e' is' arrives h') (passes_byte c rest e is short h) = absurd (byte_mark (a.link l).receiver.buffer rest rest' c m e e')
passes_same plan n l a t u b b' acc (passes_mark m rest' what carrier e' is' arrives h') (drops_byte c rest e is long h) = absurd (byte_mark (a.link l).receiver.buffer rest rest' c m e e')
passes_same plan n l a t u b b' acc (passes_mark m rest what carrier e is arrives h) (passes_mark m' rest' what' carrier' e' is' arrives' h') =
    let s = front_mark (a.link l).receiver.buffer rest rest' m m' e e' in
    let p : Packet = record { body = (a.link l).passed; mark = m' } in
    let r = arrives_same plan n a.carrier p what what' carrier carrier' acc (subst (λ z. node.Arrives (ends plan n) a.carrier (record { body = (a.link l).passed; mark = z }) what carrier) s.0 arrives) arrives' in
    (is ∙ ap Some r.0 ∙ sym is', h ∙ (λ i. record (set_link a l (passing (a.link l) (s.1 i) [])) { carrier = r.1 i }) ∙ sym h')

pub sends_same : (a : Vcp) (l : ℕ) (k k' : Token) (b b' : Vcp) → Sends a l k b → Sends a l k' b' → (k ≡ k') × (b ≡ b')
sends_same a l k k' b b' h h' =
    let s = fronts_same (a.carrier.queue l) h.packet h'.packet h.rest h'.rest h.front h'.front in
    let p = puts_same (a.link l).sender h'.packet.body (Some h'.packet.mark) k k' h.sender h'.sender (subst (λ (z : Packet). Puts (a.link l).sender z.body (Some z.mark) k h.sender) s.0 h.puts) h'.puts in
    (p.0, h.after ∙ (λ i. record { carrier = unqueued a.carrier l (s.1 i) (p.0 i); link = put a.link l (record (a.link l) { sender = p.1 i }) }) ∙ sym h'.after)

pub sends_fct_same : (a : Vcp) (l : ℕ) (b b' : Vcp) → SendsFct a l b → SendsFct a l b' → b ≡ b'
sends_fct_same a l b b' h h' = h.after ∙ ap (λ z. set_link a l (record (a.link l) { receiver = z })) (h.grants.after ∙ sym h'.grants.after) ∙ sym h'.after

pub enters_same : (plan : Plan) (k l : ℕ) (a b b' : Switch) → switch.Passes (body_limit plan) (switch_plan plan k) a l b → switch.Passes (body_limit plan) (switch_plan plan k) a l b' → b ≡ b'
enters_same plan k l a b b' (switch.passes_byte c rest free e short h) (switch.passes_byte c' rest' free' e' short' h') =
    let s = front_byte (a.input l).receiver.buffer rest rest' c c' e e' in
    h ∙ (λ i. set_input a l (switch.passing (a.input l) (s.1 i) (switch.with_header (switch_plan plan k) l (a.input l) ++ s.0 i ∷ []) None)) ∙ sym h'
enters_same plan k l a b b' (switch.passes_byte c rest free e short h) (switch.drops_byte c' rest' free' e' long h') = absurd (both_lengths (body_limit plan) (switch.with_header (switch_plan plan k) l (a.input l)) short long)
enters_same plan k l a b b' (switch.drops_byte c' rest' free' e' long h') (switch.passes_byte c rest free e short h) = absurd (both_lengths (body_limit plan) (switch.with_header (switch_plan plan k) l (a.input l)) short long)
enters_same plan k l a b b' (switch.drops_byte c rest free e long h) (switch.drops_byte c' rest' free' e' long' h') =
    let s = front_byte (a.input l).receiver.buffer rest rest' c c' e e' in
    h ∙ (λ i. record (set_input a l (switch.passing (a.input l) (s.1 i) (switch.with_header (switch_plan plan k) l (a.input l)) None)) { lost = one_more a.lost }) ∙ sym h'
enters_same plan k l a b b' (switch.passes_byte c rest free e short h) (switch.passes_mark m rest' free' e' g h') = absurd (byte_mark (a.input l).receiver.buffer rest rest' c m e e')
enters_same plan k l a b b' (switch.passes_mark m rest' free' e' g h') (switch.passes_byte c rest free e short h) = absurd (byte_mark (a.input l).receiver.buffer rest rest' c m e e')
enters_same plan k l a b b' (switch.passes_byte c rest free e short h) (switch.loses m rest' free' e' g h') = absurd (byte_mark (a.input l).receiver.buffer rest rest' c m e e')
enters_same plan k l a b b' (switch.loses m rest' free' e' g h') (switch.passes_byte c rest free e short h) = absurd (byte_mark (a.input l).receiver.buffer rest rest' c m e e')
enters_same plan k l a b b' (switch.drops_byte c rest free e long h) (switch.passes_mark m rest' free' e' g h') = absurd (byte_mark (a.input l).receiver.buffer rest rest' c m e e')
enters_same plan k l a b b' (switch.passes_mark m rest' free' e' g h') (switch.drops_byte c rest free e long h) = absurd (byte_mark (a.input l).receiver.buffer rest rest' c m e e')
enters_same plan k l a b b' (switch.drops_byte c rest free e long h) (switch.loses m rest' free' e' g h') = absurd (byte_mark (a.input l).receiver.buffer rest rest' c m e e')
enters_same plan k l a b b' (switch.loses m rest' free' e' g h') (switch.drops_byte c rest free e long h) = absurd (byte_mark (a.input l).receiver.buffer rest rest' c m e e')
enters_same plan k l a b b' (switch.passes_mark m rest free e g h) (switch.passes_mark m' rest' free' e' g' h') =
    let s = front_mark (a.input l).receiver.buffer rest rest' m m' e e' in
    h ∙ (λ i. set_input a l (switch.passing (a.input l) (s.1 i) (switch.with_header (switch_plan plan k) l (a.input l)) (Some (s.0 i)))) ∙ sym h'
enters_same plan k l a b b' (switch.passes_mark m rest free e g h) (switch.loses m' rest' free' e' nobody h') = absurd (nobody g)
enters_same plan k l a b b' (switch.loses m' rest' free' e' nobody h') (switch.passes_mark m rest free e g h) = absurd (nobody g)
enters_same plan k l a b b' (switch.loses m rest free e g h) (switch.loses m' rest' free' e' g' h') =
    let s = front_mark (a.input l).receiver.buffer rest rest' m m' e e' in
    h ∙ (λ i. record (set_input a l (switch.passing (a.input l) (s.1 i) [] None)) { lost = one_more a.lost }) ∙ sym h'

pub leaves_same : (plan : Plan) (k o : ℕ) (waiting : Waiting) (a b b' : Switch) (c c' : Token) → IsAccepted plan → switch.Sends (switch_plan plan k) waiting a o c b → switch.Sends (switch_plan plan k) waiting a o c' b' → (c ≡ c') × (b ≡ b')
leaves_same plan k o waiting a b b' c c' acc h h' =
    let l : h.link ≡ h'.link = h'.only h.link h.bound in
    let d = body_same (net_of plan) k (a.input h'.link).got (way_from plan (AtSwitch k o)) h.body h'.body
    (body_leaves plan k (a.input h'.link).got o h.body acc (subst (λ z. switch.BodyLeaves (switch_plan plan k) (a.input z).got o h.body) l h.leaves)) (body_leaves plan k (a.input h'.link).got o h'.body acc h'.leaves) in
    let p = puts_same (a.output o) h'.body (a.input h'.link).mark c c' h.sender h'.sender (subst (λ z. Puts (a.output o) z (a.input h'.link).mark c h.sender) d (subst (λ z. Puts (a.output o) h.body (a.input z).mark c h.sender) l h.puts)) h'.puts in
    (p.0, h.after ∙ (λ i. switch.set_output (switch.released a (l i) (p.0 i)) o (p.1 i)) ∙ sym h'.after)

pub switch_fct_same : (a : Switch) (l : ℕ) (b b' : Switch) → switch.SendsFct a l b → switch.SendsFct a l b' → b ≡ b'
switch_fct_same a l b b' h h' = h.after ∙ ap (λ z. set_input a l (record (a.input l) { receiver = z })) (h.grants.after ∙ sym h'.grants.after) ∙ sym h'.after

module _ {P : Type 0} (plan : Plan) (Does : StepRelation P) (acc : IsAccepted plan) (det : IsDeterminate Does) (n : ℕ) (a b b' : Node P) where
  pub same_node : b.vcp ≡ b'.vcp → b.process ≡ b'.process → b.inner ≡ b'.inner → b ≡ b'
  same_node c p i = λ j. record { vcp = c j; process = p j; inner = i j }

  same_halves : b.vcp.carrier ≡ b'.vcp.carrier → b.process ≡ b'.process → ByHalves a b → ByHalves a b' → b ≡ b'
  same_halves c p h h' = same_node (λ j. record { carrier = c j; link = (h.link ∙ sym h'.link) j }) p (h.inner ∙ sym h'.inner)

  pub moves_same : (move : Move) → Moves plan Does n a move b → Moves plan Does n a move b' → b ≡ b'
  moves_same (Offer site c) h h' =
      let m = det.offer a.process b.process b'.process site c h.0 h'.0 h.1 h'.1 in
      same_halves (offers_same (ends plan n) a.vcp.carrier c h.0 h'.0 b.vcp.carrier b'.vcp.carrier m h.2 h'.2)
      (det.next a.process b.process b'.process (Offers site c h'.0) (subst (λ z. Does a.process (Offers site c z) b.process) m h.1) h'.1) h.3 h'.3
  moves_same (Want site c) h h' =
      let e = end_same ((ends plan n).input c) h.1 h'.1 h.3.here h'.3.here in
      let w = wants_same a.vcp.carrier c h'.1 h.0 h'.0 b.vcp.carrier b'.vcp.carrier (subst (λ z. node.Wants a.vcp.carrier c z h.0 b.vcp.carrier) e h.4) h'.4 in
      same_halves w.1 (det.next a.process b.process b'.process (Wants site c h'.0) (subst (λ z. Does a.process (Wants site c z) b.process) w.0 h.2) h'.2) h.5 h'.5
  moves_same (Choose site guard c) h h' =
      let e = end_same ((ends plan n).input c) h.1 h'.1 h.3.here h'.3.here in
      let w = fetches_same a.vcp.carrier c h'.1 h.0 h'.0 b.vcp.carrier b'.vcp.carrier (subst (λ z. node.Fetches a.vcp.carrier c z h.0 b.vcp.carrier) e h.4) h'.4 in
      same_halves w.1 (det.next a.process b.process b'.process (Chooses site guard c h'.0) (subst (λ z. Does a.process (Chooses site guard c z) b.process) w.0 h.2) h'.2) h.5 h'.5
  moves_same (Stopch site c) (d, inl h) (d', inl h') = same_halves (h.0.after ∙ sym h'.0.after) (det.next a.process b.process b'.process (Stops site c) d d') h.1 h'.1
  moves_same (Stopch site c) (d, inl h) (d', inr h') = absurd (inside_end plan n c n h.0.end h'.0 h.0.here)
  moves_same (Stopch site c) (d, inr h) (d', inl h') = absurd (inside_end plan n c n h'.0.end h.0 h'.0.here)
  moves_same (Stopch site c) (d, inr h) (d', inr h') = same_node (h.1 ∙ sym h'.1) (det.next a.process b.process b'.process (Stops site c) d d') (h.2 ∙ sym h'.2)
  moves_same (Inner i j guard c) h h' =
      let m = det.meet a.process b.process b'.process i j guard c h.0 h'.0 h.1 h'.1 in
      same_node (h.4 ∙ sym h'.4) (det.next a.process b.process b'.process (Meets i j guard c h'.0) (subst (λ z. Does a.process (Meets i j guard c z) b.process) m h.1) h'.1)
      (h.5 ∙ ap (λ z. put a.inner c (exchanged (a.inner c) z)) m ∙ sym h'.5)
  moves_same (Quiet site) h h' = same_node (h.1 ∙ sym h'.1) (det.next a.process b.process b'.process (Rests site) h.0 h'.0) (h.2 ∙ sym h'.2)

  pub goes_same : (t : Option node.Taken) → GoesOn Does a.process t b.process → GoesOn Does a.process t b'.process → b.process ≡ b'.process
  goes_same (Some (node.Complete c m)) h h' = det.next a.process b.process b'.process (Receives c m) h h'
  goes_same (Some (node.Finished c)) h h' = det.next a.process b.process b'.process (Finishes c) h h'
  goes_same o h h' = h ∙ sym h'
