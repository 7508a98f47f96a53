-- A move has a step of the definitions where it is listed and its channel lets it, and only there.
use Rattle.std.proofs.Common.{◌≡◌, ◌≢◌, ℕ, zero, suc, ◌<◌, ◌≤◌, ◌↔◌, Bool, IsTrue, false, List, [], ◌∷◌, length, slice_get, arith, Option, Some, None, IsSome, is_some, refl, sym, ap, ◌∙◌, subst, inl, inr}
use Rattle.std.specs.List.{Contains}
use Rattle.std.proofs.lemmas.Bool.{cases_lt}
use Rattle.vc_machine.specs.Rendezvous.{nothing_yet}
use Rattle.vc_network.specs.Network as net
use Rattle.vc_network.specs.Plan.{Plan}
use Rattle.vc_process.specs.ProcessStep.{ProcessStep, Offers, Wants, Chooses, Stops, Meets, Rests}
use Rattle.vc_occam.specs.declared.answer.Answer.{Answer}
use Rattle.vc_occam.specs.declared.answer.Answer.TheVariants.{Nothing, Waits, Got}
use Rattle.vc_occam.specs.declared.moves.Move.{Move}
use Rattle.vc_occam.specs.declared.moves.Move.TheVariants as move
use Rattle.vc_occam.specs.Runnings.{moves, state, inner_channels}
use Rattle.vc_occam.specs.States.{sent_by, bytes_or_none, came, doing, FitsMove}
use Rattle.vc_occam.specs.States as occam
use Rattle.vc_occam.specs.Traces.{Comm}
use Rattle.vc_occam.proofs.Made.{can_be_made}
use Rattle.vc_credit.specs.Ends.{new_receiver}
use Rattle.vc_tokens.specs.Tokens.{Token, Byte, EndMark}
use Rattle.vc_vcp.specs.Able.{CanOffer, CanPass, CanPut}
use Rattle.vc_vcp.specs.Carrier.{Carrier, Ends}
use Rattle.vc_vcp.specs.Names.{named}
use Rattle.vc_packets.specs.Functions.{shown_or}
use Rattle.vc_vcp.specs.Links.{Vcp, Passes, passes_byte, drops_byte, passes_mark}
use Rattle.vc_vcp.specs.VcpView.{seen, ends_of}
use Rattle.vc_vcp.specs.State.{State as Held, MayPut, MayGrant}
use Rattle.vc_vcp.specs.Steps.{Taken}
use Rattle.vc_vcp.specs.Steps as node
use Rattle.vc_vcp.proofs.Enablement.{can_offer, offers_idle}
use Rattle.vc_vcp.proofs.Passes.{less_put, less_grant}
use Rattle.vc_actor.specs.Private.Able.{HalfCan}
use Rattle.vc_actor.specs.Able.{CanMove}
use Rattle.vc_actor.specs.Inside.{IsOpen}
use Rattle.vc_actor.specs.Private.Inside.{exchanged_on, stopped_on}
use Rattle.vc_actor.specs.OfPlan.{IsNodeOf}
use Rattle.vc_accepted.specs.Process.{Process, Goes}
use Rattle.vc_actor.specs.ActorView.{node_of, process_of, view_of, views_of}
use Rattle.vc_actor.specs.declared.inside.Internal.{Internal}
use Rattle.vc_actor.specs.declared.node.Node.{Node}

-- the process after it, and the node
abbrev after : Node → occam.State → Process
after n s = record { inside = inner_channels n.process; state = s }

abbrev with_halves : Node → Carrier → occam.State → net.Node Process
with_halves n b s = record { vcp = record (seen n.vcp) { carrier = b }; process = after n s; inner = views_of n.inside }

goes : (n : Node) (d : ProcessStep) (ks : List Comm) (s : occam.State) → occam.Does (state n.process) d ks s → Goes (process_of n.process) d (after n s)
goes n d ks s h = record { comms = ks; does = h; inside = refl }

-- the answer that brings this message, or none
abbrev told : Option (List ℕ) → Answer
told (Some m) = Got m
told None = Waits

told_came : (o : Option (List ℕ)) → came (told o) ≡ o
told_came (Some m) = refl
told_came None = refl

told_some : (o : Option (List ℕ)) → told o ≢ Nothing
told_some (Some m) e = absurd (cc)
told_some None e = absurd (cc)

-- what is listed is done, whatever answer fits
abbrev CanDo : Node → ProcessStep → Type 0
CanDo n d = (ks : List Comm) × (s : occam.State) × occam.Does (state n.process) d ks s

made : (plan : Plan) (k : ℕ) (n : Node) (m : Move) (a : Answer) → IsNodeOf plan k n → Contains (moves n.process) m → FitsMove m (sent_by (state n.process) m) a → CanDo n (doing m (sent_by (state n.process) m) a)
made plan k n m a is listed fits = can_be_made (state n.process) (inner_channels n.process) m a is.own listed fits

input_made : (plan : Plan) (k : ℕ) (n : Node) (i c : ℕ) (o : Option (List ℕ)) → IsNodeOf plan k n → Contains (moves n.process) (move.Want i c) → CanDo n (Wants i c o)
input_made plan k n i c o is listed = subst (λ z. CanDo n (Wants i c z)) (told_came o) (made plan k n (move.Want i c) (told o) is listed (told_some o))

guard_made : (plan : Plan) (k : ℕ) (n : Node) (i g c : ℕ) (o : Option (List ℕ)) → IsNodeOf plan k n → Contains (moves n.process) (move.Choose i g c) → CanDo n (Chooses i g c o)
guard_made plan k n i g c o is listed = subst (λ z. CanDo n (Chooses i g c z)) (told_came o) (made plan k n (move.Choose i g c) (told o) is listed (told_some o))

-- a channel is stopped, in its half or inside the node
stops : (plan : Plan) (k : ℕ) (n : Node) (i c : ℕ) → IsNodeOf plan k n → Contains (moves n.process) (move.Stopch i c) → HalfCan n (move.Stopch i c) → CanMove plan k n (move.Stopch i c)
stops plan k n i c is listed (inl can) =
    let d = made plan k n (move.Stopch i c) Nothing is listed refl in (
      with_halves n can.0 d.1,
      ((listed, goes n (Stops i c) d.0 d.1 d.2), inl (subst (λ z. node.Stops z (seen n.vcp).carrier c can.0) is.ends can.1, record { link = refl; inner = refl })),
    )
stops plan k n i c is listed (inr has) =
    let d = made plan k n (move.Stopch i c) Nothing is listed refl in (
      record { vcp = seen n.vcp; process = after n d.1; inner = stopped_on (views_of n.inside) c },
      ((listed, goes n (Stops i c) d.0 d.1 d.2), inr ((is.inside c).0 has, refl, refl)),
    )

pub half_can : (plan : Plan) (k : ℕ) (n : Node) (m : Move) → IsNodeOf plan k n → Contains (moves n.process) m → HalfCan n m → CanMove plan k n m
half_can plan k n (move.Offer i c) is listed can =
    let m = bytes_or_none (sent_by (state n.process) (move.Offer i c)) in
    let d = made plan k n (move.Offer i c) Nothing is listed refl in
    let o = can m in (
      with_halves n o.0 d.1,
      (m, (listed, goes n (Offers i c m) d.0 d.1 d.2), subst (λ z. node.Offers z (seen n.vcp).carrier c m o.0) is.ends o.1, record { link = refl; inner = refl }),
    )
half_can plan k n (move.Want i c) is listed can =
    let d = input_made plan k n i c can.answer is listed in (
      with_halves n can.new d.1,
      (can.answer, can.end, (listed, goes n (Wants i c can.answer) d.0 d.1 d.2), subst (λ z. node.IsOpen z (seen n.vcp).carrier c can.end) is.ends can.may, can.wants, record { link = refl; inner = refl }),
    )
half_can plan k n (move.Choose i g c) is listed can =
    let d = guard_made plan k n i g c can.answer is listed in (
      with_halves n can.new d.1,
      (can.answer, can.end, (listed, goes n (Chooses i g c can.answer) d.0 d.1 d.2), subst (λ z. node.IsOpen z (seen n.vcp).carrier c can.end) is.ends can.may, can.fetches, record { link = refl; inner = refl }),
    )
half_can plan k n (move.Stopch i c) is listed can = stops plan k n i c is listed can
half_can plan k n (move.Inner i j g c) is listed can =
    let m = bytes_or_none (sent_by (state n.process) (move.Inner i j g c)) in
    let o = sent_by (state n.process) (move.Inner i j g c) in
    let d = made plan k n (move.Inner i j g c) (told o) is listed (told_came o) in (
      record { vcp = seen n.vcp; process = after n d.1; inner = exchanged_on (views_of n.inside) c m },
      (m, (listed, goes n (Meets i j g c m) d.0 d.1 d.2), (is.inside c).0 (ap is_some can.here), ap (λ x. (shown_or nothing_yet view_of x).stopped) can.here ∙ can.going, refl, refl),
    )
half_can plan k n (move.Quiet i) is listed can =
    let d = made plan k n (move.Quiet i) Nothing is listed refl in
    (record { vcp = seen n.vcp; process = after n d.1; inner = views_of n.inside }, ((listed, goes n (Rests i) d.0 d.1 d.2), refl, refl))

-- and the other way round

pub can_listed : (plan : Plan) (k : ℕ) (n : Node) (m : Move) → CanMove plan k n m → Contains (moves n.process) m
can_listed plan k n (move.Offer i c) (u, h) = h.1.0
can_listed plan k n (move.Want i c) (u, h) = h.2.0
can_listed plan k n (move.Choose i g c) (u, h) = h.2.0
can_listed plan k n (move.Stopch i c) (u, h) = h.0.0
can_listed plan k n (move.Inner i j g c) (u, h) = h.1.0
can_listed plan k n (move.Quiet i) (u, h) = h.0.0

-- a channel whose view is not stopped is open
open_by : (xs : List Internal) (c : ℕ) (o : Option Internal) → named (λ x. x.chan) c xs ≡ o → IsSome o → (shown_or nothing_yet view_of o).stopped ≡ false → IsOpen xs c
open_by xs c None e some going = absurd (cc)
open_by xs c (Some x) e some going = record { channel = x; here = e; going = going }

stopped_by : (plan : Plan) (k : ℕ) (n : Node) (i c : ℕ) (u : net.Node Process) → IsNodeOf plan k n → net.StopsChannel plan k (node_of n) c u → HalfCan n (move.Stopch i c)
stopped_by plan k n i c u is (inl s) = inl (u.vcp.carrier, subst (λ z. node.Stops z (seen n.vcp).carrier c u.vcp.carrier) (sym is.ends) s.0)
stopped_by plan k n i c u is (inr s) = inr ((is.inside c).1 s.0)

pub can_half : (plan : Plan) (k : ℕ) (n : Node) (m : Move) → IsNodeOf plan k n → CanMove plan k n m → HalfCan n m
can_half plan k n (move.Offer i c) is (u, h) = λ m.
    let o : CanOffer (ends_of n.vcp) (seen n.vcp).carrier c h.0 = (u.vcp.carrier, subst (λ z. node.Offers z (seen n.vcp).carrier c h.0 u.vcp.carrier) (sym is.ends) h.2) in
    can_offer n.vcp c m (offers_idle n.vcp c h.0 o)
can_half plan k n (move.Want i c) is (u, h) =
    record { end = h.1; answer = h.0; new = u.vcp.carrier; may = subst (λ z. node.IsOpen z (seen n.vcp).carrier c h.1) (sym is.ends) h.3; wants = h.4 }
can_half plan k n (move.Choose i g c) is (u, h) =
    record { end = h.1; answer = h.0; new = u.vcp.carrier; may = subst (λ z. node.IsOpen z (seen n.vcp).carrier c h.1) (sym is.ends) h.3; fetches = h.4 }
can_half plan k n (move.Stopch i c) is (u, h) = stopped_by plan k n i c u is h.1
can_half plan k n (move.Inner i j g c) is (u, h) = open_by n.inside c (named (λ x. x.chan) c n.inside) refl ((is.inside c).1 h.2) h.3
can_half plan k n (move.Quiet i) is (u, h) = tt

-- nothing passes at a link that is not there
none_at : {X : Type 0} (xs : List X) (i : ℕ) → (i < length xs → ⊥) → slice_get xs i ≡ None
none_at [] i h = refl
none_at (x ∷ xs) zero h = absurd (h (omega arith))
none_at (x ∷ xs) (suc i) h = none_at xs i (λ l. h (omega arith))

no_token : {A : Type 0} (t : Token) (rest b : List Token) → b ≡ t ∷ rest → b ≡ [] → A
no_token t rest b h none = let e : t ∷ rest ≡ [] = sym h ∙ none in absurd (cc)

buffered : (old : Vcp) (l most : ℕ) (es : Ends) (taken : Option Taken) (new : Vcp) → Passes most es old l taken new → (old.link l).receiver.buffer ≡ [] → ⊥
buffered old l most es taken new (passes_byte b rest here none room after) empty = no_token (Byte b) rest (old.link l).receiver.buffer here empty
buffered old l most es taken new (drops_byte b rest here none full after) empty = no_token (Byte b) rest (old.link l).receiver.buffer here empty
buffered old l most es taken new (passes_mark m rest what carrier here is arrives after) empty = no_token (EndMark m) rest (old.link l).receiver.buffer here empty

pub no_pass : (s : Held) (l most : ℕ) (es : Ends) → length s.ins ≡ 4 → (four : ℕ) → four ≡ 4 → four ≤ l → CanPass most es (seen s) l → ⊥
no_pass s l most es long four is past can =
    let none = none_at s.ins l (λ less. omega arith) in
    buffered (seen s) l most es can.taken can.new can.passes (ap (λ o. (shown_or new_receiver (λ x. x.receiver) o).buffer) none)

-- What may be done by a link of the node alone.

pub put_by : (s : Held) (l : ℕ) (b : Bool) → length s.outs ≡ 4 → (IsTrue b ↔ MayPut s l) → IsTrue b ↔ ((l < 4) × MayPut s l)
put_by s l b four may = (λ t. (less_put s s l (may.0 t) refl four, may.0 t), λ h. may.1 h.1)

pub can_put_by : (s : Held) (l : ℕ) (b : Bool) → length s.outs ≡ 4 → (IsTrue b ↔ MayPut s l) → (IsTrue b ↔ CanPut (seen s) l) → IsTrue b ↔ ((l < 4) × CanPut (seen s) l)
can_put_by s l b four may can = (λ t. (less_put s s l (may.0 t) refl four, can.0 t), λ h. can.1 h.1)

pub grant_by : (s : Held) (l : ℕ) (b : Bool) → length s.ins ≡ 4 → (IsTrue b ↔ MayGrant s l) → IsTrue b ↔ ((l < 4) × MayGrant s l)
grant_by s l b four may = (λ t. (less_grant s s l (may.0 t) refl four, may.0 t), λ h. may.1 h.1)

pub pass_by : (s : Held) (l most : ℕ) (es : Ends) (b : Bool) → length s.ins ≡ 4 → (IsTrue b ↔ CanPass most es (seen s) l) → (IsTrue b ↔ (((seen s).link l).receiver.buffer ≢ [])) → IsTrue b ↔ ((l < 4) × (((seen s).link l).receiver.buffer ≢ []))
pass_by s l most es b four can waits = (λ t. (less_pass s l most es four (can.0 t), waits.0 t), λ h. waits.1 h.1)
  where
    less_pass : (s : Held) (l most : ℕ) (es : Ends) → length s.ins ≡ 4 → CanPass most es (seen s) l → l < 4
    less_pass s l most es four can = elim (cases_lt l 4) [ inl less ↦ less | inr far ↦ absurd (no_pass s l most es four 4 refl far can) ]
