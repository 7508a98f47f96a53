-- What is known of a network wherever a run has come: how far each channel's message is, and which halves a process counts on.
use Rattle.std.proofs.Common.{◌≡◌, ◌≢◌, ◌⊎◌, inl, inr, ℕ, zero, suc, ◌+◌, ◌≤◌, ◌<◌, Bool, true, false, List, [], ◌∷◌, ◌++◌, length, Option, Some, None, refl, sym, ap, subst, ◌∙◌, arith}
use Rattle.std.proofs.lemmas.Bool.{cases_eq}
use Rattle.std.specs.List.{Contains}
use Rattle.vc_accepted.proofs.Processes.{kind_on}
use Rattle.vc_accepted.specs.Begin.{begin_of}
use Rattle.vc_accepted.specs.NetworkOf.{network_of}
use Rattle.vc_accepted.specs.OneList.{by}
use Rattle.vc_accepted.specs.Process.{Process}
use Rattle.vc_core.specs.PossibleEvents.{NetworkState}
use Rattle.vc_free.proofs.NodePaths.{SoFar, Ready, bit, under, same_node}
use Rattle.vc_free.proofs.PutOff.{total, is_out, is_in}
use Rattle.vc_free.proofs.Rest.{output_here, input_here}
use Rattle.vc_free.proofs.RestKnown.{Known, known_of}
use Rattle.vc_free.specs.Delivery.{in_half}
use Rattle.vc_machine.proofs.Labels.{Phase, Calm, Coming, Waiting as WaitingPhase, Returning, PhaseFits, LeftAfter}
use Rattle.vc_machine.specs.Machine.{ChanState}
use Rattle.vc_machine.specs.Paths.{Channel}
use Rattle.vc_machine.specs.Rendezvous.{View}
use Rattle.vc_meaning.proofs.Sequences.{Kept}
use Rattle.vc_network.proofs.Steps.{view_seen}
use Rattle.vc_network.proofs.Wiring.{carried}
use Rattle.vc_network.specs.Network.{Node, Actor, IsNode, IsSwitch}
use Rattle.vc_network.specs.Plan as network
use Rattle.vc_network.specs.Plan.{Home, Way, Inside, home, net_of, net_channel}
use Rattle.vc_network.specs.Views.{vcp_of, vcps, source_node, sink_node, view, view_at}
use Rattle.vc_occam.specs.States.{State, waiting}
use Rattle.vc_occam.specs.Traces.{Comm}
use Rattle.vc_plan.specs.Accepted.{IsAccepted}
use Rattle.vc_plan.specs.declared.plan.Plan.{Plan}
use Rattle.vc_switch.specs.Waiting.{Waiting}
use Rattle.vc_vcp.specs.Carrier.{OutHalf, InHalf}

-- how far a channel's message is: none is under way, one is offered and not taken, one is taken and its output not finished
pub data Course (v : View) (unacked : List (List ℕ)) : Type 0 where
  at_rest : v.taken ≡ v.offered → v.finished ≡ length v.offered → unacked ≡ [] → Course v unacked
  under_way : (m : List ℕ) → v.offered ≡ v.taken ++ m ∷ [] → v.finished ≡ length v.taken → under unacked ≡ 1 → Course v unacked
  to_end : v.taken ≡ v.offered → length v.offered ≡ suc v.finished → under unacked ≡ 1 → Course v unacked

abbrev state_view : ChanState → View
state_view x = record { offered = x.offered; taken = x.taken; finished = x.finished; stopped = x.stopped }

course_of : (ch : Channel) (f : Phase) (x : ChanState) (n : ℕ) → PhaseFits ch f x n → Course (state_view x) x.unacked
course_of ch Calm x n h = let g = h.2 in at_rest g.same (g.count ∙ ap length g.same) g.unacked
course_of ch Coming x n h = let g = h.2 in under_way g.message g.offered g.count (ap under g.unacked)
course_of ch WaitingPhase x n h = let g = h.3 in under_way g.message g.offered g.count (ap under g.unacked)
course_of ch Returning x n h = let g = h.2 in by_left g.later g.left (ap under g.unacked)
  where
    by_left : (later : List (List ℕ)) → LeftAfter x later → under x.unacked ≡ 1 → Course (state_view x) x.unacked
    by_left [] (a, b, d) u = to_end b (ap length (sym b) ∙ d) u
    by_left (y ∷ ys) (m, a, b, d, e) u = under_way m d e u

-- a piece of a message is held only of one that is offered and not taken, and so are bytes stored
held_way : (ch : Channel) (f : Phase) (x : ChanState) (n : ℕ) → PhaseFits ch f x n → x.held ≢ None → (m : List ℕ) × (x.offered ≡ x.taken ++ m ∷ [])
held_way ch Calm x n h ne = absurd (ne h.1)
held_way ch Coming x n h ne = absurd (ne h.1)
held_way ch WaitingPhase x n h ne = let g = h.3 in (g.message, g.offered)
held_way ch Returning x n h ne = absurd (ne h.1)

same_way : (v w : ℕ) (a b : Bool) → Way v a ≡ Way w b → (v ≡ w) × (a ≡ b)
same_way v w a b e = (cc, cc)

module _ (p : Plan) (waiting_rule : Waiting) (acc : IsAccepted p) (x : NetworkState) (ks : List (ℕ × Comm)) (r : SoFar p waiting_rule (known_of p acc).ok (kind_on p) (known_of p acc).good x ks) where
  abbrev N : network.Plan
  N = network_of p

  abbrev count : ℕ
  count = length p.nodes

  pub ready_of : (n : ℕ) → n < count → (a : Node Process) → x.state n ≡ IsNode a → Ready p (kind_on p) n a (by n ks)
  ready_of n l a e = let z = r.nodes n l in subst (λ b. Ready p (kind_on p) n b (by n ks)) (same_node z.0 a (sym z.1 ∙ e)) z.2

  pub kept_of : (n : ℕ) → n < count → (a : Node Process) → x.state n ≡ IsNode a → Kept a.process.state
  kept_of n l a e = let z = ready_of n l a e in record { uses = z.good.lawful; sites = z.sites }

  module _ (c v : ℕ) (ab : Bool) (h : home N c ≡ Way v ab) where
    abbrev C : ChanState
    C = r.tokens.nodes.chans c

    abbrev unacked : List (List ℕ)
    unacked = ((vcps x (source_node N (home N c))).carrier.out c).unacked

    phase : (n : ℕ) × PhaseFits ((net_of N).chan c) (r.good.sound.inv.phases c) C n
    phase = (_, (r.good.sound.inv.chans c (carried N c v ab h)).phase)

    seen : view N x c ≡ state_view C
    seen = view_seen N x r.tokens c r.good.shows (carried N c v ab h).1

    pub course : Course (view N x c) unacked
    course = subst (λ z. Course z unacked) (sym seen) (subst (Course (state_view C)) (ap (λ (z : ChanState). z.unacked) (r.good.shows.nodes.chan c)) (course_of ((net_of N).chan c) (r.good.sound.inv.phases c) C phase.0 phase.1))

    pub is_open : (in_half p x c).wants ≡ true → (view N x c).stopped ≡ false
    is_open w = ap (λ (z : View). z.stopped) seen ∙ (r.good.sound.inv.chans c (carried N c v ab h)).open (ap (λ (z : ChanState). z.wants) (r.good.shows.nodes.chan c) ∙ w)

    pub held : (in_half p x c).held ≢ None → (m : List ℕ) × ((view N x c).offered ≡ (view N x c).taken ++ m ∷ [])
    held ne = subst (λ (z : View). (m : List ℕ) × (z.offered ≡ z.taken ++ m ∷ [])) (sym seen)
        (held_way ((net_of N).chan c) (r.good.sound.inv.phases c) C phase.0 phase.1 (λ e. ne (sym (ap (λ (z : ChanState). z.held) (r.good.shows.nodes.chan c)) ∙ e)))

    -- the halves of the channel are those of its nodes
    pub out_half : (n : ℕ) (a : Node Process) → x.state n ≡ IsNode a → source_node N (Way v ab) ≡ n → unacked ≡ (a.vcp.carrier.out c).unacked
    out_half n a e k = ap (λ z. ((vcps x z).carrier.out c).unacked) (ap (source_node N) h ∙ k) ∙ ap (λ z. ((vcp_of z).carrier.out c).unacked) e

    pub in_half_is : (n : ℕ) (a : Node Process) → x.state n ≡ IsNode a → sink_node N (Way v ab) ≡ n → in_half p x c ≡ a.vcp.carrier.into c
    in_half_is n a e k = ap (λ z. (vcps x z).carrier.into c) (ap (sink_node N) h ∙ k) ∙ ap (λ z. (vcp_of z).carrier.into c) e

    -- the node at each end waits as its half is busy
    pub source_waits : (n : ℕ) (l : n < count) (a : Node Process) → x.state n ≡ IsNode a → source_node N (Way v ab) ≡ n → total (is_out c) (waiting a.process.state.rest) ≡ under unacked
    source_waits n l a e k = (ready_of n l a e).matches.outs c ∙ ap under (sym (out_half n a e k))

    pub sink_waits : (n : ℕ) (l : n < count) (a : Node Process) → x.state n ≡ IsNode a → sink_node N (Way v ab) ≡ n → total (is_in c) (waiting a.process.state.rest) ≡ bit (in_half p x c).wants
    sink_waits n l a e k = (ready_of n l a e).matches.ins c ∙ ap (λ (z : InHalf). bit z.wants) (sym (in_half_is n a e k))

    pub stopped_half : (view N x c).stopped ≡ (in_half p x c).stopped
    stopped_half = ap (λ z. (view_at N x c z).stopped) h ∙ ap (λ z. ((vcps x (sink_node N z)).carrier.into c).stopped) (sym h)

    small : (xs : List (List ℕ)) → under xs ≤ 1
    small [] = omega arith
    small (y ∷ ys) = omega arith

    few : (b : Bool) → bit b ≤ 1
    few true = omega arith
    few false = omega arith

    -- and no other node does
    pub no_source : (n : ℕ) (l : n < count) (a : Node Process) → x.state n ≡ IsNode a → (source_node N (Way v ab) ≡ n → ⊥) → total (is_out c) (waiting a.process.state.rest) ≡ 0
    no_source n l a e ne = by_under (under (a.vcp.carrier.out c).unacked) refl
      where
        by_under : (k : ℕ) → under (a.vcp.carrier.out c).unacked ≡ k → total (is_out c) (waiting a.process.state.rest) ≡ 0
        by_under zero u = (ready_of n l a e).matches.outs c ∙ u
        by_under (suc k) u =
            let s = small (a.vcp.carrier.out c).unacked in
            let o = (ready_of n l a e).out_home c (omega arith) in
            let z = output_here N n c o.0 o.1 in
            absurd (ne (ap (source_node N) (sym h ∙ z.2) ∙ z.3))

    pub no_sink : (n : ℕ) (l : n < count) (a : Node Process) → x.state n ≡ IsNode a → (sink_node N (Way v ab) ≡ n → ⊥) → total (is_in c) (waiting a.process.state.rest) ≡ 0
    no_sink n l a e ne = by_bit (bit (a.vcp.carrier.into c).wants) refl
      where
        by_bit : (k : ℕ) → bit (a.vcp.carrier.into c).wants ≡ k → total (is_in c) (waiting a.process.state.rest) ≡ 0
        by_bit zero u = (ready_of n l a e).matches.ins c ∙ u
        by_bit (suc k) u =
            let s = few (a.vcp.carrier.into c).wants in
            let o = (ready_of n l a e).in_home c (omega arith) in
            let z = input_here N n c o.0 o.1 in
            absurd (ne (ap (sink_node N) (sym h ∙ z.2) ∙ z.3))
