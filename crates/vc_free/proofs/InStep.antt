-- A process waits wherever the halves of its channels count on it, whatever step its node makes.
use Rattle.std.proofs.Common.{◌≡◌, inl, inr, ℕ, List, true, sym, ap, ◌∙◌}
use Rattle.std.specs.List.{Contains}
use Rattle.std.proofs.lemmas.Bool.{cases_eq}
use Rattle.vc_packets.specs.Functions.{put}
use Rattle.vc_machine.proofs.Basics.{put-same, put-other}
use Rattle.vc_occam.specs.States.{Waiting, output, input, waiting}
use Rattle.vc_process.specs.ProcessStep.{Offers as Outputs, Chooses, Wants as Inputs, Stops as StopsOn, Meets, Rests}
use Rattle.vc_occam.proofs.StepWaits.{waits_after}
use Rattle.vc_vcp.specs.Carrier.{InHalf, Carrier}
use Rattle.vc_vcp.specs.Links as links
use Rattle.vc_network.specs.Actors.{Label}
use Rattle.vc_network.specs.Actors.Label.{Own, Takes, Puts}
use Rattle.vc_network.specs.Network.{Act, Proc, Take, Put, Fct, Pass, Node, Moves, NodeStep}
use Rattle.vc_network.specs.Plan.{Plan}
use Rattle.vc_network.specs.Processes as moves
use Rattle.vc_tokens.specs.Tokens.{Token}
use Rattle.vc_accepted.specs.Process.{Process, does}
use Rattle.vc_actor.specs.OfPlan.{InStep}
use Rattle.vc_actor.proofs.Halves.{Wants, Sends, has_same, has_put, by_parts, added, still, kept, after_want, after_choose, fetched, wanted}
use Rattle.vc_actor.proofs.Passes.{passed, unmoved}
use Rattle.vc_free.proofs.Outcomes.{unqueued_halves}

-- all that waits goes on waiting, and no half is busier
stays_busy : (a b : Carrier) (p q : Process) → InStep a p → b.out ≡ a.out → ((c : ℕ) → (b.into c).wants ≡ (a.into c).wants) → ((w : Waiting) → Contains (waiting p.state.rest) w → Contains (waiting q.state.rest) w) → InStep b q
stays_busy a b p q step out into keep = record {
  inputs = λ c t. (let r = step.inputs c (sym (into c) ∙ t) in (r.0, keep (input r.0 c) r.1));
  outputs = λ c t. (let r = step.outputs c (λ e. t (ap (λ z. (z c).unacked) out ∙ e)) in (r.0, keep (output r.0 c) r.1));
}

same_wants : (f g : ℕ → InHalf) (c : ℕ) → g ≡ put f c (record (f c) { stopped = true }) → (d : ℕ) → (g d).wants ≡ (f d).wants
same_wants f g c e d = elim (cases_eq d c) [
  | inl same ↦ ap (λ z. (z d).wants) e ∙ ap (λ z. (put f c (record (f c) { stopped = true }) z).wants) same ∙ ap (λ (x : InHalf). x.wants) (put-same f c (record (f c) { stopped = true })) ∙ ap (λ z. (f z).wants) (sym same)
  | inr other ↦ ap (λ z. (z d).wants) e ∙ ap (λ (x : InHalf). x.wants) (put-other f c (record (f c) { stopped = true }) d other)
]

module _ (plan : Plan) (n : ℕ) (a b : Node Process) (h : InStep a.vcp.carrier a.process) where
  abbrev before : List Waiting
  before = waiting a.process.state.rest

  abbrev after : List Waiting
  after = waiting b.process.state.rest

  moved : (m : moves.Move) → Moves plan does n a m b → InStep b.vcp.carrier b.process
  moved (moves.Offer i c) (m, (listed, goes), offers, rest) =
      let w = waits_after a.process.state b.process.state (Outputs i c m) goes.comms goes.does in
      by_parts b.vcp.carrier b.process
      (has_same Wants input a.vcp.carrier.into b.vcp.carrier.into before after (ap (λ z. z.into) offers.after) h.inputs (λ j d. still (output i c) before after w (input j d)))
      (has_put Sends output a.vcp.carrier.out b.vcp.carrier.out before after c _ (ap (λ z. z.out) offers.after) h.outputs (λ t. (i, added (output i c) before after w)) (λ j d ne. still (output i c) before after w (output j d)))
  moved (moves.Want i c) (answer, end, (listed, goes), may, wants, rest) =
      let w = after_want i c answer before after (waits_after a.process.state b.process.state (Inputs i c answer) goes.comms goes.does) in
      let r = wanted a.vcp.carrier b.vcp.carrier c end answer i before after wants w h.inputs h.outputs in
      by_parts b.vcp.carrier b.process r.0 r.1
  moved (moves.Choose i k c) (answer, end, (listed, goes), may, fetches, rest) =
      let w = after_choose i k c answer before after (waits_after a.process.state b.process.state (Chooses i k c answer) goes.comms goes.does) in
      let r = fetched a.vcp.carrier b.vcp.carrier c end answer i before after fetches w h.inputs h.outputs in
      by_parts b.vcp.carrier b.process r.0 r.1
  moved (moves.Stopch i c) ((listed, goes), inl (stops, rest)) =
      let w = waits_after a.process.state b.process.state (StopsOn i c) goes.comms goes.does in
      stays_busy a.vcp.carrier b.vcp.carrier a.process b.process h (ap (λ z. z.out) stops.after) (same_wants a.vcp.carrier.into b.vcp.carrier.into c (ap (λ z. z.into) stops.after)) (kept before after w)
  moved (moves.Stopch i c) ((listed, goes), inr (within, vcp, inner)) =
      let w = waits_after a.process.state b.process.state (StopsOn i c) goes.comms goes.does in
      stays_busy a.vcp.carrier b.vcp.carrier a.process b.process h (ap (λ z. z.carrier.out) vcp) (λ d. ap (λ z. (z.carrier.into d).wants) vcp) (kept before after w)
  moved (moves.Inner i j k c) (m, (listed, goes), within, may, vcp, inner) =
      let w = waits_after a.process.state b.process.state (Meets i j k c m) goes.comms goes.does in
      stays_busy a.vcp.carrier b.vcp.carrier a.process b.process h (ap (λ z. z.carrier.out) vcp) (λ d. ap (λ z. (z.carrier.into d).wants) vcp) (kept before after w)
  moved (moves.Quiet i) ((listed, goes), vcp, inner) =
      let w = waits_after a.process.state b.process.state (Rests i) goes.comms goes.does in
      stays_busy a.vcp.carrier b.vcp.carrier a.process b.process h (ap (λ z. z.carrier.out) vcp) (λ d. ap (λ z. (z.carrier.into d).wants) vcp) (kept before after w)

  came : (l : ℕ) (k : Token) → links.Comes a.vcp l k b.vcp → b.process ≡ a.process → InStep b.vcp.carrier b.process
  came l k (links.due due after) same = unmoved a.vcp.carrier b.vcp.carrier a.process b.process (ap (λ z. z.carrier.into) after) (ap (λ z. z.carrier.out) after) same h
  came l k (links.not_due due after) same = unmoved a.vcp.carrier b.vcp.carrier a.process b.process (ap (λ z. z.carrier.into) after) (ap (λ z. z.carrier.out) after) same h

  sent : (l : ℕ) (k : Token) → links.Sends a.vcp l k b.vcp → b.process ≡ a.process → InStep b.vcp.carrier b.process
  sent l k s same =
      let u = unqueued_halves a.vcp.carrier l s.rest k in
      unmoved a.vcp.carrier b.vcp.carrier a.process b.process (ap (λ z. z.carrier.into) s.after ∙ u.0) (ap (λ z. z.carrier.out) s.after ∙ u.1) same h

  pub stays_in_step : (label : Label Act Token) → NodeStep plan does n a label b → InStep b.vcp.carrier b.process
  stays_in_step (Own (Proc m)) step = moved m step
  stays_in_step (Own (Pass l)) (taken, passes, goes, inner) = passed _ _ a.vcp b.vcp l taken a.process b.process passes goes h
  stays_in_step (Takes (Take l word) w k) (into, comes, rest) = came l k comes rest.process
  stays_in_step (Puts (Put l) w k) (out, sends, rest) = sent l k sends rest.process
  stays_in_step (Puts (Fct l) w k) (out, fct, sends, rest) = unmoved a.vcp.carrier b.vcp.carrier a.process b.process (ap (λ z. z.carrier.into) sends.after) (ap (λ z. z.carrier.out) sends.after) rest.process h
  stays_in_step d step = absurd step
