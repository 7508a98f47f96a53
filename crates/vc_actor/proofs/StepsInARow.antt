-- What a node's process does in a row, the node does as an actor.
use Rattle.std.proofs.Common.{◌≡◌, ◌∙◌, ◌<◌, ℕ, zero, ap, refl, subst, sym, List, []}
use Rattle.std.specs.List.{Contains}
use Rattle.vc_accepted.specs.Process.{Process}
use Rattle.vc_network.specs.Network as net
use Rattle.vc_network.specs.Plan.{Plan}
use Rattle.vc_occam.specs.declared.moves.Move.{Move}
use Rattle.vc_occam.specs.declared.moves.Move.TheVariants as move
use Rattle.vc_occam.specs.Runnings.{inner_channels, state}
use Rattle.vc_occam.specs.Sites.{OwnSites}
use Rattle.vc_occam.specs.States.{State, Waiting, input, output, waiting}
use Rattle.vc_occam.specs.StepsInARow as occam
use Rattle.vc_occam.proofs.Sites.{doing_keeps}
use Rattle.vc_occam.proofs.StepWaits.{waits_after}
use Rattle.vc_process.proofs.Lists.{at_front}
use Rattle.vc_process.specs.ProcessStep as step
use Rattle.vc_process.specs.Usage.{Set}
use Rattle.vc_vcp.specs.State.{limit_of}
use Rattle.vc_vcp.specs.VcpView.{ends_of, seen}
use Rattle.vc_actor.specs.ActorView.{Acting, OfNode, process_of, views_of}
use Rattle.vc_actor.specs.OfPlan.{AreInside, IsActorOf, IsNodeOf}
use Rattle.vc_actor.specs.StepsInARow.{MakesSteps, RestsOn, still, on}
use Rattle.vc_actor.specs.declared.node.Node.{Node}
use Rattle.vc_actor.proofs.Halves as halved

module _ (plan : Plan) (k : ℕ) (there : k < plan.nodes) (n : Node) where
  -- the node, with another process
  abbrev with_process : Process → net.Actor Process
  with_process p = net.IsNode (record { vcp = seen n.vcp; process = p; inner = views_of n.inside })

  rows : (ins : Set) {m i j : ℕ} {s t : State} → occam.RestsOn ins m i s j t → RestsOn plan k m (with_process (record { inside = ins; state = s })) (with_process (record { inside = ins; state = t }))
  rows ins occam.still = still
  rows ins (occam.on {j = j} only acts more) =
      on j (there, ((subst (λ (ms : List Move). Contains ms (move.Quiet j)) (sym only) (at_front (move.Quiet j) []), record { comms = acts.0; does = acts.1; inside = refl }), refl, refl)) (rows ins more)

  own_kept : {ins : Set} {m i j : ℕ} {s t : State} → occam.RestsOn ins m i s j t → OwnSites s.rest → OwnSites t.rest
  own_kept occam.still own = own
  own_kept (occam.on {j = j} {s = s} {t = t} only acts more) own = own_kept more (doing_keeps s t (step.Rests j) acts.0 acts.1 own)

  waits_kept : {ins : Set} {m i j : ℕ} {s t : State} → occam.RestsOn ins m i s j t → (w : Waiting) → Contains (waiting s.rest) w → Contains (waiting t.rest) w
  waits_kept occam.still w h = h
  waits_kept (occam.on {j = j} {s = s} {t = t} only acts more) w h = waits_kept more w (halved.kept (waiting s.rest) (waiting t.rest) (waits_after s t (step.Rests j) acts.0 acts.1) w h)

  pub makes_steps : (u : Node) (m i j : ℕ) → IsNodeOf plan k n → u.vcp ≡ n.vcp → u.inside ≡ n.inside → occam.RestsOn (inner_channels n.process) m i (state n.process) j (state u.process) →
      inner_channels u.process ≡ inner_channels n.process → MakesSteps plan k m (OfNode n) (OfNode u)
  makes_steps u m i j is vcp inside steps same =
      let ins = inner_channels n.process in
      let node : net.Actor Process → Type 0 = λ a. RestsOn plan k m (with_process (process_of n.process)) a in
      let old = waiting (state n.process).rest in
      let new = waiting (state u.process).rest in
      record {
        steps = subst (λ x. node (net.IsNode (record { vcp = x; process = process_of u.process; inner = views_of u.inside }))) (sym (ap seen vcp))
            (subst (λ x. node (net.IsNode (record { vcp = seen n.vcp; process = process_of u.process; inner = views_of x }))) (sym inside)
            (subst (λ x. node (with_process (record { inside = x; state = state u.process }))) (sym same) (rows ins steps)));
        kept = (
          there,
          record {
            ends = ap ends_of vcp ∙ is.ends;
            limit = ap (λ z. limit_of z.ins) vcp ∙ is.limit;
            inside = subst (AreInside plan k) (sym inside) is.inside;
            own = own_kept steps is.own;
            in_step = halved.by_parts (seen u.vcp).carrier (process_of u.process)
                (halved.has_same halved.Wants input (seen n.vcp).carrier.into (seen u.vcp).carrier.into old new (ap (λ z. (seen z).carrier.into) vcp) is.in_step.inputs (λ j d. waits_kept steps (input j d)))
                (halved.has_same halved.Sends output (seen n.vcp).carrier.out (seen u.vcp).carrier.out old new (ap (λ z. (seen z).carrier.out) vcp) is.in_step.outputs (λ j d. waits_kept steps (output j d)));
          },
        );
      }

-- where no step is made all stays
pub no_steps : (plan : Plan) (k : ℕ) (a : Acting) → IsActorOf plan k a → MakesSteps plan k zero a a
no_steps plan k a is = record { steps = still; kept = is }
