-- The packets of a network go as the packet machine has it.
use Rattle.std.proofs.Common.{◌≡◌, ℕ, ◌≤◌, List, [], ◌∷◌, length, Option, Some, None, refl, sym, ap, subst, ◌∙◌, arith}
use Rattle.vc_network.specs.Actors.{Network}
use Rattle.vc_packets.specs.declared.mark.Mark.{Mark}
use Rattle.vc_machine.specs.Links.{Receiver, Tokens, no_tokens}
use Rattle.vc_machine.specs.Machine.{Event, Enter, Route, Run}
use Rattle.vc_machine.specs.Paths.{Port, AtNode, AtSwitch, Net}
use Rattle.vc_machine.specs.PacketsOfTokens.{input_of, seen}
use Rattle.vc_machine.specs.TokenMachine.{TokenEvent, TokenRun}
use Rattle.vc_machine.specs.View as view
use Rattle.vc_machine.proofs.Functional.{seen_is}
use Rattle.vc_machine.proofs.Refinement.{step_view, runs_are_runs}
use Rattle.vc_switch.specs.Switch.{Switch}
use Rattle.vc_switch.specs.Waiting.{Waiting, Wormhole}
use Rattle.vc_tokens.specs.Tokens.{Token}
use Rattle.vc_vcp.specs.Links.{Vcp}
use Rattle.vc_network.specs.Network.{Actor, begins}
use Rattle.vc_network.specs.Packets.{IsMarked, IsInputAt, StandsForPackets, AtMostTwoSteps, no_step, one_step, enters_bound, EventsAreSteps}
use Rattle.vc_network.specs.Plan.{Plan, far, back, net_of, IsAccepted}
use Rattle.vc_network.specs.Processes.{StepRelation}
use Rattle.vc_network.specs.Views.{vcps, switches, Arrived, arrived, on_wire}
use Rattle.vc_network.proofs.Main.{ran, good_start, same_arrived}
use Rattle.vc_network.proofs.Nexts.{next}
use Rattle.vc_network.proofs.Replays.{replayed}
use Rattle.vc_network.proofs.TokenViews.{SameReceiver}
use Rattle.vc_network.proofs.Steps.{Good}
use Rattle.vc_network.proofs.Wiring.{net_accepted}

-- what a way's far end keeps
node_empty : (got : List ℕ) (mark : Option Mark) (bound : Option ℕ) → mark ≡ None → input_of got mark bound ≡ input_of got None bound
node_empty got mark bound e = ap (λ z. input_of got z bound) e

kept : (plan : Plan) (vs : ℕ → Vcp) (sw : ℕ → Switch) (p : Port) (r : Receiver) → SameReceiver plan vs sw p r → IsInputAt plan sw p (input_of r.got r.mark r.bound)
kept plan vs sw (AtNode n l) r e = node_empty r.got r.mark r.bound e.mark
kept plan vs sw (AtSwitch k l) r e = by_mark ((sw k).input l).mark refl
  where
    by_mark : (m : Option Mark) → ((sw k).input l).mark ≡ m → IsMarked plan k ((sw k).input l).mark ((sw k).input l) (input_of r.got r.mark r.bound)
    by_mark None h =
        subst (λ z. IsMarked plan k z ((sw k).input l) (input_of r.got r.mark r.bound)) (sym h) (ap (λ z. input_of r.got z r.bound) (e.mark ∙ h))
    by_mark (Some m) h =
        subst (λ z. IsMarked plan k z ((sw k).input l) (input_of r.got r.mark r.bound)) (sym h)
        (r.bound, ap (λ z. input_of r.got z r.bound) (e.mark ∙ h) ∙ ap (λ z. input_of z (Some m) r.bound) e.got, e.bound)

stands : {P : Type 0} (plan : Plan) (s : Network (Actor P) Token) (t : Tokens) → Good plan s t → StandsForPackets plan s (seen (net_of plan) t)
stands plan s t g = record {
  queue = λ w real. g.shows.nodes.queue w real;
  line = λ w real.
      let r = t.receiver w in
      let a : Arrived = record { buffer = r.buffer; got = r.got; mark = r.mark } in
      let e : a ≡ arrived (vcps s) (switches plan s) (far plan w) = same_arrived plan (vcps s) (switches plan s) (far plan w) r (g.shows.receiver w real) in
      let wire = g.shows.wire w in
      λ i. on_wire plan (far plan w) (e i) (wire i);
  input = λ w real. kept plan (vcps s) (switches plan s) (far plan w) (t.receiver w) (g.shows.receiver w real);
  chan = g.shows.nodes.chan;
}

-- the steps of the packet machine for one event of the ways at most
record Goes (net : Net) (t u : Tokens) : Type 0 where
  pub steps : List Event
  pub few : AtMostTwoSteps steps
  pub run : Run net (seen net t) steps (seen net u)

module _ (plan : Plan) (waiting : Waiting) (acc : IsAccepted plan) where
  two_steps : (t v : Tokens) → view.AtMostTwo (net_of plan) (seen (net_of plan) t) v → Goes (net_of plan) t v
  two_steps t v (view.stays h) = record { steps = []; few = no_step; run = sym (seen_is (net_of plan) v (seen (net_of plan) t) h) }
  two_steps t v (view.moves e y step h) =
      record { steps = e ∷ []; few = one_step e; run = (y, step, sym (seen_is (net_of plan) v y h)) }
  two_steps t v (view.enters_bound w out drawn y x first second h) =
      record { steps = Enter w drawn ∷ Route w out ∷ []; few = enters_bound w out drawn; run = (y, first, (x, second, sym (seen_is (net_of plan) v x h))) }

  module _ {P : Type 0} (s : Network (Actor P) Token) (t : Tokens) (g : Good plan s t) where
    goes : (events : List TokenEvent) (u : Tokens) → length events ≤ 1 → TokenRun (net_of plan) back waiting t events u → Goes (net_of plan) t u
    goes [] u few run = record { steps = []; few = no_step; run = ap (seen (net_of plan)) run }
    goes (e ∷ []) u few run =
        subst (Goes (net_of plan) t) (sym run.2)
        (two_steps t run.0 (step_view (net_of plan) back waiting (net_accepted plan acc).ranges t (seen (net_of plan) t) e run.0 g.sound.bindings g.sound.view run.1))
    goes (e ∷ f ∷ es) u few run = absurd (omega arith)

pub events_are_steps : {P : Type 0} (plan : Plan) (waiting : Waiting) (Does : StepRelation P) (begin : ℕ → P) → EventsAreSteps plan waiting Does begin
events_are_steps plan waiting Does begin es s acc h =
    let q = replayed plan waiting Does (begins plan begin) s es h in
    let r = ran plan waiting Does acc q.0 (begins plan begin) s no_tokens (good_start plan begin) q.1 in
    let net = net_of plan in
    let ways_run = runs_are_runs net back Wormhole (net_accepted plan acc).ranges r.good.sound.events r.new r.good.sound.run in
    record {
      state = seen net r.new;
      events = ways_run.events;
      run = subst (Run net _ ways_run.events) (seen_is net r.new ways_run.after ways_run.view) ways_run.run;
      stands = stands plan s r.new r.good;
      next = λ e u happens.
          let x = next plan waiting Does acc s u r.new e.actor happens.0 r.good happens.2 in
          let k = goes plan waiting acc s r.new r.good x.events x.new x.single x.run in
          (seen net x.new, k.steps, k.few, k.run, stands plan u x.new x.good);
    }
