-- Wherever a list of events has led, each node's process is in step with its halves, and past the nodes there are switches.
use Rattle.std.proofs.Common.{◌≡◌, ℕ, ◌+◌, Bool, true, false, inl, inr, List, [], ◌∷◌, ◌++◌, length, refl, sym, ap, subst, ◌∙◌, arith, if◌then◌else◌, nat_lt}
use Rattle.std.proofs.lemmas.Bool.{cases_eq}
use Rattle.std.proofs.lemmas.Bool.Decides.{nat_tests}
use Rattle.vc_accepted.proofs.AcceptedNetwork.{accepted}
use Rattle.vc_accepted.specs.Begin.{begin_of}
use Rattle.vc_accepted.specs.NetworkOf.{network_of}
use Rattle.vc_accepted.specs.Process.{Process, does}
use Rattle.vc_free.proofs.InStep.{stays_in_step}
use Rattle.vc_free.proofs.TokenEvents.{Placed}
use Rattle.vc_machine.specs.Links.{Tokens, no_tokens}
use Rattle.vc_machine.specs.Rendezvous.{nothing_yet}
use Rattle.vc_machine.specs.TokenMachine.{TokenEvent, TokenRun}
use Rattle.vc_network.proofs.Main.{good_start}
use Rattle.vc_network.proofs.Nexts.{next}
use Rattle.vc_network.proofs.Steps.{Good, runs_joined}
use Rattle.vc_network.specs.Actors.{Label, Network, ActBy, Step}
use Rattle.vc_network.specs.Network.{Act, Node, Actor, IsNode, IsSwitch, Local, first, begins, Happens, HappenAll}
use Rattle.vc_network.specs.Plan as network
use Rattle.vc_network.specs.Plan.{back, net_of}
use Rattle.vc_network.specs.Views.{vcp_of}
use Rattle.vc_plan.specs.Accepted.{IsAccepted}
use Rattle.vc_plan.specs.declared.plan.Plan.{Plan}
use Rattle.vc_switch.specs.Switch.{Switch, new_switch}
use Rattle.vc_switch.specs.Waiting.{Waiting}
use Rattle.vc_tokens.specs.Tokens.{Token}
use Rattle.vc_vcp.specs.Links.{Vcp, new_vcp}
use Rattle.vc_actor.specs.OfPlan.{InStep}
use Rattle.vc_actor.proofs.OpeningState.{rests}
use Rattle.vc_placement.proofs.OneNode.{same_node}

pub first_vcp : (p : Plan) (n : ℕ) → vcp_of (first (network_of p) (begin_of p) n) ≡ new_vcp
first_vcp p n = by_test (nat_lt n (length p.nodes))
  where
    by_test : (b : Bool) → vcp_of {P = Process} (if b then IsNode (record { vcp = new_vcp; process = begin_of p n; inner = λ c. nothing_yet }) else IsSwitch new_switch) ≡ new_vcp
    by_test true = refl
    by_test false = refl

first_placed : (p : Plan) → Placed p (begins (network_of p) (begin_of p))
first_placed p = record {
  in_step = λ n a is. rests a.vcp.carrier a.process (ap (λ z. (vcp_of z).carrier) (sym is) ∙ ap (λ (v : Vcp). v.carrier) (first_vcp p n));
  switch = λ k. (new_switch, past k);
}
  where
    past : (k : ℕ) → first (network_of p) (begin_of p) (length p.nodes + k) ≡ IsSwitch new_switch
    past k =
        let e : nat_lt (length p.nodes + k) (length p.nodes) ≡ false = grind (arith, nat_tests) in
        ap (λ (b : Bool). if b then IsNode (record { vcp = new_vcp; process = begin_of p (length p.nodes + k); inner = λ c. nothing_yet }) else IsSwitch new_switch) e

no_node : (a : Switch) (b : Node Process) → IsSwitch a ≡ IsNode b → ⊥
no_node a b e = cc

no_switch : (a : Node Process) (b : Switch) → IsNode a ≡ IsSwitch b → ⊥
no_switch a b e = cc

module _ (p : Plan) (waiting : Waiting) (s u : Network (Actor Process) Token) (n : ℕ) (label : Label Act Token) (h : Step (Local (network_of p) waiting does) s n label u) (old : Placed p s) where
  node_placed : (x y : Actor Process) → s.state n ≡ x → Local (network_of p) waiting does n x label y → (b : Node Process) → y ≡ IsNode b → InStep b.vcp.carrier b.process
  node_placed (IsNode a) (IsNode c) is step b e = subst (λ (z : Node Process). InStep z.vcp.carrier z.process) (same_node c b e) (stays_in_step (network_of p) n a c (old.in_step n a is) label step.1)
  node_placed (IsNode a) (IsSwitch c) is step b e = absurd step
  node_placed (IsSwitch a) (IsNode c) is step b e = absurd step
  node_placed (IsSwitch a) (IsSwitch c) is step b e = absurd (no_node c b e)

  switch_placed : (x y : Actor Process) → Local (network_of p) waiting does n x label y → (a : Switch) → x ≡ IsSwitch a → (b : Switch) × (y ≡ IsSwitch b)
  switch_placed (IsSwitch a) (IsSwitch c) step b e = (c, refl)
  switch_placed (IsSwitch a) (IsNode c) step b e = absurd step
  switch_placed (IsNode a) (IsSwitch c) step b e = absurd step
  switch_placed (IsNode a) (IsNode c) step b e = absurd (no_switch a b e)

  next_placed : Placed p u
  next_placed = record {
    in_step = λ m b is. elim (cases_eq m n) [
      | inl same ↦ node_placed (s.state n) (u.state n) refl h.local b (sym (ap u.state same) ∙ is)
      | inr other ↦ old.in_step m b (sym (h.others m other) ∙ is)
    ];
    switch = λ k. elim (cases_eq (length p.nodes + k) n) [
      | inl same ↦ (let o = old.switch k in let r = switch_placed (s.state n) (u.state n) h.local o.0 (sym (ap s.state same) ∙ o.1) in (r.0, ap u.state same ∙ r.1))
      | inr other ↦ (let o = old.switch k in (o.0, h.others (length p.nodes + k) other ∙ o.1))
    ];
  }

-- where a list of events has led
pub record Arrived (p : Plan) (waiting : Waiting) (s : Network (Actor Process) Token) : Type 0 where
  pub tokens : Tokens
  pub events : List TokenEvent
  pub run : TokenRun (net_of (network_of p)) back waiting no_tokens events tokens
  pub good : Good (network_of p) s tokens
  pub placed : Placed p s

module _ (p : Plan) (waiting : Waiting) (acc : IsAccepted p) where
  abbrev plan : network.Plan
  plan = network_of p

  pub happened : (s u : Network (Actor Process) Token) (e : ActBy Act) → Arrived p waiting s → Happens plan waiting does s e u → Arrived p waiting u
  happened s u e a h =
      let x = next plan waiting does (accepted p acc) s u a.tokens e.actor h.0 a.good h.2 in
      record {
        tokens = x.new;
        events = a.events ++ x.events;
        run = runs_joined (net_of plan) waiting no_tokens a.tokens x.new a.events x.events a.run x.run;
        good = x.good;
        placed = next_placed p waiting s u e.actor h.0 h.2 a.placed;
      }

  all_happened : (es : List (ActBy Act)) (s u : Network (Actor Process) Token) → Arrived p waiting s → HappenAll plan waiting does s es u → Arrived p waiting u
  all_happened [] s u a h =
      let same : s ≡ u = λ i. record { state = λ n. sym (h.states n) i; way = λ w. sym (h.ways w) i } in
      subst (Arrived p waiting) same a
  all_happened (e ∷ es) s u a h = all_happened es h.0 u (happened s h.0 e a h.1) h.2

  pub arrived : (es : List (ActBy Act)) (s : Network (Actor Process) Token) → HappenAll plan waiting does (begins plan (begin_of p)) es s → Arrived p waiting s
  arrived es s h =
      all_happened es (begins plan (begin_of p)) s
      (record { tokens = no_tokens; events = []; run = refl; good = good_start plan (begin_of p); placed = first_placed p }) h
