-- By which way a body leaves a switch of the network, as the code finds it.
use Rattle.std.proofs.Common.{◌≡◌, ℕ, ◌+◌, ◌≤◌, List, Option, Some, None, slice_get, refl, arith, sym, ap, ◌∙◌, subst}
use Rattle.vc_machine.specs.Machine.{BodyLeaves}
use Rattle.vc_machine.specs.Paths.{AtSwitch}
use Rattle.vc_network.specs.Plan.{IsOutOf, net_of}
use Rattle.vc_plan.specs.declared.plan.Plan.{Plan}
use Rattle.vc_labels.specs.declared.action.Action.TheVariants.{Out}
use Rattle.vc_labels.specs.Interval.{action_for}
use Rattle.vc_accepted.specs.NetworkOf.{network_of}
use Rattle.vc_accepted.specs.ActorWays.{outgoing}
use Rattle.vc_accepted.proofs.AcceptedNetwork.{accepted}
use Rattle.vc_accepted.proofs.WayPorts.{outgoing_is}
use Rattle.vc_switch.specs.State.{State as SwitchState, plan_of}
use Rattle.vc_switch.specs.Switch as switch
use Rattle.vc_actor.specs.Acts.{port}
use Rattle.vc_actor.specs.Private.Parts.{switch_at}
use Rattle.vc_core.specs.State.{State, IsNetworkOf}
use Rattle.vc_core.specs.Wiring.{out_at}
use Rattle.vc_core.proofs.Enablement.{real_out}
use Rattle.vc_core.proofs.WaysOut.{few_actors}
use Rattle.vc_core.proofs.PortPlaces.{switch_plan_is, no_switch_there, no_switch_plan}
use Rattle.vc_actor.proofs.SwitchCalls.{port_is}

-- nothing leaves a switch that is not there
pub no_way : (p : Plan) (s : State) (k : ℕ) (b : List ℕ) → IsNetworkOf p s → switch_at (slice_get s.actors (s.nodes + k)) ≡ None → (out : ℕ) (left : List ℕ) → BodyLeaves (net_of (network_of p)) k b out left → ⊥
no_way p s k b is none out left leaves =
    let l = leaves.leaves in
    let table = ap (λ z. action_for z.table l.header) (no_switch_plan p k (no_switch_there p s k is none)) in
    let q : None ≡ Some (Out l.first l.last) = sym table ∙ l.group in
    absurd (cc)

-- what leaves in the network's words leaves in the switch's
switch_leaves : (p : Plan) (s : State) (k : ℕ) (x : SwitchState) (b : List ℕ) → IsNetworkOf p s → switch_at (slice_get s.actors (s.nodes + k)) ≡ Some x → (out : ℕ) (left : List ℕ) → BodyLeaves (net_of (network_of p)) k b out left →
    (link : ℕ) × switch.BodyLeaves (plan_of x) b link left
switch_leaves p s k x b is here out left leaves =
    let l = leaves.leaves in (
      l.link,
      subst (λ z. switch.BodyLeaves z b l.link left) (sym (switch_plan_is p s k x is here))
          (record {
            stack = leaves.stack;
            after = leaves.after;
            rest = leaves.rest;
            before_is = leaves.before_is;
            leaves = record { header = l.header; rest = l.rest; first = l.first; last = l.last; front = l.front; group = l.group; low = l.low; high = l.high; left = l.left };
            after_is = leaves.after_is;
          }),
    )

pub no_first : (p : Plan) (s : State) (k : ℕ) (x : SwitchState) (b : List ℕ) → IsNetworkOf p s → switch_at (slice_get s.actors (s.nodes + k)) ≡ Some x → ((link : ℕ) (left : List ℕ) → switch.BodyLeaves (plan_of x) b link left → ⊥) →
    (out : ℕ) (left : List ℕ) → BodyLeaves (net_of (network_of p)) k b out left → ⊥
no_first p s k x b is here none out left leaves = let r = switch_leaves p s k x b is here out left leaves in none r.0 left r.1

-- each link of a group is on a wire
goes_out : (p : Plan) (s : State) (k link : ℕ) (x : SwitchState) (b left : List ℕ) → IsNetworkOf p s → switch_at (slice_get s.actors (s.nodes + k)) ≡ Some x → switch.BodyLeaves (plan_of x) b link left →
    (w : ℕ) × (out_at s.wiring (s.nodes + k) link ≡ Some w)
goes_out p s k link x b left is here leaves =
    let plan = network_of p in
    let l = (subst (λ z. switch.BodyLeaves z b link left) (switch_plan_is p s k x is here) leaves).leaves in
    let w = (accepted p is.accepted).groups k l.header l.first l.last link l.group l.low l.high in
    let at : port plan (s.nodes + k) link ≡ AtSwitch k link = port_is plan (s.nodes + k) k link (ap (λ n. n + k) is.nodes) in
    (w.0, is.wiring (s.nodes + k) link ∙ (outgoing_is p is.accepted (s.nodes + k) link w.0).1 (subst (IsOutOf plan w.0) (sym at) w.1))

pub no_out : (p : Plan) (s : State) (k link : ℕ) (x : SwitchState) (b left : List ℕ) → IsNetworkOf p s → switch_at (slice_get s.actors (s.nodes + k)) ≡ Some x → switch.BodyLeaves (plan_of x) b link left → None ≡ out_at s.wiring (s.nodes + k) link → ⊥
no_out p s k link x b left is here leaves none =
    let w = goes_out p s k link x b left is here leaves in
    let q : None ≡ Some w.0 = none ∙ w.1 in
    absurd (cc)

-- the way that goes out by the link
pub by_way : (p : Plan) (s : State) (k link way : ℕ) (x : SwitchState) (b left : List ℕ) → IsNetworkOf p s → switch_at (slice_get s.actors (s.nodes + k)) ≡ Some x → switch.BodyLeaves (plan_of x) b link left →
    Some way ≡ out_at s.wiring (s.nodes + k) link → BodyLeaves (net_of (network_of p)) k b way left
by_way p s k link way x b left is here leaves out =
    let plan = network_of p in
    let h = subst (λ z. switch.BodyLeaves z b link left) (switch_plan_is p s k x is here) leaves in
    let l = h.leaves in
    let at : port plan (s.nodes + k) link ≡ AtSwitch k link = port_is plan (s.nodes + k) k link (ap (λ n. n + k) is.nodes) in
    let w = subst (IsOutOf plan way) at ((outgoing_is p is.accepted (s.nodes + k) link way).0 (sym (is.wiring (s.nodes + k) link) ∙ sym out)) in
    record {
      stack = h.stack;
      after = h.after;
      rest = h.rest;
      before_is = h.before_is;
      leaves = record { header = l.header; rest = l.rest; first = l.first; last = l.last; link = link; front = l.front; group = l.group; low = l.low; high = l.high; real = w.0; near = w.1; left = l.left };
      after_is = h.after_is;
    }

-- no way goes out of an actor past them all
pub none_far : (p : Plan) (s : State) (k link : ℕ) → IsNetworkOf p s → 256 ≤ s.nodes + k → None ≡ out_at s.wiring (s.nodes + k) link
none_far p s k link is past = by_way_out (outgoing p (s.nodes + k) link) refl
  where
    by_way_out : (o : Option ℕ) → outgoing p (s.nodes + k) link ≡ o → None ≡ out_at s.wiring (s.nodes + k) link
    by_way_out None e = sym (is.wiring (s.nodes + k) link ∙ e)
    by_way_out (Some w) e =
        let plan = network_of p in
        let at : port plan (s.nodes + k) link ≡ AtSwitch k link = port_is plan (s.nodes + k) k link (ap (λ n. n + k) is.nodes) in
        let out = subst (IsOutOf plan w) at ((outgoing_is p is.accepted (s.nodes + k) link w).0 e) in
        let real = (real_out p is.accepted w k link out).0 in
        let few = few_actors p is.accepted in
        let nodes = is.nodes in
        absurd (omega arith)
