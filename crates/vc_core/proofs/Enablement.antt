-- An event some_at a step of the definitions where its actor some_at the act and its ways let it, and only there.
use Rattle.std.proofs.Common.{◌≡◌, ℕ, ◌+◌, ◌-◌, ◌/◌, ◌%◌, ◌<◌, ◌≤◌, Bool, true, false, ◌&&◌, List, [], ◌∷◌, ◌++◌, length, slice_get, Option, Some, None, refl, sym, ap, ◌∙◌, subst, arith, append-nil, if◌then◌else◌, ◌==◌, eq-eqb}
use Rattle.std.proofs.lemmas.Bool.Decides.{nat_tests}
use Rattle.std.proofs.lemmas.Bool.{and_parts}
use Rattle.std.specs.List.{list_all}
use Rattle.std.specs.Option.{option_map}
use Rattle.vc_network.specs.Actors.{Step, Label, act_of as label_act}
use Rattle.vc_network.specs.Actors.Label.{Own, Takes, Puts}
use Rattle.vc_accepted.specs.NetworkOf.{network_of, wire_of, port_at}
use Rattle.vc_accepted.proofs.Across.{wire_is}
use Rattle.vc_accepted.proofs.Limits.{kept}
use Rattle.vc_accepted.proofs.Elements.{there}
use Rattle.vc_accepted.proofs.Ports.{side_of}
use Rattle.vc_accepted.proofs.WayPorts.{wired, outgoing_is, incoming_is}
use Rattle.vc_machine.specs.Paths.{AtNode, AtSwitch}
use Rattle.vc_network.specs.EnabledEvents.{IsEnabled}
use Rattle.vc_network.specs.Network as net
use Rattle.vc_network.specs.Plan.{IsOutOf, IsInto, back, switch_plan}
use Rattle.vc_network.specs.Plan as network
use Rattle.vc_network.proofs.Backs.{back_out}
use Rattle.vc_network.proofs.Writes.{own_step, take_step, put_step}
use Rattle.vc_plan.proofs.Limits.{passes}
use Rattle.vc_plan.specs.Accepted.{IsAccepted, port_of}
use Rattle.vc_plan.specs.Limits.{link_ok, port_ok, wire_ok, ends_ok, switch_links_ok, spot_there}
use Rattle.vc_plan.specs.declared.plan.Plan.{Plan}
use Rattle.vc_plan.specs.declared.port.Spot.{Spot}
use Rattle.vc_plan.specs.declared.port.Spot.TheVariants.{Node as AtSpot, Switch}
use Rattle.vc_plan.specs.declared.port.Wire.{Wire}
use Rattle.vc_switch.specs.State.{State as SwitchState, plan_of, limit_of}
use Rattle.vc_switch.specs.SwitchView.{seen as seen_switch}
use Rattle.vc_switch.specs.Switch.{Switch as Switching, new_switch, Passes, Routes, Sends}
use Rattle.vc_switch.specs.Waiting.{Wormhole}
use Rattle.vc_switch.proofs.Steps.{each_comes}
use Rattle.vc_switch.proofs.ListWrites.{some_at}
use Rattle.vc_tokens.specs.Tokens.{Token}
use Rattle.vc_tokens.specs.Tokens as tokens
use Rattle.vc_packets.specs.Functions.{shown_or}
use Rattle.vc_vcp.specs.VcpView.{seen}
use Rattle.vc_vcp.proofs.Arrivals.{comes_always}
use Rattle.vc_actor.specs.Able.{NodeCan, SwitchCan, CanAct}
use Rattle.vc_actor.specs.Acts.{port}
use Rattle.vc_core.specs.PossibleEvents.{CanHappen}
use Rattle.vc_actor.specs.OfPlan.{IsSwitchOf, IsActorOf}
use Rattle.vc_accepted.specs.Process.{Process, does}
use Rattle.vc_actor.specs.ActorView.{Acting, OfNode, OfSwitch, actor_of, node_of, process_of, views_of, act_of}
use Rattle.vc_core.specs.State.{State, shown, IsNetworkOf, HasFront, HasWay, WaysLet}
use Rattle.vc_actor.specs.Turns.{actors}
use Rattle.vc_actor.specs.declared.act.Act.{Act}
use Rattle.vc_actor.specs.declared.act.Act.TheVariants as act
use Rattle.vc_core.specs.declared.event.Event.{Event}
use Rattle.vc_actor.specs.declared.node.Node.{Node}
use Rattle.vc_core.proofs.GoingOn.{goes_on}
use Rattle.vc_core.proofs.Events.{none_past, state_at, way_at, into, out_of}
use Rattle.vc_actor.proofs.LinkTokens as node
use Rattle.vc_actor.proofs.Passes.{awaited}
use Rattle.vc_actor.proofs.SwitchCalls.{none_passes, none_leaves}
use Rattle.vc_actor.proofs.SwitchCalls as switching

abbrev Enabled : Plan → State → ℕ → Act → Type 0
Enabled p s k a = IsEnabled (network_of p) Wormhole does (shown s) (record { actor = k; act = act_of a })

-- a step of the actor, to some state
abbrev Steps : Plan → ℕ → Acting → Label net.Act Token → net.Actor Process → Type 0
Steps p k a label u = net.Local (network_of p) Wormhole does k (actor_of a) label u

module _ (p : Plan) (s : State) (k : ℕ) (a : Acting) (is : IsNetworkOf p s) (here : slice_get s.actors k ≡ Some a) where
  local : (label : Label net.Act Token) (u : net.Actor Process) → Steps p k a label u → net.Local (network_of p) Wormhole does k ((shown s).state k) label u
  local label u step = subst (λ z. net.Local (network_of p) Wormhole does k z label u) (sym (state_at s k a here)) step

  own_enabled : (b : Act) (u : net.Actor Process) → Steps p k a (Own (act_of b)) u → Enabled p s k b
  own_enabled b u step = (_, (Own (act_of b), refl, own_step (net.Local (network_of p) Wormhole does) (shown s) k (act_of b) u (local (Own (act_of b)) u step)))

  take_enabled : (l x : ℕ) (f : HasFront s k l) (u : net.Actor Process) → Steps p k a (Takes (net.Take l x) f.way f.token) u → Enabled p s k (act.Take l x)
  take_enabled l x f u step =
      let label = Takes (net.Take l x) f.way f.token in
      (_, (label, refl, take_step (net.Local (network_of p) Wormhole does) (shown s) k (net.Take l x) f.way f.token f.rest u (way_at s f.way (f.token ∷ f.rest) f.stands) (local label u step)))

  put_enabled : (b : Act) (w : ℕ) (t : Token) (u : net.Actor Process) → Steps p k a (Puts (act_of b) w t) u → Enabled p s k b
  put_enabled b w t u step =
      let label = Puts (act_of b) w t in
      (_, (label, refl, put_step (net.Local (network_of p) Wormhole does) (shown s) k (act_of b) w t u (local label u step)))

-- a node's acts
node_enables : (p : Plan) (s : State) (k : ℕ) (b : Act) (n : Node) → IsNetworkOf p s → slice_get s.actors k ≡ Some (OfNode n) → NodeCan (network_of p) k n b → WaysLet s k b → Enabled p s k b
node_enables p s k (act.Proc m) n is here can ways = own_enabled p s k (OfNode n) is here (act.Proc m) (net.IsNode can.0) ((is.actors k (OfNode n) here).0, can.1)
node_enables p s k (act.Take l x) n is here few f =
    let less = (is.actors k (OfNode n) here).0 in
    let c = comes_always (seen n.vcp) l f.token in
    take_enabled p s k (OfNode n) is here l x f (net.IsNode (record (node_of n) { vcp = c.0 }))
    (less, (subst (IsInto (network_of p) f.way) (node.port_is (network_of p) k l less) (into p s k l f is), c.1, record { process = refl; inner = refl }))
node_enables p s k (act.Put l) n is here can f =
    let less = (is.actors k (OfNode n) here).0 in
    put_enabled p s k (OfNode n) is here (act.Put l) f.way can.1.token (net.IsNode (record (node_of n) { vcp = can.1.new }))
    (less, (subst (IsOutOf (network_of p) f.way) (node.port_is (network_of p) k l less) (out_of p s k l f is), can.1.sends, record { process = refl; inner = refl }))
node_enables p s k (act.Fct l) n is here can f =
    let less = (is.actors k (OfNode n) here).0 in
    put_enabled p s k (OfNode n) is here (act.Fct l) f.way tokens.Fct (net.IsNode (record (node_of n) { vcp = can.1.0 }))
    (less, (subst (IsOutOf (network_of p) f.way) (node.port_is (network_of p) k l less) (out_of p s k l f is), refl, can.1.1, record { process = refl; inner = refl }))
node_enables p s k (act.Pass l) n is here can ways =
    let of = is.actors k (OfNode n) here in
    let g = goes_on (process_of n.process) can.taken (awaited (network.body_limit (network_of p)) (network.ends (network_of p) k) (seen n.vcp) can.new l can.taken (process_of n.process) can.passes of.1.in_step) in
    own_enabled p s k (OfNode n) is here (act.Pass l) (net.IsNode (record { vcp = can.new; process = g.0; inner = views_of n.inside })) (of.0, (can.taken, can.passes, g.1, refl))
node_enables p s k (act.Route i o) n is here can ways = absurd can

-- a switch's acts
switch_enables : (p : Plan) (s : State) (k : ℕ) (b : Act) (x : SwitchState) → IsNetworkOf p s → slice_get s.actors k ≡ Some (OfSwitch x) → SwitchCan x b → WaysLet s k b → Enabled p s k b
switch_enables p s k (act.Proc m) x is here can ways = absurd can
switch_enables p s k (act.Take l w) x is here few f =
    let (i, at, of) = is.actors k (OfSwitch x) here in
    let c = each_comes (seen_switch x) l w f.token in
    take_enabled p s k (OfSwitch x) is here l w f (net.IsSwitch c.0) (i, at, (subst (IsInto (network_of p) f.way) (switching.port_is (network_of p) k i l at) (into p s k l f is), c.1))
switch_enables p s k (act.Put l) x is here can f =
    let (i, at, of) = is.actors k (OfSwitch x) here in
    put_enabled p s k (OfSwitch x) is here (act.Put l) f.way can.token (net.IsSwitch can.new)
    (i, at, (subst (IsOutOf (network_of p) f.way) (switching.port_is (network_of p) k i l at) (out_of p s k l f is), subst (λ q. Sends q Wormhole (seen_switch x) l can.token can.new) of.given can.sends))
switch_enables p s k (act.Fct l) x is here can f =
    let (i, at, of) = is.actors k (OfSwitch x) here in
    put_enabled p s k (OfSwitch x) is here (act.Fct l) f.way tokens.Fct (net.IsSwitch can.1.0)
    (i, at, (subst (IsOutOf (network_of p) f.way) (switching.port_is (network_of p) k i l at) (out_of p s k l f is), refl, can.1.1))
switch_enables p s k (act.Pass l) x is here can ways =
    let (i, at, of) = is.actors k (OfSwitch x) here in
    own_enabled p s k (OfSwitch x) is here (act.Pass l) (net.IsSwitch can.0)
    (i, at, subst (λ m. Passes m (switch_plan (network_of p) i) (seen_switch x) l can.0) of.limit (subst (λ q. Passes (limit_of x.inputs) q (seen_switch x) l can.0) of.given can.1))
switch_enables p s k (act.Route l o) x is here can ways =
    let (i, at, of) = is.actors k (OfSwitch x) here in
    own_enabled p s k (OfSwitch x) is here (act.Route l o) (net.IsSwitch can.0) (i, at, subst (λ q. Routes q Wormhole (seen_switch x) l o can.0) of.given can.1)

pub enables : (p : Plan) (s : State) (k : ℕ) (b : Act) (a : Acting) → IsNetworkOf p s → slice_get s.actors k ≡ Some a → CanAct (network_of p) k a b → WaysLet s k b → Enabled p s k b
enables p s k b (OfNode n) is here can ways = node_enables p s k b n is here can ways
enables p s k b (OfSwitch x) is here can ways = switch_enables p s k b x is here can ways

-- The other way round.

-- a node some_at four links, and a switch of the plan 32
few_at : (s : Spot) (link k l : ℕ) → port_at s link ≡ AtNode k l → link_ok s link ≡ true → l < 4
few_at (AtSpot n) link k l at ok = let same : link ≡ l = cc in grind (arith, nat_tests)
few_at (Switch n) link k l at ok = absurd (cc)

there_at : (p : Plan) (s : Spot) (link i l : ℕ) → port_at s link ≡ AtSwitch i l → link_ok s link ≡ true → spot_there p s ≡ true → (i < length p.switches) × (l < 32)
there_at p (AtSpot n) link i l at ok real = absurd (cc)
there_at p (Switch n) link i l at ok real =
    let same : link ≡ l = cc in
    let it : n ≡ i = cc in
    (subst (λ z. z < length p.switches) it (grind (arith, nat_tests)), subst (λ z. z < 32) same (grind (arith, nat_tests)))

port_fits : (p : Plan) → IsAccepted p → (i : ℕ) (w : Wire) (side : Bool) → slice_get p.wires i ≡ Some w → port_ok (port_of w side) ≡ true
port_fits p acc i w side e = by_side side (and_parts (port_ok w.one) (port_ok w.two) ok)
  where
    ok : wire_ok w ≡ true
    ok = passes wire_ok p.wires i w (and_parts (list_all wire_ok p.wires) (list_all ends_ok p.vlinks && list_all switch_links_ok p.switches) (kept p acc).links).0 e

    by_side : (b : Bool) → (port_ok w.one ≡ true) × (port_ok w.two ≡ true) → port_ok (port_of w b) ≡ true
    by_side true h = h.0
    by_side false h = h.1

pub few_out : (p : Plan) → IsAccepted p → (w k l : ℕ) → IsOutOf (network_of p) w (AtNode k l) → l < 4
few_out p acc w k l o = settle (there wire_of p.wires (w / 2) (let r = o.0 in omega arith))
  where
    settle : (x : Wire) × (slice_get p.wires (w / 2) ≡ Some x) → l < 4
    settle (x, e) =
        let side = w % 2 == 0 in
        let port = port_of x side in
        few_at port.spot port.link k l (sym (side_of x side) ∙ ap (λ z. network.port_of z side) (sym (wire_is p (w / 2) x e)) ∙ o.1) (port_fits p acc (w / 2) x side e)

few_into : (p : Plan) → IsAccepted p → (w k l : ℕ) → IsInto (network_of p) w (AtNode k l) → l < 4
few_into p acc w k l o = few_out p acc (back w) k l (back_out (network_of p) w (AtNode k l) o)

pub real_out : (p : Plan) → IsAccepted p → (w i l : ℕ) → IsOutOf (network_of p) w (AtSwitch i l) → (i < length p.switches) × (l < 32)
real_out p acc w i l o = settle (there wire_of p.wires (w / 2) (let r = o.0 in omega arith))
  where
    settle : (x : Wire) × (slice_get p.wires (w / 2) ≡ Some x) → (i < length p.switches) × (l < 32)
    settle (x, e) =
        let side = w % 2 == 0 in
        let port = port_of x side in
        there_at p port.spot port.link i l (sym (side_of x side) ∙ ap (λ z. network.port_of z side) (sym (wire_is p (w / 2) x e)) ∙ o.1) (port_fits p acc (w / 2) x side e) (wired p acc (w / 2) x side e)

real_into : (p : Plan) → IsAccepted p → (w i l : ℕ) → IsInto (network_of p) w (AtSwitch i l) → (i < length p.switches) × (l < 32)
real_into p acc w i l o = real_out p acc (back w) i l (back_out (network_of p) w (AtSwitch i l) o)

-- where a token comes it can be taken
pub can_take : (p : Plan) (s : State) (k l x : ℕ) (a : Acting) → HasFront s k l → IsNetworkOf p s → slice_get s.actors k ≡ Some a → CanAct (network_of p) k a (act.Take l x)
can_take p s k l x (OfNode n) f is here = few_into p is.accepted f.way k l (subst (IsInto (network_of p) f.way) (node.port_is (network_of p) k l (is.actors k (OfNode n) here).0) (into p s k l f is))
can_take p s k l x (OfSwitch y) f is here =
    let (i, at, of) = is.actors k (OfSwitch y) here in
    (real_into p is.accepted f.way i l (subst (IsInto (network_of p) f.way) (switching.port_is (network_of p) k i l at) (into p s k l f is))).1

-- where a token comes there is an actor
pub comes_to : (p : Plan) (s : State) (k l : ℕ) → HasFront s k l → IsNetworkOf p s → slice_get s.actors k ≡ None → ⊥
comes_to p s k l f is none =
    let past : actors p ≤ k = subst (λ z. z ≤ k) is.count (none_past s.actors k none) in
    let i = k - length p.nodes in
    let at : k ≡ length p.nodes + i = omega (arith, past) in
    let less = (real_into p is.accepted f.way i l (subst (IsInto (network_of p) f.way) (switching.port_is (network_of p) k i l at) (into p s k l f is))).0 in
    omega (arith, past, less)

-- what stands on a way stands there for the code too
stands_by : (o : Option (List Token)) (t : Token) (rest : List Token) → shown_or [] (λ ts. ts) o ≡ t ∷ rest → o ≡ Some (t ∷ rest)
stands_by None t rest e = absurd (cc)
stands_by (Some ts) t rest e = ap Some e

pub has_way : (p : Plan) (s : State) (k l w : ℕ) → IsNetworkOf p s → IsOutOf (network_of p) w (port (network_of p) k l) → HasWay s k l
has_way p s k l w is o =
    let t = some_at s.ways w (subst (λ z. w < z) (sym is.ways) o.0) in
    record { way = w; tokens = t.0; out = is.wiring k l ∙ (outgoing_is p is.accepted k l w).1 o; stand = t.1 }

pub has_front : (p : Plan) (s : State) (k l w : ℕ) (t : Token) (rest : List Token) → IsNetworkOf p s → IsInto (network_of p) w (port (network_of p) k l) → (shown s).way w ≡ t ∷ rest → HasFront s k l
has_front p s k l w t rest is o front =
    record { way = w; token = t; rest = rest; into = ap (option_map back) (is.wiring k l) ∙ (incoming_is p is.accepted k l w).1 o; stands = stands_by (slice_get s.ways w) t rest front }

-- the actor some_at the act, and its ways let it
record Lets (p : Plan) (s : State) (k : ℕ) (b : Act) (a : Acting) : Type 0 where
  can : CanAct (network_of p) k a b
  ways : WaysLet s k b

node_own : (p : Plan) (s : State) (k : ℕ) (b : Act) (n : Node) (u : net.Node Process) → net.NodeStep (network_of p) does k (node_of n) (Own (act_of b)) u → Lets p s k b (OfNode n)
node_own p s k (act.Proc m) n u h = record { can = (u, h); ways = tt }
node_own p s k (act.Pass l) n u h = record { can = record { taken = h.0; new = u.vcp; passes = h.1 }; ways = tt }
node_own p s k a n u h = absurd h

node_take : (p : Plan) (s : State) (k : ℕ) (b : Act) (n : Node) (w : ℕ) (t : Token) (rest : List Token) (u : net.Node Process) → IsNetworkOf p s → k < length p.nodes → (shown s).way w ≡ t ∷ rest →
    net.NodeStep (network_of p) does k (node_of n) (Takes (act_of b) w t) u → Lets p s k b (OfNode n)
node_take p s k (act.Take l x) n w t rest u is less front h =
    record { can = few_into p is.accepted w k l h.0; ways = has_front p s k l w t rest is (subst (IsInto (network_of p) w) (sym (node.port_is (network_of p) k l less)) h.0) front }
node_take p s k a n w t rest u is less front h = absurd h

node_put : (p : Plan) (s : State) (k : ℕ) (b : Act) (n : Node) (w : ℕ) (t : Token) (u : net.Node Process) → IsNetworkOf p s → k < length p.nodes →
    net.NodeStep (network_of p) does k (node_of n) (Puts (act_of b) w t) u → Lets p s k b (OfNode n)
node_put p s k (act.Put l) n w t u is less h =
    record { can = (few_out p is.accepted w k l h.0, record { token = t; new = u.vcp; sends = h.1 }); ways = has_way p s k l w is (subst (IsOutOf (network_of p) w) (sym (node.port_is (network_of p) k l less)) h.0) }
node_put p s k (act.Fct l) n w t u is less h =
    record { can = (few_out p is.accepted w k l h.0, (u.vcp, h.2)); ways = has_way p s k l w is (subst (IsOutOf (network_of p) w) (sym (node.port_is (network_of p) k l less)) h.0) }
node_put p s k a n w t u is less h = absurd h

-- the number of a switch is one
pub one_number : (p : Plan) (k i j : ℕ) → k ≡ length p.nodes + i → k ≡ length p.nodes + j → j ≡ i
one_number p k i j a b = omega arith

module _ (p : Plan) (s : State) (k i : ℕ) (x : SwitchState) (at : k ≡ length p.nodes + i) (of : IsSwitchOf (network_of p) i x) (is : IsNetworkOf p s) where
  switch_own : (b : Act) (u : Switching) → net.SwitchStep (network_of p) Wormhole i (seen_switch x) (Own (act_of b)) u → Lets p s k b (OfSwitch x)
  switch_own (act.Pass l) u h = record { can = (u, subst (λ m. Passes m (plan_of x) (seen_switch x) l u) (sym of.limit) (subst (λ q. Passes (network.body_limit (network_of p)) q (seen_switch x) l u) (sym of.given) h)); ways = tt }
  switch_own (act.Route l o) u h = record { can = (u, subst (λ q. Routes q Wormhole (seen_switch x) l o u) (sym of.given) h); ways = tt }
  switch_own a u h = absurd h

  switch_take : (b : Act) (w : ℕ) (t : Token) (rest : List Token) (u : Switching) → (shown s).way w ≡ t ∷ rest → net.SwitchStep (network_of p) Wormhole i (seen_switch x) (Takes (act_of b) w t) u → Lets p s k b (OfSwitch x)
  switch_take (act.Take l v) w t rest u front h =
      record { can = (real_into p is.accepted w i l h.0).1; ways = has_front p s k l w t rest is (subst (IsInto (network_of p) w) (sym (switching.port_is (network_of p) k i l at)) h.0) front }
  switch_take a w t rest u front h = absurd h

  switch_put : (b : Act) (w : ℕ) (t : Token) (u : Switching) → net.SwitchStep (network_of p) Wormhole i (seen_switch x) (Puts (act_of b) w t) u → Lets p s k b (OfSwitch x)
  switch_put (act.Put l) w t u h =
      record { can = record { token = t; new = u; sends = subst (λ q. Sends q Wormhole (seen_switch x) l t u) (sym of.given) h.1 }; ways = has_way p s k l w is (subst (IsOutOf (network_of p) w) (sym (switching.port_is (network_of p) k i l at)) h.0) }
  switch_put (act.Fct l) w t u h =
      record { can = ((real_out p is.accepted w i l h.0).1, (u, h.2)); ways = has_way p s k l w is (subst (IsOutOf (network_of p) w) (sym (switching.port_is (network_of p) k i l at)) h.0) }
  switch_put a w t u h = absurd h

-- an actor's step, by what it is
own_lets : (p : Plan) (s : State) (k : ℕ) (b : Act) (a : Acting) (u : net.Actor Process) → IsNetworkOf p s → IsActorOf (network_of p) k a → Steps p k a (Own (act_of b)) u → Lets p s k b a
own_lets p s k b (OfNode n) (net.IsNode u) is of h = node_own p s k b n u h.1
own_lets p s k b (OfNode n) (net.IsSwitch u) is of h = absurd h
own_lets p s k b (OfSwitch x) (net.IsNode u) is of h = absurd h
own_lets p s k b (OfSwitch x) (net.IsSwitch u) is (i, at, of) (j, there, h) = switch_own p s k i x at of is b u (subst (λ z. net.SwitchStep (network_of p) Wormhole z (seen_switch x) (Own (act_of b)) u) (one_number p k i j at there) h)

take_lets : (p : Plan) (s : State) (k : ℕ) (b : Act) (a : Acting) (w : ℕ) (t : Token) (rest : List Token) (u : net.Actor Process) → IsNetworkOf p s → IsActorOf (network_of p) k a → (shown s).way w ≡ t ∷ rest →
    Steps p k a (Takes (act_of b) w t) u → Lets p s k b a
take_lets p s k b (OfNode n) w t rest (net.IsNode u) is of front h = node_take p s k b n w t rest u is h.0 front h.1
take_lets p s k b (OfNode n) w t rest (net.IsSwitch u) is of front h = absurd h
take_lets p s k b (OfSwitch x) w t rest (net.IsNode u) is of front h = absurd h
take_lets p s k b (OfSwitch x) w t rest (net.IsSwitch u) is (i, at, of) front (j, there, h) =
    switch_take p s k i x at of is b w t rest u front (subst (λ z. net.SwitchStep (network_of p) Wormhole z (seen_switch x) (Takes (act_of b) w t) u) (one_number p k i j at there) h)

put_lets : (p : Plan) (s : State) (k : ℕ) (b : Act) (a : Acting) (w : ℕ) (t : Token) (u : net.Actor Process) → IsNetworkOf p s → IsActorOf (network_of p) k a → Steps p k a (Puts (act_of b) w t) u → Lets p s k b a
put_lets p s k b (OfNode n) w t (net.IsNode u) is of h = node_put p s k b n w t u is h.0 h.1
put_lets p s k b (OfNode n) w t (net.IsSwitch u) is of h = absurd h
put_lets p s k b (OfSwitch x) w t (net.IsNode u) is of h = absurd h
put_lets p s k b (OfSwitch x) w t (net.IsSwitch u) is (i, at, of) (j, there, h) =
    switch_put p s k i x at of is b w t u (subst (λ z. net.SwitchStep (network_of p) Wormhole z (seen_switch x) (Puts (act_of b) w t) u) (one_number p k i j at there) h)

-- what stood at the front of a way
front_of : (s : State) (w : ℕ) (t : Token) (after : List Token) → (if w == w then t ∷ [] else []) ++ after ≡ (shown s).way w ++ [] → (shown s).way w ≡ t ∷ after
front_of s w t after e = sym (append-nil ((shown s).way w)) ∙ sym e ∙ ap (λ z. (if z then t ∷ [] else []) ++ after) (eq-eqb w w refl)

lets : (p : Plan) (s : State) (k : ℕ) (b : Act) (a : Acting) → IsNetworkOf p s → slice_get s.actors k ≡ Some a → Enabled p s k b → Lets p s k b a
lets p s k b a is here (new, (label, e, step)) = by_label label e step
  where
    found : (label : Label net.Act Token) → Step (net.Local (network_of p) Wormhole does) (shown s) k label new → Steps p k a label (new.state k)
    found label step = subst (λ z. net.Local (network_of p) Wormhole does k z label (new.state k)) (state_at s k a here) step.local

    by_label : (label : Label net.Act Token) → label_act label ≡ act_of b → Step (net.Local (network_of p) Wormhole does) (shown s) k label new → Lets p s k b a
    by_label (Own c) e step = own_lets p s k b a (new.state k) is (is.actors k a here) (subst (λ z. Steps p k a (Own z) (new.state k)) e (found (Own c) step))
    by_label (Takes c w t) e step =
        take_lets p s k b a w t (new.way w) (new.state k) is (is.actors k a here) (front_of s w t (new.way w) (step.ways w)) (subst (λ z. Steps p k a (Takes z w t) (new.state k)) e (found (Takes c w t) step))
    by_label (Puts c w t) e step = put_lets p s k b a w t (new.state k) is (is.actors k a here) (subst (λ z. Steps p k a (Puts z w t) (new.state k)) e (found (Puts c w t) step))

-- a number past the actors stands for a switch on no wire, to which nothing happens
module _ (p : Plan) (acc : IsAccepted p) (i : ℕ) (far : length p.switches ≤ i) where
  no_way_out : (w l : ℕ) → IsOutOf (network_of p) w (AtSwitch i l) → ⊥
  no_way_out w l o = let less = (real_out p acc w i l o).0 in omega arith

  no_way_in : (w l : ℕ) → IsInto (network_of p) w (AtSwitch i l) → ⊥
  no_way_in w l o = let less = (real_into p acc w i l o).0 in omega arith

  nothing_happens : (label : Label net.Act Token) (u : Switching) → net.SwitchStep (network_of p) Wormhole i new_switch label u → ⊥
  nothing_happens (Own (net.Route l o)) u h = none_leaves (switch_plan (network_of p) i) [] o h.body refl h.group
  nothing_happens (Own (net.Pass l)) u h = none_passes (network.body_limit (network_of p)) (switch_plan (network_of p) i) new_switch u l refl h
  nothing_happens (Takes (net.Take l x) w t) u h = no_way_in w l h.0
  nothing_happens (Puts (net.Put l) w t) u h = no_way_out w l h.0
  nothing_happens (Puts (net.Fct l) w t) u h = no_way_out w l h.0
  nothing_happens d u h = h

-- by what the code finds

pub happens : (p : Plan) (s : State) (e : Event) (a : Acting) → IsNetworkOf p s → slice_get s.actors e.actor ≡ Some a → CanAct (network_of p) e.actor a e.act → WaysLet s e.actor e.act → CanHappen p s e
happens p s e a is here can ways = enables p s e.actor e.act a is here can ways

pub has_act : (p : Plan) (s : State) (e : Event) (a : Acting) → IsNetworkOf p s → slice_get s.actors e.actor ≡ Some a → CanHappen p s e → CanAct (network_of p) e.actor a e.act
has_act p s e a is here can = (lets p s e.actor e.act a is here can).can

pub has_ways : (p : Plan) (s : State) (e : Event) (a : Acting) → IsNetworkOf p s → slice_get s.actors e.actor ≡ Some a → CanHappen p s e → WaysLet s e.actor e.act
has_ways p s e a is here can = (lets p s e.actor e.act a is here can).ways

pub has_actor : (p : Plan) (s : State) (e : Event) → IsNetworkOf p s → CanHappen p s e → slice_get s.actors e.actor ≡ None → ⊥
has_actor p s e is (new, (label, same, step)) none = by_state (new.state e.actor) (subst (λ z. net.Local (network_of p) Wormhole does e.actor z label (new.state e.actor)) (ap (shown_or (net.IsSwitch new_switch) actor_of) none) step.local)
  where
    past : actors p ≤ e.actor
    past = subst (λ z. z ≤ e.actor) is.count (none_past s.actors e.actor none)

    by_state : (x : net.Actor Process) → net.Local (network_of p) Wormhole does e.actor (net.IsSwitch new_switch) label x → ⊥
    by_state (net.IsNode u) h = h
    by_state (net.IsSwitch u) (i, at, h) = nothing_happens p is.accepted i (let more = past in omega arith) label u h
