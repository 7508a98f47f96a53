-- In a network whose ways have ranks every packet is held at its receiver where only processes can make events.
use Rattle.std.proofs.Common.{◌≡◌, ℕ, zero, suc, ◌+◌, ◌/◌, ◌%◌, ◌<◌, ◌≤◌, Bool, true, false, ◌==◌, inl, inr, List, [], ◌++◌, length, map, slice_get, Option, Some, None, refl, sym, ap, subst, ◌∙◌, arith, le_refl}
use Rattle.std.proofs.lemmas.Bool.Decides.{nat_tests}
use Rattle.std.proofs.lemmas.List.Elements.{All-from_recursion, All-contains}
use Rattle.std.specs.List.{AllByRecursion, Contains}
use Rattle.vc_packets.specs.declared.packet.Packet.{Packet}
use Rattle.vc_tokens.specs.Tokens.{Token}
use Rattle.vc_accepted.specs.NetworkOf.{network_of, wire_of, port_at}
use Rattle.vc_accepted.proofs.AcceptedNetwork.{accepted}
use Rattle.vc_accepted.proofs.Across.{wire_is}
use Rattle.vc_accepted.proofs.Elements.{there}
use Rattle.vc_accepted.proofs.Ports.{side_of}
use Rattle.vc_accepted.proofs.Ranks.{ranked}
use Rattle.vc_accepted.proofs.WayPorts.{wired}
use Rattle.vc_machine.specs.Paths.{Port, AtNode, AtSwitch, Channel}
use Rattle.vc_machine.specs.Links.{Tokens, no_tokens}
use Rattle.vc_machine.specs.Machine.{ChanState}
use Rattle.vc_machine.specs.Places as places
use Rattle.vc_machine.specs.Places.{Place, Queue, OnWire, Inside, Held, BelongsTo, Number, at_place, of_held, of_input}
use Rattle.vc_machine.specs.PacketsOfTokens.{read, passed_on, input_of, seen}
use Rattle.vc_machine.specs.Still.{MovesTokens, IsStill, IsClear}
use Rattle.vc_machine.specs.TokenMachine as tok
use Rattle.vc_machine.specs.TokenMachine.{TokenEvent, TokenStep}
use Rattle.vc_machine.proofs.Labels.{Phase, Waiting, PhaseFits}
use Rattle.vc_machine.proofs.Ownership.{all_both}
use Rattle.vc_machine.proofs.Still.{still_is_clear}
use Rattle.vc_network.specs.Actors.{Network}
use Rattle.vc_network.specs.Network.{Actor, begins}
use Rattle.vc_network.specs.Plan.{Way, back, body_limit, ends, home, near, far, ways, switch_plan, net_of, IsOutOf, IsInto}
use Rattle.vc_network.specs.Plan as network
use Rattle.vc_network.specs.Views.{vcp_of, switch_of, vcps, switches, sink_node, queue_at, in_halves, everywhere}
use Rattle.vc_network.proofs.Able.{node_passes, node_puts, node_grants, switch_passes, switch_puts, switch_routes, switch_grants}
use Rattle.vc_network.proofs.Backs.{back_real, back_out}
use Rattle.vc_network.proofs.PacketSizes.{has_headers}
use Rattle.vc_network.proofs.Main.{Ran, good_start, ran, same_ways, packets}
use Rattle.vc_network.proofs.Replays.{replayed}
use Rattle.vc_network.proofs.TokenViews.{wires, carriers}
use Rattle.vc_network.proofs.Steps.{Good}
use Rattle.vc_network.proofs.Wiring.{net_accepted, carried}
use Rattle.vc_plan.specs.Accepted.{IsAccepted, port_of}
use Rattle.vc_plan.specs.Dependencies.{HasRanks}
use Rattle.vc_plan.specs.Limits.{spot_there}
use Rattle.vc_plan.specs.declared.plan.Plan.{Plan}
use Rattle.vc_plan.specs.declared.port.Spot.{Spot}
use Rattle.vc_plan.specs.declared.port.Spot.TheVariants.{Node as AtSpot, Switch}
use Rattle.vc_plan.specs.declared.port.Wire.{Wire}
use Rattle.vc_switch.specs.State.{State as SwitchState, plan_of}
use Rattle.vc_switch.specs.SwitchView.{seen as seen_switch}
use Rattle.vc_switch.specs.Able as switch_able
use Rattle.vc_switch.specs.Waiting.{Wormhole}
use Rattle.vc_accepted.specs.Begin.{begin_of}
use Rattle.vc_accepted.specs.Process.{Process, does}
use Rattle.vc_vcp.specs.Able as node_able
use Rattle.vc_vcp.specs.VcpView.{seen as seen_node}
use Rattle.vc_actor.specs.Acts.{port}
use Rattle.vc_actor.specs.OfPlan.{IsSwitchOf}
use Rattle.vc_actor.specs.ActorView.{Acting, OfNode, OfSwitch}
use Rattle.vc_actor.specs.declared.act.Act.TheVariants as act
use Rattle.vc_actor.specs.declared.node.Node.{Node}
use Rattle.vc_actor.proofs.LinkTokens as node
use Rattle.vc_actor.proofs.SwitchCalls as switching
use Rattle.vc_core.specs.PossibleEvents.{CanHappen}
use Rattle.vc_core.specs.PacketPlace.{IsUnfinished}
use Rattle.vc_core.specs.Replay.{Reached}
use Rattle.vc_core.specs.State.{State, shown, event_of, IsNetworkOf}
use Rattle.vc_core.specs.Still.{OnlyMoves, NoMove, IsHeld, AllIsHeld, IsUnasked, OnlyProcessesHold}
use Rattle.vc_core.specs.declared.event.Event.{Event}
use Rattle.vc_core.proofs.Enablement.{enables, has_front, has_way, can_take, real_out, few_out, one_number}
use Rattle.vc_core.proofs.Events.{state_at}
use Rattle.vc_switch.proofs.ListWrites.{some_at}

-- a node of a wire is one of the plan
node_at : (p : Plan) (s : Spot) (link n l : ℕ) → port_at s link ≡ AtNode n l → spot_there p s ≡ true → n < length p.nodes
node_at p (AtSpot m) link n l at real = let same : m ≡ n = cc in subst (λ z. z < length p.nodes) same (grind (arith, nat_tests))
node_at p (Switch m) link n l at real = absurd (cc)

pub real_node : (p : Plan) → IsAccepted p → (w n l : ℕ) → IsOutOf (network_of p) w (AtNode n l) → n < length p.nodes
real_node p acc w n l o = settle (there wire_of p.wires (w / 2) (let r = o.0 in omega arith))
  where
    settle : (x : Wire) × (slice_get p.wires (w / 2) ≡ Some x) → n < length p.nodes
    settle (x, e) =
        let side = w % 2 == 0 in
        let at = port_of x side in
        node_at p at.spot at.link n l (sym (side_of x side) ∙ ap (λ z. network.port_of z side) (sym (wire_is p (w / 2) x e)) ∙ o.1) (wired p acc (w / 2) x side e)

-- the code's node, and the code's switch, at a port of a way
record NodeThere (p : Plan) (s : State) (n l : ℕ) : Type 0 where
  pub node : Node
  pub here : slice_get s.actors n ≡ Some (OfNode node)
  pub less : n < length p.nodes
  pub few : l < 4
  pub shows : vcps (shown s) n ≡ seen_node node.vcp

record SwitchThere (p : Plan) (s : State) (k l : ℕ) : Type 0 where
  pub switch : SwitchState
  pub here : slice_get s.actors (length p.nodes + k) ≡ Some (OfSwitch switch)
  pub of : IsSwitchOf (network_of p) k switch
  pub few : l < 32
  pub shows : switches (network_of p) (shown s) k ≡ seen_switch switch

node_there : (p : Plan) (s : State) (w n l : ℕ) → IsNetworkOf p s → IsOutOf (network_of p) w (AtNode n l) → NodeThere p s n l
node_there p s w n l is out = by_actor a.0 a.1
  where
    less : n < length p.nodes
    less = real_node p is.accepted w n l out

    a : (x : Acting) × (slice_get s.actors n ≡ Some x)
    a = some_at s.actors n (let c = is.count in let m = less in omega arith)

    by_actor : (x : Acting) → slice_get s.actors n ≡ Some x → NodeThere p s n l
    by_actor (OfNode x) e = record { node = x; here = e; less = less; few = few_out p is.accepted w n l out; shows = ap vcp_of (state_at s n (OfNode x) e) }
    by_actor (OfSwitch x) e = absurd (let i = is.actors n (OfSwitch x) e in let at : n ≡ length p.nodes + i.0 = i.1 in let m = less in omega arith)

switch_there : (p : Plan) (s : State) (w k l : ℕ) → IsNetworkOf p s → IsOutOf (network_of p) w (AtSwitch k l) → SwitchThere p s k l
switch_there p s w k l is out = by_actor a.0 a.1
  where
    real : (k < length p.switches) × (l < 32)
    real = real_out p is.accepted w k l out

    a : (x : Acting) × (slice_get s.actors (length p.nodes + k) ≡ Some x)
    a = some_at s.actors (length p.nodes + k) (let c = is.count in let m = real.0 in omega arith)

    by_actor : (x : Acting) → slice_get s.actors (length p.nodes + k) ≡ Some x → SwitchThere p s k l
    by_actor (OfNode x) e = absurd (let less : length p.nodes + k < length p.nodes = (is.actors (length p.nodes + k) (OfNode x) e).0 in omega arith)
    by_actor (OfSwitch x) e =
        let i = is.actors (length p.nodes + k) (OfSwitch x) e in
        record {
          switch = x;
          here = e;
          of = subst (λ z. IsSwitchOf (network_of p) z x) (one_number p (length p.nodes + k) k i.0 refl i.1) i.2;
          few = real.1;
          shows = ap switch_of (state_at s (length p.nodes + k) (OfSwitch x) e);
        }

-- an event that is no move of a process
record Moves (p : Plan) (s : State) : Type 0 where
  pub event : Event
  pub none : NoMove event
  pub can : CanHappen p s event

module _ (p : Plan) (s : State) (t : Tokens) (is : IsNetworkOf p s) (g : Good (network_of p) (shown s) t) where
  abbrev N : network.Plan
  N = network_of p

  node_port : (n l : ℕ) → n < length p.nodes → port N n l ≡ AtNode n l
  node_port n l less = node.port_is N n l less

  switch_port : (k l : ℕ) → port N (length p.nodes + k) l ≡ AtSwitch k l
  switch_port k l = switching.port_is N (length p.nodes + k) k l refl

  acc : network.IsAccepted N
  acc = accepted p is.accepted

  take_moves : (w word : ℕ) (u : Tokens) → tok.Takes (net_of N) back t w word u → (q : Port) → far N w ≡ q → Moves p s
  take_moves w word u h (AtNode n l) at =
      let x = node_there p s (back w) n l is (back_out N w (AtNode n l) (h.real, at)) in
      let f = has_front p s n l w h.token h.rest is (h.real, at ∙ sym (node_port n l x.less)) (sym (g.shows.wire w) ∙ h.front) in
      record { event = record { actor = n; act = act.Take l word }; none = λ z. z; can = enables p s n (act.Take l word) (OfNode x.node) is x.here (can_take p s n l word (OfNode x.node) f is x.here) f }
  take_moves w word u h (AtSwitch k l) at =
      let x = switch_there p s (back w) k l is (back_out N w (AtSwitch k l) (h.real, at)) in
      let f = has_front p s (length p.nodes + k) l w h.token h.rest is (h.real, at ∙ sym (switch_port k l)) (sym (g.shows.wire w) ∙ h.front) in
      record {
        event = record { actor = length p.nodes + k; act = act.Take l word };
        none = λ z. z;
        can = enables p s (length p.nodes + k) (act.Take l word) (OfSwitch x.switch) is x.here (can_take p s (length p.nodes + k) l word (OfSwitch x.switch) f is x.here) f;
      }

  pass_moves : (w : ℕ) (u : Tokens) → w < ways N → tok.Passes (net_of N) t w u → (q : Port) → far N w ≡ q → Moves p s
  pass_moves w u real h (AtNode n l) at =
      let x = node_there p s (back w) n l is (back_out N w (AtNode n l) (real, at)) in
      let can = subst (λ z. node_able.CanPass (body_limit N) (ends N n) z l) x.shows (node_passes N acc (shown s) t g w n l u (real, at) h) in
      record { event = record { actor = n; act = act.Pass l }; none = λ z. z; can = enables p s n (act.Pass l) (OfNode x.node) is x.here can tt }
  pass_moves w u real h (AtSwitch k l) at =
      let x = switch_there p s (back w) k l is (back_out N w (AtSwitch k l) (real, at)) in
      let there = subst (λ z. switch_able.CanPass (body_limit N) (switch_plan N k) z l) x.shows (switch_passes N acc (shown s) t g w k l u (real, at) h) in
      let can = subst (λ z. switch_able.CanPass z (plan_of x.switch) (seen_switch x.switch) l) (sym (x.of).limit)
      (subst (λ z. switch_able.CanPass (body_limit N) z (seen_switch x.switch) l) (sym (x.of).given) there) in
      record { event = record { actor = length p.nodes + k; act = act.Pass l }; none = λ z. z; can = enables p s (length p.nodes + k) (act.Pass l) (OfSwitch x.switch) is x.here can tt }

  put_moves : (w : ℕ) (u : Tokens) → w < ways N → 0 < (t.sender w).credit → tok.Puts (net_of N) Wormhole t w u → (q : Port) → near N w ≡ q → Moves p s
  put_moves w u real some h (AtNode n l) at =
      let x = node_there p s w n l is (real, at) in
      let can = subst (λ z. node_able.CanPut z l) x.shows (node_puts N acc (shown s) t g w n l u (real, at) some h) in
      record {
        event = record { actor = n; act = act.Put l };
        none = λ z. z;
        can = enables p s n (act.Put l) (OfNode x.node) is x.here (x.few, can) (has_way p s n l w is (real, at ∙ sym (node_port n l x.less)));
      }
  put_moves w u real some h (AtSwitch k l) at =
      let x = switch_there p s w k l is (real, at) in
      let there = subst (λ z. switch_able.CanPut (switch_plan N k) z l) x.shows (switch_puts N acc (shown s) t g w k l u (real, at) some h) in
      let can = subst (λ z. switch_able.CanPut z (seen_switch x.switch) l) (sym (x.of).given) there in
      record {
        event = record { actor = length p.nodes + k; act = act.Put l };
        none = λ z. z;
        can = enables p s (length p.nodes + k) (act.Put l) (OfSwitch x.switch) is x.here can (has_way p s (length p.nodes + k) l w is (real, at ∙ sym (switch_port k l)));
      }

  grant_moves : (w : ℕ) (u : Tokens) → tok.Grants (net_of N) back t w u → (q : Port) → far N w ≡ q → Moves p s
  grant_moves w u h (AtNode n l) at =
      let out = back_out N w (AtNode n l) (h.real, at) in
      let x = node_there p s (back w) n l is out in
      let can = subst (λ z. node_able.CanGrant z l) x.shows (node_grants N acc (shown s) t g w n l (h.real, at) h.room) in
      record {
        event = record { actor = n; act = act.Fct l };
        none = λ z. z;
        can = enables p s n (act.Fct l) (OfNode x.node) is x.here (x.few, can) (has_way p s n l (back w) is (out.0, out.1 ∙ sym (node_port n l x.less)));
      }
  grant_moves w u h (AtSwitch k l) at =
      let out = back_out N w (AtSwitch k l) (h.real, at) in
      let x = switch_there p s (back w) k l is out in
      let can = subst (λ z. switch_able.CanGrant z l) x.shows (switch_grants N acc (shown s) t g w k l (h.real, at) h.room) in
      record {
        event = record { actor = length p.nodes + k; act = act.Fct l };
        none = λ z. z;
        can = enables p s (length p.nodes + k) (act.Fct l) (OfSwitch x.switch) is x.here (x.few, can) (has_way p s (length p.nodes + k) l (back w) is (out.0, out.1 ∙ sym (switch_port k l)));
      }

  route_moves : (w out : ℕ) (u : Tokens) → tok.Binds (net_of N) Wormhole t w out u → Moves p s
  route_moves w out u h =
      let k = h.switch in
      let l = h.link in
      let into : IsInto N w (AtSwitch k l) = (h.real, h.far) in
      let x = switch_there p s (back w) k l is (back_out N w (AtSwitch k l) into) in
      let r = switch_routes N acc (shown s) t g w out k l u into h in
      let there = subst (λ z. switch_able.CanRoute (switch_plan N k) z l r.0) x.shows r.2 in
      let can = subst (λ z. switch_able.CanRoute z (seen_switch x.switch) l r.0) (sym (x.of).given) there in
      record { event = record { actor = length p.nodes + k; act = act.Route l r.0 }; none = λ z. z; can = enables p s (length p.nodes + k) (act.Route l r.0) (OfSwitch x.switch) is x.here can tt }

  moves : (e : TokenEvent) (u : Tokens) → MovesTokens e → TokenStep (net_of N) back Wormhole t e u → Moves p s
  moves (tok.Proc e) u own h = absurd own
  moves (tok.Take w word) u own h = take_moves w word u h (far N w) refl
  moves (tok.Pass w) u own h = pass_moves w u h.0 h.1 (far N w) refl
  moves (tok.Put w) u own h = put_moves w u h.0 h.1 h.2 (near N w) refl
  moves (tok.PutFct w) u own h = grant_moves w u h (far N w) refl
  moves (tok.Route w out) u own h = route_moves w out u h

  pub still : OnlyMoves p s → IsStill (net_of N) back Wormhole t
  still only e u own h = let m = moves e u own h in m.none (only m.event m.can)

  -- the places

  no_queue : (w : ℕ) → w < ways N → IsClear (net_of N) t w → (q : Port) → near N w ≡ q → (t.nodes.ways w).queue ≡ []
  no_queue w real c (AtNode n l) at = c.queue n l at
  no_queue w real c (AtSwitch k l) at = g.shows.nodes.queue w real ∙ ap (queue_at (carriers (vcps (shown s)))) at

  nothing_in_ways : ((w : ℕ) → w < ways N → IsClear (net_of N) t w) → (n : ℕ) → n ≤ ways N → places.in_ways (seen (net_of N) t) n ≡ []
  nothing_in_ways clear zero h = refl
  nothing_in_ways clear (suc w) h =
      let c = clear w (omega arith) in
      let q = no_queue w (omega arith) c (near N w) refl in
      let rest = nothing_in_ways clear w (omega arith) in
      λ i. ((at_place (Queue w) (q i) ++ at_place (OnWire w) (read (passed_on (net_of N) (far N w) (c.got i) (c.mark i)) (c.buffer i ++ c.wire i))) ++ at_place (Inside w) (of_input (input_of (c.got i) (c.mark i) (c.bound i)))) ++ rest i

-- what halves hold is held
pub halves_held : (plan : network.Plan) (s : Network (Actor Process) Token) (n : ℕ) → AllByRecursion (λ (x : Place × Packet). IsHeld x.0) (in_halves plan s n)
halves_held plan s zero = tt
halves_held plan s (suc c) = all_both (λ (x : Place × Packet). IsHeld x.0) (at_place (Held c) (of_held o)) (in_halves plan s c) (one o) (halves_held plan s c)
  where
    o : Option Packet
    o = ((vcps s (sink_node plan (home plan c))).carrier.into c).held

    one : (o : Option Packet) → AllByRecursion (λ (x : Place × Packet). IsHeld x.0) (at_place (Held c) (of_held o))
    one None = tt
    one (Some q) = (tt, tt)

-- of one half more, which holds this, or of those before it
held_next : (plan : network.Plan) (s : Network (Actor Process) Token) (c d : ℕ) →
    (Number (BelongsTo (net_of plan) c) (in_halves plan s d) 1 → (q : Packet) × (((vcps s (sink_node plan (home plan c))).carrier.into c).held ≡ Some q)) →
    (o : Option Packet) → ((vcps s (sink_node plan (home plan d))).carrier.into d).held ≡ o →
    Number (BelongsTo (net_of plan) c) (at_place (Held d) (of_held o) ++ in_halves plan s d) 1 → (q : Packet) × (((vcps s (sink_node plan (home plan c))).carrier.into c).held ≡ Some q)
held_next plan s c d before None e h = before h
held_next plan s c d before (Some q) e (inl (its, one)) = (q, subst (λ z. ((vcps s (sink_node plan (home plan z))).carrier.into z).held ≡ Some q) (sym its) e)
held_next plan s c d before (Some q) e (inr (not_its, rest)) = before rest

-- the one packet of a channel that is held is held for it
pub held_one : (plan : network.Plan) (s : Network (Actor Process) Token) (c n : ℕ) → Number (BelongsTo (net_of plan) c) (in_halves plan s n) 1 → (q : Packet) × (((vcps s (sink_node plan (home plan c))).carrier.into c).held ≡ Some q)
held_one plan s c zero h = absurd (let e : 1 ≡ 0 = h in omega arith)
held_one plan s c (suc d) h = held_next plan s c d (held_one plan s c d) ((vcps s (sink_node plan (home plan d))).carrier.into d).held refl h

-- where a piece is held no process inputs
pub unasked : (ch : Channel) (f : Phase) (x : ChanState) (n : ℕ) (q : Packet) → PhaseFits ch f x n → x.held ≡ Some q → x.wants ≡ false
unasked ch Waiting x n q h e = h.2
unasked ch y x n q h e = absurd (let k : None ≡ Some q = sym h.1 ∙ e in cc)

module _ (p : Plan) (made : List Event) (s : State) (ranks : HasRanks p) (r : Reached p made s) (only : OnlyMoves p s) where
  abbrev M : network.Plan
  M = network_of p

  ok : network.IsAccepted M
  ok = accepted p (r.is).accepted

  went : Ran M Wormhole does (begins M (begin_of p)) (shown s) no_tokens
  went =
      let run = replayed M Wormhole does (begins M (begin_of p)) (shown s) (map event_of made) r.happen in
      ran M Wormhole does ok run.0 (begins M (begin_of p)) (shown s) no_tokens (good_start M (begin_of p)) run.1

  clear : (w : ℕ) → w < ways M → IsClear (net_of M) went.new w
  clear w real =
      still_is_clear (net_of M) back Wormhole M.headers (net_accepted M ok) (has_headers M ok) (ranked p (r.is).accepted ranks) (wires M) (λ v h. back_real M v h) went.events went.new went.run
      (still p s went.new r.is went.good only) w real

  halves_only : everywhere M (shown s) ≡ in_halves M (shown s) (length M.channels)
  halves_only =
      ap (λ xs. xs ++ in_halves M (shown s) (length M.channels))
      (sym (same_ways M (shown s) went.new went.good (ways M) (le_refl (ways M))) ∙ nothing_in_ways p s went.new r.is went.good clear (ways M) (le_refl (ways M)))

  pub all_held : AllIsHeld M (shown s)
  all_held = record {
    packets = λ x here. All-contains (λ (x : Place × Packet). IsHeld x.0) (in_halves M (shown s) (length M.channels)) x
        (All-from_recursion (λ (x : Place × Packet). IsHeld x.0) (in_halves M (shown s) (length M.channels)) (halves_held M (shown s) (length M.channels)))
        (subst (λ xs. Contains xs x) halves_only here);
    ways = λ w real. sym (went.good.shows.wire w) ∙ (clear w real).wire;
  }

  pub held_unasked : (c v : ℕ) (ab : Bool) → home M c ≡ Way v ab → c < length M.channels → IsUnfinished p s c → IsUnasked M (shown s) c
  held_unasked c v ab at less unfinished =
      let one = (packets M (shown s) went.new went.good ok c v ab less at).one_packet unfinished in
      let q = held_one M (shown s) c (length M.channels) (subst (λ xs. Number (BelongsTo (net_of M) c) xs 1) halves_only one) in
      let inv = went.good.sound.inv in
      let chan = went.good.shows.nodes.chan c in
      let fits = (inv.chans c (carried M c v ab at)).phase in
      record {
        packet = q.0;
        held = q.1;
        unasked = sym (ap (λ (x : ChanState). x.wants) chan) ∙ unasked ((net_of M).chan c) (inv.phases c) (went.new.nodes.chans c) _ q.0 fits (ap (λ (x : ChanState). x.held) chan ∙ q.1);
      }

pub only_processes_hold : OnlyProcessesHold
only_processes_hold p made s ranks r only = record {
  packets = all_held p made s ranks r only;
  outputs = λ c v ab at less unfinished. held_unasked p made s ranks r only c v ab at less unfinished;
}
