-- What a token can do an actor does: each step of the ways that is no move of a process is an event of the network.
use Rattle.std.proofs.Common.{◌≡◌, ℕ, ◌+◌, ◌<◌, inl, inr, List, ◌∷◌, ◌++◌, length, Option, Some, None, refl, sym, ap, subst, ◌∙◌}
use Rattle.vc_accepted.proofs.AcceptedNetwork.{accepted}
use Rattle.vc_accepted.proofs.Elements.{there}
use Rattle.vc_accepted.specs.NetworkOf.{network_of}
use Rattle.vc_accepted.specs.Process.{Process, does}
use Rattle.vc_credit.specs.Ends.{Sender, Puts, puts_byte, puts_mark}
use Rattle.vc_machine.specs.Links.{Tokens}
use Rattle.vc_machine.specs.Machine as net
use Rattle.vc_machine.specs.Paths.{Port, AtNode, AtSwitch}
use Rattle.vc_machine.specs.Still.{MovesTokens}
use Rattle.vc_machine.specs.TokenMachine as tok
use Rattle.vc_machine.specs.TokenMachine.{TokenEvent, TokenStep}
use Rattle.vc_network.proofs.Able.{body_back, node_passes, node_puts, node_grants, switch_passes, switch_grants}
use Rattle.vc_network.proofs.Backs.{back_out}
use Rattle.vc_network.proofs.TokenViews.{SwitchEnd, SameReceiver}
use Rattle.vc_network.proofs.Steps.{Good, puts_wormhole}
use Rattle.vc_network.proofs.SwitchLinks.{bound_some, bound_back}
use Rattle.vc_network.proofs.Wires.{one_near}
use Rattle.vc_network.proofs.Writes.{own_step, take_step, put_step}
use Rattle.vc_network.specs.Actors.{Label, Network, ActBy}
use Rattle.vc_network.specs.Actors.Label.{Own, Takes, Puts as PutsOn}
use Rattle.vc_network.specs.Credit.{sender_at}
use Rattle.vc_network.specs.Network.{Act, Take, Put, Route, Fct, Pass, Node, Actor, IsNode, IsSwitch, Local, NodeStep, SwitchStep, Happens}
use Rattle.vc_network.specs.Packets.{SameBound}
use Rattle.vc_network.specs.Plan as network
use Rattle.vc_network.specs.Plan.{back, body_limit, ends, switch_plan, net_of, near, far, ways, IsOutOf, IsInto}
use Rattle.vc_network.specs.Still.{IsNoMove}
use Rattle.vc_network.specs.Views.{vcp_of, switch_of, vcps, switches}
use Rattle.vc_plan.specs.Accepted.{IsAccepted}
use Rattle.vc_plan.specs.declared.plan.Plan.{Plan}
use Rattle.vc_switch.proofs.Steps.{each_comes}
use Rattle.vc_switch.specs.Able as switch_able
use Rattle.vc_switch.specs.Switch as switch
use Rattle.vc_switch.specs.Switch.{Switch, Input}
use Rattle.vc_switch.specs.Waiting.{Waiting, MayGo}
use Rattle.vc_tokens.specs.Tokens as tokens
use Rattle.vc_tokens.specs.Tokens.{Token, Byte, EndMark}
use Rattle.vc_vcp.proofs.Arrivals.{comes_always}
use Rattle.vc_vcp.specs.Able as node_able
use Rattle.vc_actor.specs.OfPlan.{InStep}
use Rattle.vc_actor.proofs.Passes.{awaited}
use Rattle.vc_core.proofs.GoingOn.{goes_on}
use Rattle.vc_core.proofs.Still.{real_node}
use Rattle.vc_machine.proofs.Ports.{switch_same, not_both}

-- an input that is bound to no way is bound to no output
unbound_input : (plan : network.Plan) (k : ℕ) (x b : Option ℕ) → SameBound plan k x b → b ≡ None → x ≡ None
unbound_input plan k None b h e = refl
unbound_input plan k (Some o) b h e = absurd (let f : None ≡ Some h.0 = sym e ∙ h.1 in cc)

-- a token of the switch goes out
record Puttable (plan : network.Plan) (waiting : Waiting) (old : Switch) (k output : ℕ) : Type 0 where
  pub token : Token
  pub new : Switch
  pub sends : switch.Sends (switch_plan plan k) waiting old output token new

-- each node is in step with its halves, and past the nodes there are switches
pub record Placed (p : Plan) (s : Network (Actor Process) Token) : Type 0 where
  pub in_step : (n : ℕ) (a : Node Process) → s.state n ≡ IsNode a → InStep a.vcp.carrier a.process
  pub switch : (k : ℕ) → (b : Switch) × (s.state (length p.nodes + k) ≡ IsSwitch b)

-- an event that is no move of a process
pub record Moved (p : Plan) (waiting : Waiting) (s : Network (Actor Process) Token) : Type 0 where
  pub event : ActBy Act
  pub new : Network (Actor Process) Token
  pub no_move : IsNoMove event.act
  pub happens : Happens (network_of p) waiting does s event new

module _ (p : Plan) (acc : IsAccepted p) (waiting : Waiting) (s : Network (Actor Process) Token) (t : Tokens) (g : Good (network_of p) s t) (placed : Placed p s) where
  abbrev plan : network.Plan
  plan = network_of p

  ok : network.IsAccepted plan
  ok = accepted p acc

  abbrev Steps : ℕ → Label Act Token → Actor Process → Type 0
  Steps n label x = Local plan waiting does n (s.state n) label x

  -- ---- an actor's step is an event

  own : (n : ℕ) (act : Act) (x : Actor Process) → IsNoMove act → Steps n (Own act) x → Moved p waiting s
  own n act x none step = record { event = record { actor = n; act = act }; new = _; no_move = none; happens = (Own act, refl, own_step (Local plan waiting does) s n act x step) }

  take : (n l word w : ℕ) (k : Token) (rest : List Token) (x : Actor Process) → t.wire w ≡ k ∷ rest → Steps n (Takes (Take l word) w k) x → Moved p waiting s
  take n l word w k rest x front step =
      record {
        event = record { actor = n; act = Take l word };
        new = _;
        no_move = tt;
        happens = (Takes (Take l word) w k, refl, take_step (Local plan waiting does) s n (Take l word) w k rest x (sym (g.shows.wire w) ∙ front) step);
      }

  puts : (n : ℕ) (act : Act) (w : ℕ) (k : Token) (x : Actor Process) → IsNoMove act → Steps n (PutsOn act w k) x → Moved p waiting s
  puts n act w k x none step =
      record { event = record { actor = n; act = act }; new = _; no_move = none; happens = (PutsOn act w k, refl, put_step (Local plan waiting does) s n act w k x step) }

  -- ---- actors

  less : (w n l : ℕ) → IsOutOf plan w (AtNode n l) → n < length p.nodes
  less w n l out = real_node p acc w n l out

  abbrev NodeAt : ℕ → Type 0
  NodeAt n = (a : Node Process) × (s.state n ≡ IsNode a)

  node_there : (w n l : ℕ) → IsOutOf plan w (AtNode n l) → NodeAt n
  node_there w n l out = g.kinds n (less w n l out)

  at_node : (n : ℕ) (a : Node Process) → s.state n ≡ IsNode a → n < length p.nodes → (label : Label Act Token) (b : Node Process) → NodeStep plan does n a label b → Steps n label (IsNode b)
  at_node n a is few label b step = subst (λ z. Local plan waiting does n z label (IsNode b)) (sym is) (few, step)

  at_switch : (k : ℕ) (label : Label Act Token) (b : Switch) → SwitchStep plan waiting k (placed.switch k).0 label b → Steps (length p.nodes + k) label (IsSwitch b)
  at_switch k label b step = subst (λ z. Local plan waiting does (length p.nodes + k) z label (IsSwitch b)) (sym (placed.switch k).1) (k, refl, step)

  shown_vcp : (n : ℕ) (a : NodeAt n) → vcps s n ≡ a.0.vcp
  shown_vcp n a = ap vcp_of a.1

  shown_switch : (k : ℕ) → switches plan s k ≡ (placed.switch k).0
  shown_switch k = ap switch_of (placed.switch k).1

  -- ---- takes and passes

  take_moves : (w word : ℕ) (u : Tokens) → tok.Takes (net_of plan) back t w word u → (q : Port) → far plan w ≡ q → Moved p waiting s
  take_moves w word u h (AtNode n l) at =
      let out = back_out plan w (AtNode n l) (h.real, at) in
      let a = node_there (back w) n l out in
      let c = comes_always a.0.vcp l h.token in
      take n l word w h.token h.rest (IsNode (record a.0 { vcp = c.0 })) h.front
      (at_node n a.0 a.1 (less (back w) n l out) (Takes (Take l word) w h.token) (record a.0 { vcp = c.0 }) ((h.real, at), c.1, record { process = refl; inner = refl }))
  take_moves w word u h (AtSwitch k l) at =
      let c = each_comes (placed.switch k).0 l word h.token in
      take (length p.nodes + k) l word w h.token h.rest (IsSwitch c.0) h.front (at_switch k (Takes (Take l word) w h.token) c.0 ((h.real, at), c.1))

  pass_moves : (w : ℕ) (u : Tokens) → w < ways plan → tok.Passes (net_of plan) t w u → (q : Port) → far plan w ≡ q → Moved p waiting s
  pass_moves w u real h (AtNode n l) at =
      let out = back_out plan w (AtNode n l) (real, at) in
      let a = node_there (back w) n l out in
      let can = subst (λ z. node_able.CanPass (body_limit plan) (ends plan n) z l) (shown_vcp n a) (node_passes plan ok s t g w n l u (real, at) h) in
      let q = goes_on a.0.process can.taken (awaited (body_limit plan) (ends plan n) a.0.vcp can.new l can.taken a.0.process can.passes (placed.in_step n a.0 a.1)) in
      let b : Node Process = record { vcp = can.new; process = q.0; inner = a.0.inner } in
      own n (Pass l) (IsNode b) tt (at_node n a.0 a.1 (less (back w) n l out) (Own (Pass l)) b (can.taken, can.passes, q.1, refl))
  pass_moves w u real h (AtSwitch k l) at =
      let can = subst (λ z. switch_able.CanPass (body_limit plan) (switch_plan plan k) z l) (shown_switch k) (switch_passes plan ok s t g w k l u (real, at) h) in
      own (length p.nodes + k) (Pass l) (IsSwitch can.0) tt (at_switch k (Own (Pass l)) can.0 can.1)

  -- ---- puts of switches

  switch_end : (w k l : ℕ) → IsInto plan w (AtSwitch k l) → SwitchEnd plan k ((switches plan s k).input l) (t.receiver w)
  switch_end w k l into = subst (λ q. SameReceiver plan (vcps s) (switches plan s) q (t.receiver w)) into.1 (g.shows.receiver w into.0)

  -- an input that is bound to the link of way w is at the end of a way that is bound to w
  bound_way : (w k o i : ℕ) → IsOutOf plan w (AtSwitch k o) → ((switches plan s k).input i).bound ≡ Some o → (v : ℕ) × IsInto plan v (AtSwitch k i) × ((t.receiver v).bound ≡ Some w)
  bound_way w k o i out b = elim (g.switched k i) [
    | inl new ↦ absurd (let e : None ≡ Some o = sym (ap (λ (x : Input). x.bound) new) ∙ b in cc)
    | inr at ↦ (let e = switch_end at.0 k i at.1 in
        let q = bound_some plan k o ((switches plan s k).input i).bound (t.receiver at.0).bound e.bound b in
        (at.0, at.1, q.1 ∙ ap Some (one_near plan ok q.0 w q.2.0 out.0 (q.2.1 ∙ sym out.1))))
  ]

  put_by : (w k o v : ℕ) (d : List ℕ) (token : Token) (sender : Sender) → IsOutOf plan w (AtSwitch k o) → (m : ℕ) → tok.IsBoundTo (net_of plan) waiting t m v w d →
      ((x : Input) → x.mark ≡ (t.receiver v).mark → Puts ((switches plan s k).output o) d x.mark token sender) → Puttable plan waiting (switches plan s k) k o
  put_by w k o v d token sender out m h puts =
      let l1 = h.leaves in
      let l2 = l1.leaves in
      let sk : m ≡ k = (switch_same m k l2.link o (sym l2.near ∙ out.1)).0 in
      let into : IsInto plan v (AtSwitch k h.link) = (h.real, h.far ∙ ap (λ z. AtSwitch z h.link) sk) in
      let e = switch_end v k h.link into in
      let q = bound_back plan k w ((switches plan s k).input h.link).bound (t.receiver v).bound e.bound h.bound in
      let here : ((switches plan s k).input h.link).bound ≡ Some o = q.1 ∙ ap Some (switch_same k k q.0 o (sym q.2.1 ∙ out.1)).1 in
      record {
        token = token;
        new = _;
        sends = record {
          link = h.link;
          body = d;
          sender = sender;
          bound = here;
          only = λ i b. (let x = bound_way w k o i out b in
              let same : x.0 ≡ v = g.sound.bindings.one x.0 v w x.1.0 h.real x.2 h.bound in
              (switch_same k k i h.link (sym x.1.1 ∙ ap (far plan) same ∙ into.1)).1);
          leaves = body_back plan k o w ((switches plan s k).input h.link).got d out.1 (subst (λ z. net.BodyLeaves (net_of plan) k z w d) e.got (subst (λ z. net.BodyLeaves (net_of plan) z (t.receiver v).got w d) sk h.leaves));
          may_go = subst (MayGo waiting) e.mark h.may_go;
          puts = puts ((switches plan s k).input h.link) (sym e.mark);
          after = refl;
        };
      }

  switch_puts : (w k o : ℕ) (u : Tokens) → IsOutOf plan w (AtSwitch k o) → 0 < (t.sender w).credit → tok.Puts (net_of plan) waiting t w u → Puttable plan waiting (switches plan s k) k o
  switch_puts w k o u out some (tok.node_byte m i q rest b more there front is after) = absurd (not_both m i k o (sym there ∙ out.1))
  switch_puts w k o u out some (tok.node_mark m i q rest there front is after) = absurd (not_both m i k o (sym there ∙ out.1))
  switch_puts w k o u out some (tok.switch_byte m v d b more h is after) =
      let a : t.sender w ≡ (switches plan s k).output o = g.shows.sender w out.0 ∙ ap (sender_at (vcps s) (switches plan s)) out.1 in
      put_by w k o v d (Byte b) _ out m h (λ x same. puts_byte b more (subst (λ (z : Sender). 0 < z.credit) a some) (is ∙ ap (λ (z : Sender). z.sent ++ b ∷ more) a) refl refl)
  switch_puts w k o u out some (tok.switch_mark m v d mark h whole is after) =
      let a : t.sender w ≡ (switches plan s k).output o = g.shows.sender w out.0 ∙ ap (sender_at (vcps s) (switches plan s)) out.1 in
      put_by w k o v d (EndMark mark) _ out m h (λ x same. puts_mark mark (subst (λ (z : Sender). 0 < z.credit) a some) (is ∙ ap (λ (z : Sender). z.sent) a) (same ∙ whole) refl refl)

  -- ---- puts and routes

  put_moves : (w : ℕ) (u : Tokens) → w < ways plan → 0 < (t.sender w).credit → tok.Puts (net_of plan) waiting t w u → (q : Port) → near plan w ≡ q → Moved p waiting s
  put_moves w u real some h (AtNode n l) at =
      let a = node_there w n l (real, at) in
      let can = subst (λ z. node_able.CanPut z l) (shown_vcp n a) (node_puts plan ok s t g w n l u (real, at) some (puts_wormhole (net_of plan) waiting t w u h)) in
      let b : Node Process = record a.0 { vcp = can.new } in
      puts n (Put l) w can.token (IsNode b) tt (at_node n a.0 a.1 (less w n l (real, at)) (PutsOn (Put l) w can.token) b ((real, at), can.sends, record { process = refl; inner = refl }))
  put_moves w u real some h (AtSwitch k l) at =
      let can = subst (λ z. Puttable plan waiting z k l) (shown_switch k) (switch_puts w k l u (real, at) some h) in
      puts (length p.nodes + k) (Put l) w can.token (IsSwitch can.new) tt (at_switch k (PutsOn (Put l) w can.token) can.new ((real, at), can.sends))

  grant_moves : (w : ℕ) (u : Tokens) → tok.Grants (net_of plan) back t w u → (q : Port) → far plan w ≡ q → Moved p waiting s
  grant_moves w u h (AtNode n l) at =
      let out = back_out plan w (AtNode n l) (h.real, at) in
      let a = node_there (back w) n l out in
      let can = subst (λ z. node_able.CanGrant z l) (shown_vcp n a) (node_grants plan ok s t g w n l (h.real, at) h.room) in
      let b : Node Process = record a.0 { vcp = can.0 } in
      puts n (Fct l) (back w) tokens.Fct (IsNode b) tt (at_node n a.0 a.1 (less (back w) n l out) (PutsOn (Fct l) (back w) tokens.Fct) b (out, refl, can.1, record { process = refl; inner = refl }))
  grant_moves w u h (AtSwitch k l) at =
      let out = back_out plan w (AtSwitch k l) (h.real, at) in
      let can = subst (λ z. switch_able.CanGrant z l) (shown_switch k) (switch_grants plan ok s t g w k l (h.real, at) h.room) in
      puts (length p.nodes + k) (Fct l) (back w) tokens.Fct (IsSwitch can.0) tt (at_switch k (PutsOn (Fct l) (back w) tokens.Fct) can.0 (out, refl, can.1))

  switch_routes : (w out k l : ℕ) (u : Tokens) → IsInto plan w (AtSwitch k l) → tok.Binds (net_of plan) waiting t w out u →
      (o : ℕ) × (new : Switch) × switch.Routes (switch_plan plan k) waiting (switches plan s k) l o new
  switch_routes w out k l u into h =
      let e = switch_end w k l into in
      let q = switch_same h.switch k h.link l (sym h.far ∙ into.1) in
      let group : net.BodyLeaves (net_of plan) k (t.receiver w).got out h.body = subst (λ z. net.BodyLeaves (net_of plan) z (t.receiver w).got out h.body) q.0 h.group in
      let j = group.leaves in
      let to : IsOutOf plan out (AtSwitch k j.link) = (j.real, j.near) in (
        j.link,
        _,
        record {
          body = h.body;
          unbound = unbound_input plan k ((switches plan s k).input l).bound (t.receiver w).bound e.bound h.unbound;
          group = body_back plan k j.link out ((switches plan s k).input l).got h.body j.near (subst (λ z. net.BodyLeaves (net_of plan) k z out h.body) e.got group);
          may_go = subst (MayGo waiting) e.mark h.may_go;
          free = λ i b. (let v = bound_way out k j.link i to b in h.free v.0 v.1.0 v.2);
          after = refl;
        },
      )

  route_moves : (w out : ℕ) (u : Tokens) → tok.Binds (net_of plan) waiting t w out u → Moved p waiting s
  route_moves w out u h =
      let k = h.switch in
      let r = switch_routes w out k h.link u (h.real, h.far) h in
      own (length p.nodes + k) (Route h.link r.0) (IsSwitch r.1) tt
      (at_switch k (Own (Route h.link r.0)) r.1 (subst (λ z. switch.Routes (switch_plan plan k) waiting z h.link r.0 r.1) (shown_switch k) r.2))

  pub lifted : (e : TokenEvent) (u : Tokens) → MovesTokens e → TokenStep (net_of plan) back waiting t e u → Moved p waiting s
  lifted (tok.Proc e) u none h = absurd none
  lifted (tok.Take w word) u none h = take_moves w word u h (far plan w) refl
  lifted (tok.Pass w) u none h = pass_moves w u h.0 h.1 (far plan w) refl
  lifted (tok.Put w) u none h = put_moves w u h.0 h.1 h.2 (near plan w) refl
  lifted (tok.PutFct w) u none h = grant_moves w u h (far plan w) refl
  lifted (tok.Route w out) u none h = route_moves w out u h
